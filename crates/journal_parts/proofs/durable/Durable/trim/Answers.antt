use Rattle.std.proofs.Common.{◌≤◌, ℕ, sym, subst}
use Rattle.journal_objlog.specs.ObjectLogs.{end_of}
use Rattle.journal_parts.specs.Holds.{Trims}
use Rattle.journal_parts.proofs.durable.Durable.trim.Goals as goal

pub returns-clause-event : goal.returns-clause-event
returns-clause-event g c =
    let home : c.freed.inside.upto ≤ end_of c.args.self.now.objects = subst (λ (n : ℕ). n ≤ end_of c.args.self.now.objects) (sym c.freed.view_is) c.requires.home in
    subst (λ (n : ℕ). Trims g.J.Naming.layout c.args.volatile.now c.args.self.now n c.trim_memory.new.volatile) c.freed.view_is (record {
      drops = c.trim_memory.ensures.drops;
      left = c.trim_memory.ensures.left;
      others = c.trim_memory.ensures.others;
      kept = c.prove_invariant.ensures;
      tied = c.trim_memory.ensures.tied home;
    })
