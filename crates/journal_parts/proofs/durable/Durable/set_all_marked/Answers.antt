use Rattle.std.proofs.Common.{IsTrue, refl, sym, subst, []}
use mathlib.Core.List.{IsPrefix}
use Rattle.journal_world.specs.Histories.{is_trusted}
use Rattle.journal_objlog.specs.ObjectLogs.{IsCutLogged}
use Rattle.journal_memory.specs.Updates.{HaveAllSince}
use Rattle.journal_parts.specs.Durables.{DurableState}
use Rattle.journal_parts.proofs.Enduring.{kept_reach, crashes_noted}
use Rattle.journal_parts.proofs.durable.Durable.set_all_marked.Goals as goal

pub invariant_of-self : goal.invariant_of-self
invariant_of-self g c =
    kept_reach g.J.Naming.layout _ c.self.invariant c.args.front (subst (λ (d : DurableState). IsPrefix d.front c.args.front) (sym c.self.view_is) c.requires.longer)
    c.args.commits (subst (λ (d : DurableState). IsCutLogged d.objects) (sym c.self.view_is) c.requires.rest) c.requires.counted c.requires.floored
    (subst (λ (d : DurableState). IsTrue (is_trusted c.args.front) → HaveAllSince g.J.Naming.layout c.args.front d.logged []) (sym c.self.view_is) c.requires.all)

pub returns-clause-crash : goal.returns-clause-crash
returns-clause-crash g c = crashes_noted g.J.Naming.layout _ _ _ c.self.invariant c.self.view_is (invariant_of-self g c) refl
