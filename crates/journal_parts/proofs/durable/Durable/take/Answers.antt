use Rattle.std.proofs.Common.{◌<◌, ◌≤◌, ⊎_elim, IsTrue, length, sym, subst, arith}
use mathlib.Core.List.{IsPrefix}
use Rattle.journal_world.specs.Histories.{is_trusted, floor}
use Rattle.journal_wal.specs.Groups.{HasGroupRoom}
use Rattle.journal_memory.specs.Updates.{HaveAllSince}
use Rattle.journal_parts.specs.Durables.{DurableState}
use Rattle.journal_objlog.specs.StepLaws.{may_crash, takes_map}
use Rattle.journal_parts.proofs.Enduring.{kept_take, crashes_call}
use Rattle.journal_parts.proofs.durable.Durable.take.Goals as goal

pub returns-clause-flies : goal.returns-clause-flies
returns-clause-flies g c = ⊎_elim
    (λ flies. c.is_logging-flying.ensures.group.0 flies)
    (λ rests. absurd (omega (arith, rests.0, c.take_reserved.ensures.takes.steps)))
    c.is_logging-flying.ensures.rest

pub invariant_of-self : goal.invariant_of-self
invariant_of-self g c =
    let flying : c.take_reserved.new.self.log.logged < c.take_reserved.new.self.log.cut = ⊎_elim
    (λ flies. c.is_logging-flying.ensures.group.0 flies)
    (λ rests. absurd (omega (arith, rests.0, c.take_reserved.ensures.takes.steps)))
    c.is_logging-flying.ensures.rest in
    kept_take g.J.Naming.layout _ c.self.invariant c.args.front (subst (λ (d : DurableState). IsPrefix d.front c.args.front) (sym c.self.view_is) c.requires.longer)
    c.take_reserved.new.self c.args.group.items c.args.commits
    (may_crash c.self.inside.objects.log c.take_reserved.new.self c.take_reserved.ensures.crash) c.take_reserved.ensures.takes
    (takes_map c.self.inside.objects.log c.take_reserved.new.self c.args.group.items c.take_reserved.ensures.takes)
    (subst (λ (d : DurableState). HasGroupRoom d.objects (length c.args.group.items)) (sym c.self.view_is) c.requires.room)
    flying
    c.requires.counted
    (subst (λ (d : DurableState). floor c.args.front ≤ d.marked) (sym c.self.view_is) c.requires.floored)
    (subst (λ (d : DurableState). IsTrue (is_trusted c.args.front) → HaveAllSince g.J.Naming.layout c.args.front d.logged c.args.group.items) (sym c.self.view_is) c.requires.all)

pub returns-clause-crash : goal.returns-clause-crash
returns-clause-crash g c =
    crashes_call g.J.Naming.layout _ _ _ c.self.invariant c.self.view_is (invariant_of-self g c)
    (may_crash c.self.inside.objects.log c.take_reserved.new.self c.take_reserved.ensures.crash)
