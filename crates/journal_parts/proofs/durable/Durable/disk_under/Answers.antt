use Rattle.std.proofs.Common.{inl, ◌≡◌, ◌<◌, ◌≤◌, ap, sym, subst, ◌∙◌, arith, rules}
use mathlib.Core.List.{IsPrefix}
use Rattle.journal_world.specs.declared.refusal.Refusal.{Refusal}
use Rattle.journal_world.specs.Histories.{floor}
use Rattle.journal_tail.proofs.Exits.{if_err}
use Rattle.journal_memory.specs.Causes.{CauseState}
use Rattle.journal_parts.specs.Durables.{DurableState, IsDurable, disk_of}
use Rattle.journal_memory.specs.Volatiles.{IsFrontRefusal}
use Rattle.journal_parts.specs.Pairs.{IsUntied}
use Rattle.journal_tail.proofs.Comparing.{below, not_below}
use Rattle.journal_parts.proofs.Enduring.{leaves_disk}
use Rattle.journal_memory.proofs.Fronts.{trusted-longer}
use Rattle.journal_parts.proofs.Pairing.{begins_not, leaves_history}
use Rattle.journal_parts.proofs.durable.Durable.disk_under.Goals as goal

pub returns-in_err-front-clause-refusal : goal.returns-in_err-front-clause-refusal
returns-in_err-front-clause-refusal g c =
    if_err c.from_residual.result _ (IsUntied c.args.volatile.now c.args.self.now c.args.self.now.marked) c.from_residual.ensures.1
    (λ (e : Refusal CauseState) is. subst (λ (r : Refusal CauseState). IsUntied c.args.volatile.now c.args.self.now c.args.self.now.marked r) (sym is)
    (inl (subst (λ (d : DurableState). IsFrontRefusal c.args.volatile.now.ledger.history d.front c.in_err-front.field-0.0) c.self.view_is c.in_err-front.ensures.refusal)))

pub returns-in_err-front-clause-only : goal.returns-in_err-front-clause-only
returns-in_err-front-clause-only g c = λ tied.
    absurd (begins_not c.args.volatile.now.ledger.history c.self.inside.front c.in_err-front.field-0.0 c.in_err-front.ensures.refusal
    (subst (λ (d : DurableState). IsPrefix d.front c.args.volatile.now.ledger.history) (sym c.self.view_is) tied.begins))

pub returns-then-lt-clause-refusal : goal.returns-then-lt-clause-refusal
returns-then-lt-clause-refusal g c =
    let marked : c.self.inside.marked ≡ c.args.self.now.marked = ap (λ (d : DurableState). d.marked) c.self.view_is in
    let lower : c.args.self.now.marked < floor c.args.volatile.now.ledger.history =
    omega (arith, below c.self.inside.marked c.floor.result c.if-lt.ensures, c.floor.ensures, marked) in
    search rules

pub returns-clause-trusted : goal.returns-clause-trusted
returns-clause-trusted g c =
    let kept = subst (IsDurable g.J.Naming.layout) c.self.view_is c.self.invariant in
    trusted-longer c.args.self.now.front c.args.volatile.now.ledger.history kept.begun
    (subst (λ (d : DurableState). IsPrefix d.front c.args.volatile.now.ledger.history) c.self.view_is c.in_ok-front.ensures.begins)
    ∙ kept.trusted

pub returns-clause-images : goal.returns-clause-images
returns-clause-images g c = λ honest image one.
    leaves_history g.J.Naming.layout c.args.self.now c.args.volatile.now.ledger.history image
    (subst (IsDurable g.J.Naming.layout) c.self.view_is c.self.invariant)
    (subst (λ (d : DurableState). IsPrefix d.front c.args.volatile.now.ledger.history) c.self.view_is c.in_ok-front.ensures.begins)
    (subst (λ (d : DurableState). floor c.args.volatile.now.ledger.history ≤ d.marked) c.self.view_is (omega (arith, not_below c.self.inside.marked c.floor.result c.if-lt.ensures, c.floor.ensures)))
    (leaves_disk g.J.Naming.layout _ c.args.self.now (disk_of c.args.self.now) c.self.invariant c.self.view_is
    (sym (ap disk_of c.self.view_is)) honest image one)
