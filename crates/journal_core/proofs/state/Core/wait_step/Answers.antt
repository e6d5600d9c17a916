use Rattle.std.proofs.Common.{ℕ, ◌≤◌, ◌↔◌, IsTrue, IfOk, IfErr, OnOk, sym, subst}
use Rattle.journal_world.specs.Histories.{floor}
use Rattle.journal_memory.specs.Outsets.{Outset}
use Rattle.journal_memory.specs.Waits.{MayWait, IsWaitRefusal}
use Rattle.journal_memory.specs.Volatiles.{VolatileState}
use Rattle.journal_parts.specs.CoreStates.{CoreState}
use Rattle.journal_parts.specs.CoreParts.{IsPair, outset}
use Rattle.journal_core.proofs.Joining.{outset_seen}
use Rattle.journal_core.proofs.state.Core.wait_step.Goals as goal

pub invariant_of-self : goal.invariant_of-self
invariant_of-self g c = record {
  pair = subst (λ (v : VolatileState). IsPair g.J.Naming.layout v c.self.inside.durable) (sym c.wait_step.ensures.same) c.self.invariant.pair;
  room = c.self.invariant.room;
}

pub returns-clause-answer : goal.returns-clause-answer
returns-clause-answer g c =
    subst (λ (n : ℕ). IfOk c.wait_step.result (λ marked. IsTrue marked ↔ (n ≤ floor c.args.self.now.history))) c.new.ensures
    (subst (λ (s : CoreState). IfOk c.wait_step.result (λ marked. IsTrue marked ↔ (c.new.result ≤ floor s.history))) c.self.view_is c.wait_step.ensures.answer)

pub returns-clause-goes_on : goal.returns-clause-goes_on
returns-clause-goes_on g c =
    subst (λ (n : ℕ). OnOk c.wait_step.result (MayWait (outset c.args.self.now) n)) c.new.ensures
    (subst (λ (o : Outset). OnOk c.wait_step.result (MayWait o c.new.result))
    (outset_seen g.J.Naming.layout c.self.inside.volatile c.self.inside.durable c.args.self.now c.self.invariant.pair c.self.view_is) c.wait_step.ensures.goes_on)

pub returns-clause-refusal : goal.returns-clause-refusal
returns-clause-refusal g c =
    subst (λ (n : ℕ). IfErr c.wait_step.result (IsWaitRefusal (outset c.args.self.now) c.args.session.now n)) c.new.ensures
    (subst (λ (o : Outset). IfErr c.wait_step.result (IsWaitRefusal o c.args.session.now c.new.result))
    (outset_seen g.J.Naming.layout c.self.inside.volatile c.self.inside.durable c.args.self.now c.self.invariant.pair c.self.view_is) c.wait_step.ensures.refusal)
