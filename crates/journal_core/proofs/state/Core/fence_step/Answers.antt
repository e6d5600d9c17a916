use Rattle.std.proofs.Common.{ℕ, IfErr, OnOk, rules, subst}
use Rattle.journal_memory.specs.Outsets.{Outset}
use Rattle.journal_memory.specs.Fences.{IsFenceRefusal}
use Rattle.journal_parts.specs.CoreParts.{core_of, outset}
use Rattle.journal_core.specs.FenceSteps.{SetsFence as SetsInCore}
use Rattle.journal_core.proofs.FencesOfPairs.{pair_fenced, fenced_in_core, answers_fence}
use Rattle.journal_core.proofs.Joining.{crashes_noticed, outset_seen}
use Rattle.journal_core.proofs.state.Core.fence_step.Goals as goal

pub invariant_of-self : goal.invariant_of-self
invariant_of-self g c = record {
  pair = pair_fenced g.J.Naming.layout c.self.inside.volatile c.self.inside.durable c.self.invariant.pair c.new.result c.fence_step.new.self c.fence_step.result
      c.fence_step.ensures.others c.fence_step.ensures.did c.fence_step.ensures.same;
  room = c.self.invariant.room;
}

pub returns-clause-did : goal.returns-clause-did
returns-clause-did g c =
    subst (λ (s : ℕ). OnOk c.fence_step.result (SetsInCore s c.args.self.now (core_of c.fence_step.new.self c.self.inside.durable))) c.new.ensures
    (fenced_in_core g.J.Naming.layout c.self.inside.volatile c.self.inside.durable c.self.invariant.pair c.new.result c.fence_step.new.self c.args.self.now c.fence_step.result
    c.self.view_is c.fence_step.ensures.others c.fence_step.ensures.did)

pub returns-clause-refusal : goal.returns-clause-refusal
returns-clause-refusal g c =
    subst (λ (s : ℕ). IfErr c.fence_step.result (IsFenceRefusal s (outset c.args.self.now))) c.new.ensures
    (subst (λ (o : Outset). IfErr c.fence_step.result (IsFenceRefusal c.new.result o))
    (outset_seen g.J.Naming.layout c.self.inside.volatile c.self.inside.durable c.args.self.now c.self.invariant.pair c.self.view_is) c.fence_step.ensures.refusal)

pub returns-clause-crash : goal.returns-clause-crash
returns-clause-crash g c =
    crashes_noticed g.J.Naming.layout c.self.inside.volatile c.self.inside.durable c.args.self.now c.self.invariant.pair c.self.view_is c.fence_step.new.self (invariant_of-self g c).pair

pub returns-clause-event : goal.returns-clause-event
returns-clause-event g c =
    answers_fence c.args.target _ _ c.fence_step.result (returns-clause-crash g c) (returns-clause-did g c) (returns-clause-refusal g c) (search rules)
