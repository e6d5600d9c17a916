use Rattle.journal_memory.proofs.Answering.{answers_fence_in}
use Rattle.journal_memory.proofs.volatile.Volatile.fence_step.Goals as goal

pub returns-clause-event : goal.returns-clause-event
returns-clause-event g c =
    answers_fence_in g.J.Naming.layout c.args.self.now c.set_fence-answer.new.self c.args.target c.set_fence-answer.result c.prove_invariant.ensures
    c.set_fence-answer.ensures.did c.set_fence-answer.ensures.others c.set_fence-answer.ensures.refusal c.set_fence-answer.ensures.same
