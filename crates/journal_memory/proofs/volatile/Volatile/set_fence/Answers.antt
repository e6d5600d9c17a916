use Rattle.journal_memory.proofs.Fencing.{kept_fenced}
use Rattle.journal_memory.proofs.volatile.Volatile.set_fence.Goals as goal

pub invariant_of-self : goal.invariant_of-self
invariant_of-self g c = kept_fenced g.J.Naming.layout _ c.self.invariant c.args.target c.fence.new.self c.fence.result c.fence.ensures.did c.fence.ensures.same
