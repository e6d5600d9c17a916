use Rattle.journal_memory.proofs.Staying.{kept_trim}
use Rattle.journal_memory.proofs.volatile.Volatile.trim.Goals as goal

pub invariant_of-self : goal.invariant_of-self
invariant_of-self g c = kept_trim g.J.Naming.layout _ c.self.invariant c.args.upto c.trim.new.self c.trim.ensures.drops c.trim.ensures.left c.trim.ensures.since c.trim.ensures.known
