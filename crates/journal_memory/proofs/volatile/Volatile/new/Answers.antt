use Rattle.journal_memory.proofs.Beginning.{volatile_begun}
use Rattle.journal_memory.proofs.volatile.Volatile.new.Goals as goal

pub invariant_of-result : goal.invariant_of-result
invariant_of-result g c =
    volatile_begun g.J.Naming.layout c.args.ledger c.args.tail.log.start c.args.tail.log.room c.requires.begun c.requires.none
    c.len-len.ensures.begun c.requires.on_disk c.requires.small c.args.tail c.requires.empty
