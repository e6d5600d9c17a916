use Rattle.std.proofs.Common.{take}
use Rattle.std.specs.List.{AllByRecursion}
use Rattle.journal_filestore.specs.Doing.{LearnsThat, AreClear, HasBit, HasReadNoBlocks}
use Rattle.journal_filestore.proofs.Gathering.{NotAmongBits}
use Rattle.journal_filestore.proofs.blocks.are_clear.Given as goal

abbrev pub invariant-loop-number : goal.invariant-loop-number
invariant-loop-number g l =
    LearnsThat g.V.Version.VERSION g.J.Naming.layout l.fn.txn l.txn (λ m. AreClear m (take l.number-index l.numbers))
    × AllByRecursion HasBit (take l.number-index l.numbers) × NotAmongBits l.txn (take l.number-index l.numbers) × HasReadNoBlocks l.txn
