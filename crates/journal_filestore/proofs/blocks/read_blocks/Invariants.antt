use Rattle.std.proofs.Common.{◌≡◌, ◌*◌, length, take}
use Rattle.journal_world.specs.declared.layout.TheConstants.{BLOCK_BYTES}
use Rattle.journal_inode.specs.Sound.{held}
use Rattle.journal_filestore.specs.Doing.{LearnsThat}
use Rattle.journal_filestore.proofs.Gathering.{NotAmongRead}
use Rattle.journal_filestore.proofs.blocks.read_blocks.Given as goal

abbrev pub invariant-loop-j : goal.invariant-loop-j
invariant-loop-j g l =
    LearnsThat g.V.Version.VERSION g.J.Naming.layout l.fn.txn l.txn (λ m. held m (take l.j l.numbers) ≡ l.bytes.items)
    × (length l.bytes.items ≡ BLOCK_BYTES * l.j) × NotAmongRead l.txn (take l.j l.numbers)
