use Rattle.std.proofs.Common.{ℕ, ◌≡◌, ◌<◌, ◌+◌, ◌*◌, length, get_or}
use Rattle.journal_treestore.specs.declared.inode.TheConstants.{DIRECT_BLOCKS}
use Rattle.journal_treestore.specs.Bytes.{word_at}
use Rattle.journal_treestore.proofs.inode.blocks.Given as goal

abbrev pub invariant-loop-j : goal.invariant-loop-j
invariant-loop-j l = (length l.blocks ≡ DIRECT_BLOCKS) × ((k : ℕ) → k < l.j → get_or l.blocks k 0 ≡ word_at l.bytes (48 + 4 * k))
