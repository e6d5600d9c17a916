use Rattle.std.proofs.Common.{ℕ, ◌≡◌, ◌<◌, ◌+◌, ◌*◌, length, get_or}
use Rattle.journal_inode.specs.declared.node.TheConstants.{MORE_BLOCKS}
use Rattle.journal_inode.specs.Nodes.{long_at}
use Rattle.journal_inode.proofs.node.more.Given as goal

abbrev pub invariant-loop-j : goal.invariant-loop-j
invariant-loop-j l = (length l.more ≡ MORE_BLOCKS) × ((k : ℕ) → k < l.j → get_or l.more k 0 ≡ long_at l.bytes (32 + 8 * k))
