use Rattle.std.proofs.Common.{All}
use Rattle.journal_treeobjects.specs.Reads.{IsInodeOf}
use Rattle.journal_treeobjects.proofs.tree_disk.inode_addrs.Given as goal

-- they are addresses of inodes
abbrev pub invariant-loop-number : goal.invariant-loop-number
invariant-loop-number l = All (IsInodeOf l.cut l.numbers) l.addrs.items
