use Rattle.std.proofs.Common.{◌≡◌, ◌+◌, ◌*◌, ◌++◌, take, drop, w32}
use Rattle.std.specs.Int.{to_le_bytes}
use Rattle.std.specs.Prelude.{flat_map}
use Rattle.journal_treestore.proofs.inode.put_blocks.Given as goal

abbrev pub invariant-loop-j : goal.invariant-loop-j
invariant-loop-j l = l.bytes ≡ take 48 l.fn.bytes ++ flat_map (to_le_bytes w32) (take l.j l.blocks) ++ drop (48 + 4 * l.j) l.fn.bytes
