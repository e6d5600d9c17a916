use Rattle.std.proofs.Common.{◌≡◌, ◌+◌, ◌*◌, ◌++◌, take, drop, w64}
use Rattle.std.specs.Int.{to_le_bytes}
use Rattle.std.specs.Prelude.{flat_map}
use Rattle.journal_inode.proofs.node.put_more.Given as goal

abbrev pub invariant-loop-j : goal.invariant-loop-j
invariant-loop-j l = l.bytes ≡ take 32 l.fn.bytes ++ flat_map (to_le_bytes w64) (take l.j l.more) ++ drop (32 + 8 * l.j) l.fn.bytes
