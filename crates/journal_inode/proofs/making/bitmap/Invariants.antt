use Rattle.std.proofs.Common.{ℕ, ◌≡◌, ◌<◌, ◌-◌, ◌&&◌, nat_lt}
use Rattle.std.specs.Prelude.{nat_le}
use Rattle.journal_world.specs.declared.layout.TheConstants.{FIRST_DATA}
use Rattle.journal_block.specs.Block.{bit_of}
use Rattle.journal_inode.proofs.making.bitmap.Given as goal

abbrev pub invariant-loop-i : goal.invariant-loop-i
invariant-loop-i l = (k : ℕ) → k < 32768 → bit_of l.block k ≡ (nat_le (l.fn.blocks - FIRST_DATA) k && nat_lt k l.i)
