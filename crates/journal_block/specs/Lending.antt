-- How the bytes of a block are lent.
use Rattle.std.specs.Prelude.{◌++◌, length, take, drop}
use Rattle.std.specs.Borrow.{Array, Fml, Lends, MutBor, u8 as byte}
use Rattle.journal_world.specs.declared.layout.TheConstants.{BLOCK_BYTES}
use Rattle.journal_block.specs.Block.{Bytes}
use Rattle.journal_block.specs.contracts.block.Block.{the_row}

-- The block ends with the bytes that the slice is left with. A slice keeps its length, so none of
-- the old bytes follow them
abbrev pub LendsBytes : MutBor Bytes → MutBor Bytes → Fml
LendsBytes block slice = Lends the_row (Array byte 0) block slice (λ left. take BLOCK_BYTES (left ++ drop (length left) block.now))
