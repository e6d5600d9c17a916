-- Blocks that are held in memory: of each its bytes, or nothing.
use Rattle.std.specs.Prelude.{ℕ, ◌≡◌, List, Option, None, Some, slice_index_or}
use Rattle.journal_block.specs.Block.{Bytes}
use Rattle.journal_disk.specs.Disks.{Past, read_of}

-- the bytes that are held of a block
abbrev pub held_at : List (Option Bytes) → ℕ → Option Bytes
held_at held b = slice_index_or held b None

-- nothing is held of any block
abbrev pub HoldsNothing : List (Option Bytes) → Type 0
HoldsNothing held = (b : ℕ) → held_at held b ≡ None

-- each block that is held is as a read gives it
abbrev pub AreCurrent : List (Option Bytes) → Past → Type 0
AreCurrent held p = (b : ℕ) (bytes : Bytes) → held_at held b ≡ Some bytes → bytes ≡ read_of p b
