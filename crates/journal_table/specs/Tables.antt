-- How a table divides a disk, and where the objects of a place lie.
use Rattle.std.specs.Prelude.{ℕ, ◌≤◌, ◌+◌, ◌*◌, ◌/◌, ◌%◌, [], ◌∷◌}
use Rattle.journal_world.specs.declared.address.Addr.{Addr}
use Rattle.journal_world.specs.declared.address.Kind.TheVariants.{Bit, Record, Block}
use Rattle.journal_world.specs.declared.address.RecordSize.TheVariants.{Bytes64}
use Rattle.journal_world.specs.declared.layout.TheConstants.{SUPERBLOCK, MAX_LAYOUT_BLOCKS, BLOCK_BITS, SLOTS}
use Rattle.journal_world.specs.Addresses.{Shape}
use Rattle.journal_world.specs.Files.{region, no_region}

-- The layout of a table: block 513 is the head, then come this many blocks of the free list, whose
-- objects are bits, and then rows of 64 bytes to the end of the disk. A journal over it has 257
-- slots
abbrev pub table_shape : ℕ → ℕ → Shape
table_shape blocks free_list = record {
  blocks = blocks;
  regions = region SUPERBLOCK Block ∷ region 514 Bit ∷ region (514 + free_list) (Record Bytes64) ∷ no_region ∷ no_region
      ∷ no_region ∷ no_region ∷ no_region ∷ [];
  slots = SLOTS;
}

-- a block of the free list has 32768 bits, one for each row of 512 blocks, and the disk has room
-- for all these rows
abbrev pub HasRoom : ℕ → ℕ → Type 0
HasRoom blocks free_list = (1 ≤ free_list) × (514 + 513 * free_list ≤ blocks) × (blocks ≤ MAX_LAYOUT_BLOCKS)

-- the bit of a place
abbrev pub bit_of : ℕ → Addr
bit_of place = record { block = 514 + place / BLOCK_BITS; off = place % BLOCK_BITS }

-- the record of a place, where the free list has this many blocks
abbrev pub record_of : ℕ → ℕ → Addr
record_of free_list place = record { block = 514 + free_list + place / 64; off = place % 64 * 512 }
