-- The state of a layout that contracts see, and the layout of a disk with files.
use Rattle.std.specs.Prelude.{ℕ, [], ◌∷◌}
use Rattle.journal_world.specs.declared.address.Kind.{Kind}
use Rattle.journal_world.specs.declared.address.Kind.TheVariants.{Bit, Record, Block}
use Rattle.journal_world.specs.declared.address.RecordSize.TheVariants.{Bytes128}
use Rattle.journal_world.specs.declared.layout.Region.{Region}
use Rattle.journal_world.specs.declared.layout.Layout.{Layout}
use Rattle.journal_world.specs.declared.layout.TheConstants.{SUPERBLOCK, BITMAP, FIRST_INODES, FIRST_DATA, UNUSED, SLOTS}
use Rattle.journal_world.specs.Addresses.{Shape}

-- the state of a layout that contracts see
abbrev pub shape : Layout → Shape
shape l = record { blocks = l.blocks; regions = l.regions; slots = l.slots }

abbrev pub region : ℕ → Kind → Region
region first kind = record { first = first; kind = kind }

abbrev pub no_region : Region
no_region = region UNUSED Block

-- a disk with files: the superblock, a block of bits, inodes of 128 bytes in blocks 515 to 530, and
-- data. A journal over it has 257 slots
abbrev pub files : ℕ → Shape
files blocks = record {
  blocks = blocks;
  regions = region SUPERBLOCK Block ∷ region BITMAP Bit ∷ region FIRST_INODES (Record Bytes128) ∷ region FIRST_DATA Block
      ∷ no_region ∷ no_region ∷ no_region ∷ no_region ∷ [];
  slots = SLOTS;
}
