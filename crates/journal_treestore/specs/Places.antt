-- How a disk with a tree is cut, the objects of such a disk, and where each lies.
use Rattle.std.specs.Prelude.{ℕ, ◌≡◌, ◌<◌, ◌≤◌, ◌+◌, ◌-◌, ◌*◌, ◌/◌, ◌%◌, Bool, true, false, ◌==◌, nat_lt, if◌then◌else◌, IsTrue, [], ◌∷◌}
use Rattle.journal_world.specs.declared.address.Addr.{Addr}
use Rattle.journal_world.specs.declared.address.Kind.{Kind}
use Rattle.journal_world.specs.declared.address.Kind.TheVariants.{Record, Block}
use Rattle.journal_world.specs.declared.address.RecordSize.TheVariants.{Bytes8, Bytes512}
use Rattle.journal_world.specs.declared.layout.Region.{Region}
use Rattle.journal_world.specs.declared.layout.TheConstants.{SUPERBLOCK}
use Rattle.journal_world.specs.Addresses.{Shape, is_valid}
use Rattle.journal_world.specs.Files.{region, no_region}
use Rattle.journal_tree.specs.declared.limits.TheConstants.{ROOT}
use Rattle.journal_treestore.specs.declared.place.TheConstants.{FIRST_OWNERS, BLOCK_OWNERS, BLOCK_INODES, TREE_SLOTS, FEWEST_BLOCKS, MOST_DISK_BLOCKS, MOST_NUMBERS}
use Rattle.journal_treestore.specs.declared.place.Cut.{Cut}

-- how a disk is cut that did not grow since it was made
abbrev pub made_cut : ℕ → ℕ → Cut
made_cut blocks numbers = record { size = blocks; blocks = blocks; numbers = numbers; base = blocks }

-- the first block of inodes: after the records of who has a block that was there when the disk was
-- made, of which 512 lie in a block
abbrev pub first_inodes : Cut → ℕ
first_inodes c = FIRST_OWNERS + (c.base + 511) / BLOCK_OWNERS

-- the first block of data: after the inodes, of which 8 lie in a block
abbrev pub first_data : Cut → ℕ
first_data c = first_inodes c + (c.numbers + 7) / BLOCK_INODES

abbrev pub data_blocks : Cut → ℕ
data_blocks c = c.blocks - first_data c

-- how many blocks have the records of blocks that came later. They come after all of these
abbrev pub later_owners : Cut → ℕ
later_owners c = (c.blocks - c.base + 511) / BLOCK_OWNERS

-- The records of later blocks have room after these. Where there are none, the disk ends with its
-- data
pub record HasRoom (c : Cut) : Type 0 where
  pub later : c.base ≤ c.blocks
  pub records : c.blocks + later_owners c ≤ c.size
  pub ended : c.blocks ≡ c.base → c.size ≡ c.base

-- The numbers are within their bounds, there is a root, at least one block of data was there when
-- the disk was made, and the records of later blocks have room
pub record IsCut (c : Cut) : Type 0 where
  pub enough : FEWEST_BLOCKS ≤ c.base
  pub few : c.size ≤ MOST_DISK_BLOCKS
  pub rooted : ROOT < c.numbers
  pub few_numbers : c.numbers ≤ MOST_NUMBERS
  pub some_data : first_data c < c.base
  pub room : HasRoom c

-- a region that a disk has once it grew
abbrev pub later_region : Bool → ℕ → Kind → Region
later_region true first kind = region first kind
later_region false first kind = no_region

-- the layout of a disk that grew, or did not: the description's block, records of 8 bytes, records
-- of 512 bytes, blocks of data, and once it grew the later blocks of data, and their records
abbrev pub shape_by : Bool → Cut → Shape
shape_by grew c = record {
  blocks = c.size;
  regions = region SUPERBLOCK Block ∷ region FIRST_OWNERS (Record Bytes8) ∷ region (first_inodes c) (Record Bytes512) ∷ region (first_data c) Block
      ∷ later_region grew c.base Block ∷ later_region grew c.blocks (Record Bytes8) ∷ no_region ∷ no_region ∷ [];
  slots = TREE_SLOTS;
}

abbrev pub shape_of : Cut → Shape
shape_of c = shape_by (nat_lt c.base c.blocks) c

-- The description; the record of who has a block; an inode; a block of data
pub data Object : Type 0 where
  the_description : Object
  owner_of : ℕ → Object
  inode_of : ℕ → Object
  data_block : ℕ → Object

-- where record i of 8 bytes, which are 64 bits, lies from a block on
abbrev pub record_in : ℕ → ℕ → Addr
record_in first i = record { block = first + i / BLOCK_OWNERS; off = i % BLOCK_OWNERS * 64 }

-- where it lies. An inode has 4096 bits
abbrev pub addr_of : Cut → Object → Addr
addr_of c the_description = record { block = SUPERBLOCK; off = 0 }
addr_of c (owner_of b) = if nat_lt b c.base then record_in FIRST_OWNERS b else record_in c.blocks (b - c.base)
addr_of c (inode_of n) = record { block = first_inodes c + n / BLOCK_INODES; off = n % BLOCK_INODES * 4096 }
addr_of c (data_block b) = record { block = b; off = 0 }

-- a disk that is cut so has the object
abbrev pub IsOnDisk : Cut → Object → Type 0
IsOnDisk c the_description = Unit {0}
IsOnDisk c (owner_of b) = b < c.blocks
IsOnDisk c (inode_of n) = n < c.numbers
IsOnDisk c (data_block b) = (first_data c ≤ b) × (b < c.blocks)

abbrev pub is_same_object : Object → Object → Bool
is_same_object the_description the_description = true
is_same_object (owner_of a) (owner_of b) = a == b
is_same_object (inode_of i) (inode_of j) = i == j
is_same_object (data_block a) (data_block b) = a == b
is_same_object _ _ = false

-- ── what holds of them ──

-- Each object of a disk has an address that the layout knows
abbrev pub PlacesAreObjects : Type 0
PlacesAreObjects = (c : Cut) (o : Object) → IsCut c → IsOnDisk c o → IsTrue (is_valid (shape_of c) (addr_of c o))

-- and no two have one address
abbrev pub PlacesAreApart : Type 0
PlacesAreApart = (c : Cut) (o p : Object) → IsCut c → IsOnDisk c o → IsOnDisk c p → addr_of c o ≡ addr_of c p → o ≡ p
