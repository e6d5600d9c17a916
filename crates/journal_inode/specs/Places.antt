-- The objects of a disk with files, and where each lies.
use Rattle.std.specs.Prelude.{ℕ, ◌≡◌, ◌<◌, ◌≤◌, ◌+◌, ◌*◌, ◌/◌, ◌%◌, Bool, true, false, ◌==◌}
use Rattle.journal_world.specs.declared.address.Addr.{Addr}
use Rattle.journal_world.specs.declared.layout.TheConstants.{MIN_BLOCKS, SUPERBLOCK, BITMAP, FIRST_INODES, FIRST_DATA, BLOCK_BITS}
use Rattle.journal_world.specs.Addresses.{Value, Shape}
use Rattle.journal_world.specs.Files.{files}
use Rattle.journal_world.specs.Maps.{Map, value_at}
use Rattle.journal_inode.specs.declared.place.TheConstants.{INODES}

-- The superblock; a bit of the bitmap; an inode; a data block
pub data Object : Type 0 where
  superblock : Object
  bit : ℕ → Object
  inode : ℕ → Object
  block : ℕ → Object

-- where an object lies: bit i belongs to block 531 + i, and 32 inodes lie in a block
abbrev pub addr_of : Object → Addr
addr_of superblock = record { block = SUPERBLOCK; off = 0 }
addr_of (bit i) = record { block = BITMAP; off = i }
addr_of (inode i) = record { block = FIRST_INODES + i / 32; off = i % 32 * 1024 }
addr_of (block b) = record { block = b; off = 0 }

-- a disk of this many blocks has the object
abbrev pub IsOnDisk : ℕ → Object → Type 0
IsOnDisk blocks superblock = Unit {0}
IsOnDisk blocks (bit i) = i < BLOCK_BITS
IsOnDisk blocks (inode i) = i < INODES
IsOnDisk blocks (block b) = (FIRST_DATA ≤ b) × (b < blocks)

-- two objects are one
abbrev pub is_same_object : Object → Object → Bool
is_same_object superblock superblock = true
is_same_object (bit i) (bit j) = i == j
is_same_object (inode i) (inode j) = i == j
is_same_object (block a) (block b) = a == b
is_same_object _ _ = false

-- a disk of the layout has files: its blocks are cut so, and the inodes' blocks are there
abbrev pub HasFiles : Shape → Type 0
HasFiles layout = (layout ≡ files layout.blocks) × (MIN_BLOCKS ≤ layout.blocks)

-- the value that a map gives an object
abbrev pub object : Map → Object → Value
object m o = value_at m (addr_of o)
