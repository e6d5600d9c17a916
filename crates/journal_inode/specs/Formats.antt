-- A disk without files.
use Rattle.std.specs.Prelude.{ℕ, ◌≡◌, ◌≢◌, ◌<◌, ◌≤◌, ◌+◌, ◌-◌, ◌*◌, ◌/◌, ◌%◌, nat_le, slice_range}
use Rattle.journal_world.specs.declared.address.Kind.TheVariants.{Block}
use Rattle.journal_world.specs.declared.layout.TheConstants.{SUPERBLOCK, BITMAP, BLOCK_BITS, FIRST_INODES, FIRST_DATA}
use Rattle.journal_world.specs.declared.refusal.Refusal.{Refusal}
use Rattle.journal_world.specs.declared.refusal.Refusal.TheVariants.{NoMemory, DeviceFailed}
use Rattle.journal_world.specs.Addresses.{zeros_of}
use Rattle.journal_block.specs.Block.{Bytes, bit_of}
use Rattle.journal_disk.specs.Disks.{DiskState, HasFailed}
use Rattle.journal_inode.specs.declared.version.FormatVersion.{FormatVersion}
use Rattle.journal_inode.specs.declared.node.Time.{Time}
use Rattle.journal_inode.specs.declared.node.Node.TheVariants.{Free, Root}
use Rattle.journal_inode.specs.declared.place.TheConstants.{INODES}
use Rattle.journal_inode.specs.Nodes.{inode_bytes}
use Rattle.journal_inode.specs.Sound.{superblock_of}

-- each of the first blocks is all zeros
abbrev pub AreZeros : ℕ → (ℕ → Bytes) → Type 0
AreZeros blocks read = (b : ℕ) → b < blocks → read b ≡ zeros_of Block

-- the bytes of inode i: 32 inodes of 128 bytes lie in a block
abbrev pub inode_in : (ℕ → Bytes) → ℕ → Bytes
inode_in read i = slice_range (read (FIRST_INODES + i / 32)) (i % 32 * 128) (i % 32 * 128 + 128)

-- The blocks of a disk of this version without files, as they read. The log is empty, because its
-- headers are zeros
pub record IsFormatted (version : FormatVersion) (blocks : ℕ) (made : Time) (read : ℕ → Bytes) : Type 0 where
  pub superblock : read SUPERBLOCK ≡ superblock_of version blocks
  -- the bit of each data block is clear, and all others are set
  pub bits : (k : ℕ) → k < BLOCK_BITS → bit_of (read BITMAP) k ≡ nat_le (blocks - FIRST_DATA) k
  pub root : inode_in read 1 ≡ inode_bytes (Root made)
  pub free : (i : ℕ) → i < INODES → i ≢ 1 → inode_in read i ≡ inode_bytes (Free 0)
  pub log : (b : ℕ) → b < SUPERBLOCK → read b ≡ zeros_of Block
  pub empty : (b : ℕ) → FIRST_DATA ≤ b → b < blocks → read b ≡ zeros_of Block

-- Why what writes is refused: for want of memory, or by the device, which failed meanwhile
abbrev pub IsWritingRefusal : {C : Type 0} → DiskState → DiskState → Refusal C → Type 0
IsWritingRefusal old new NoMemory = Unit {0}
IsWritingRefusal old new (DeviceFailed cause) = HasFailed old new
IsWritingRefusal old new other = ⊥
