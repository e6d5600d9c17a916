-- The rule of sound files.
use Rattle.std.specs.Prelude.{ℕ, zero, suc, ◌≡◌, ◌≢◌, ◌<◌, ◌≤◌, ◌+◌, ◌-◌, ◌⊎◌, List, [], ◌∷◌, ◌++◌, AllPairs, length, take, drop, replicate}
use Rattle.std.specs.Int.{w64, to_le_bytes}
use Rattle.std.specs.List.{AllByRecursion}
use Rattle.journal_world.specs.declared.layout.TheConstants.{BLOCK_BYTES, FIRST_DATA, BLOCK_BITS}
use Rattle.journal_world.specs.declared.moment.TheConstants.{MAX_NANOS}
use Rattle.journal_world.specs.Addresses.{Value}
use Rattle.journal_world.specs.Maps.{Map}
use Rattle.journal_inode.specs.declared.version.FormatVersion.{FormatVersion}
use Rattle.journal_inode.specs.declared.node.FileNode.{FileNode}
use Rattle.journal_inode.specs.declared.node.Node.{Node}
use Rattle.journal_inode.specs.declared.node.Node.TheVariants.{Free, Root, File}
use Rattle.journal_inode.specs.declared.node.TheConstants.{MORE_BLOCKS}
use Rattle.journal_inode.specs.declared.place.TheConstants.{INODES}
use Rattle.journal_inode.specs.Places.{HasFiles, object}
use Rattle.journal_inode.specs.Places.Object.{superblock, bit, inode, block}
use Rattle.journal_inode.specs.Nodes.{inode_bytes, node_of}
use Rattle.journal_inode.specs.Versions.{number_of, most_bytes, extra_count, room_of}

-- "GJNLDSK1", the number of the version and the number of blocks
unfoldable pub superblock_head : FormatVersion → ℕ → Value
superblock_head version blocks =
    (0x47 ∷ 0x4a ∷ 0x4e ∷ 0x4c ∷ 0x44 ∷ 0x53 ∷ 0x4b ∷ 0x31 ∷ []) ++ to_le_bytes w64 (number_of version) ++ to_le_bytes w64 blocks

-- the rest of the superblock is zero
unfoldable pub superblock_of : FormatVersion → ℕ → Value
superblock_of version blocks = superblock_head version blocks ++ replicate (4096 - 24) 0

-- inode i of the map
abbrev pub node_at : Map → ℕ → Node
node_at m i = node_of (object m (inode i))

-- the blocks of a file, in the order of its bytes: in version 1 there is one
abbrev pub file_blocks : FormatVersion → FileNode → List ℕ
file_blocks version f = f.block ∷ take (extra_count version f.size) f.more

-- the content of blocks, one after another
abbrev pub held : Map → List ℕ → Value
held m [] = []
held m (b ∷ []) = object m (block b)
held m (b ∷ c ∷ bs) = object m (block b) ++ held m (c ∷ bs)

-- the content of the blocks of a file
abbrev pub stored : FormatVersion → Map → FileNode → Value
stored version m f = held m (file_blocks version f)

-- the bytes of a file
abbrev pub content : FormatVersion → Map → FileNode → List ℕ
content version m f = take f.size (stored version m f)

-- the block is one of these
abbrev pub IsAmong : List ℕ → ℕ → Type 0
IsAmong [] b = ⊥
IsAmong (x ∷ []) b = x ≡ b
IsAmong (x ∷ y ∷ ys) b = (x ≡ b) ⊎ IsAmong (y ∷ ys) b

-- the block is one of the inode's
abbrev pub HasBlock : FormatVersion → Node → ℕ → Type 0
HasBlock version (File f) b = IsAmong (file_blocks version f) b
HasBlock version _ b = ⊥

-- the block is not there, or a file has it
abbrev pub IsTaken : FormatVersion → Map → ℕ → Type 0
IsTaken version m b = (m.layout.blocks ≤ b) ⊎ ((i : ℕ) × (i < INODES) × HasBlock version (node_at m i) b)

-- the block is a data block of a disk of this many blocks
abbrev pub IsDataBlock : ℕ → ℕ → Type 0
IsDataBlock blocks b = (FIRST_DATA ≤ b) × (b < blocks)

-- Inode 0 is all zero, inode 1 is the root, and all others are free or files
abbrev pub IsInPlace : ℕ → Node → Type 0
IsInPlace zero (Free generation) = generation ≡ 0
IsInPlace (suc zero) (Root mtime) = mtime.nanos ≤ MAX_NANOS
IsInPlace (suc (suc i)) (Free generation) = Unit {0}
IsInPlace (suc (suc i)) (File f) = Unit {0}
IsInPlace _ _ = ⊥

-- A file has a generation, a size and a time within bounds, and data blocks, whose bytes from its
-- size on are zero
pub record IsSoundFile (version : FormatVersion) (m : Map) (f : FileNode) : Type 0 where
  pub born : 1 ≤ f.generation
  pub small : f.size ≤ most_bytes version
  pub on_disk : AllByRecursion (IsDataBlock m.layout.blocks) (file_blocks version f)
  -- where a further block is not there its number is 0
  pub absent : drop (extra_count version f.size) f.more ≡ replicate (MORE_BLOCKS - extra_count version f.size) 0
  pub timed : f.mtime.nanos ≤ MAX_NANOS
  -- its blocks are whole, and so are its bytes
  pub sized : AllByRecursion (λ b. length (object m (block b)) ≡ BLOCK_BYTES) (file_blocks version f)
  pub whole : length (content version m f) ≡ f.size
  pub padded : stored version m f ≡ content version m f ++ replicate (room_of version f.size - f.size) 0

-- no two blocks of the file are one
abbrev pub RepeatsNoBlock : FormatVersion → FileNode → Type 0
RepeatsNoBlock version f = AllPairs ◌≢◌ (file_blocks version f)

-- the bit is set exactly where P holds
abbrev pub IsBit : Value → Type 0 → Type 0
IsBit v P = ((v ≡ 1 ∷ []) × P) ⊎ ((v ≡ 0 ∷ []) × (P → ⊥))

-- A map of sound files of this version
pub record HasSoundFiles (version : FormatVersion) (m : Map) : Type 0 where
  -- the disk is cut as one with files
  pub cut : HasFiles m.layout
  -- the superblock is that of a disk of this many blocks
  pub begins : object m superblock ≡ superblock_of version m.layout.blocks
  -- the bytes of each inode are those of some inode, so what its kind has not is zero
  pub written : (i : ℕ) → i < INODES → object m (inode i) ≡ inode_bytes (node_at m i)
  -- each is in its place
  pub placed : (i : ℕ) → i < INODES → IsInPlace i (node_at m i)
  -- each file is sound
  pub files : (i : ℕ) (f : FileNode) → i < INODES → node_at m i ≡ File f → IsSoundFile version m f
  -- no two files have one block, and no file has one twice
  pub apart : (i j b : ℕ) → i < INODES → j < INODES → HasBlock version (node_at m i) b → HasBlock version (node_at m j) b → i ≡ j
  pub distinct : (i : ℕ) (f : FileNode) → i < INODES → node_at m i ≡ File f → RepeatsNoBlock version f
  -- the set bits are those of the files' blocks and of the blocks that are not there
  pub bits : (i : ℕ) → i < BLOCK_BITS → IsBit (object m (bit i)) (IsTaken version m (FIRST_DATA + i))
