-- The rule of sound files, inode by inode.
use Rattle.std.specs.Prelude.{ℕ, ◌≡◌, ◌≢◌, ◌<◌, ◌≤◌, ◌+◌, ◌-◌, ◌↔◌, ◌⊎◌, Bool, true, false, List, [], ◌∷◌, Some, unwrap_or, if◌then◌else◌, All, AllPairs, Contains, IsTrue, length, drop, slice_get}
use Rattle.std.specs.Int.{bit_at}
use Rattle.std.specs.List.{AllByRecursion}
use Rattle.journal_world.specs.declared.layout.TheConstants.{BLOCK_BYTES, FIRST_DATA}
use Rattle.journal_world.specs.Addresses.{Value}
use Rattle.journal_world.specs.Maps.{Map}
use Rattle.journal_inode.specs.declared.version.FormatVersion.{FormatVersion}
use Rattle.journal_inode.specs.declared.node.FileNode.{FileNode}
use Rattle.journal_inode.specs.declared.node.Node.{Node}
use Rattle.journal_inode.specs.declared.node.Node.TheVariants.{File}
use Rattle.journal_inode.specs.Places.{object}
use Rattle.journal_inode.specs.Places.Object.{inode, bit, block}
use Rattle.journal_inode.specs.Nodes.{inode_bytes}
use Rattle.journal_inode.specs.Sound.{node_at, file_blocks, HasBlock, IsDataBlock, IsInPlace, IsSoundFile, RepeatsNoBlock}
use Rattle.journal_inode.specs.Versions.{most_bytes}

abbrev pub AllZero : List ℕ → Type 0
AllZero bytes = All (λ byte. byte ≡ 0) bytes

-- The rule, of one inode alone
pub record IsSoundInode (version : FormatVersion) (m : Map) (i : ℕ) : Type 0 where
  pub written : object m (inode i) ≡ inode_bytes (node_at m i)
  pub placed : IsInPlace i (node_at m i)
  pub file : (f : FileNode) → node_at m i ≡ File f → IsSoundFile version m f

-- The rule, of the first inodes: each is sound, no two have one block, and none has one twice
pub record AreSoundBelow (version : FormatVersion) (m : Map) (n : ℕ) : Type 0 where
  pub each : (i : ℕ) → i < n → IsSoundInode version m i
  pub apart : (i j b : ℕ) → i < n → j < n → HasBlock version (node_at m i) b → HasBlock version (node_at m j) b → i ≡ j
  pub distinct : (i : ℕ) (f : FileNode) → i < n → node_at m i ≡ File f → RepeatsNoBlock version f

-- The table says of each data block whether one of the first inodes has it
abbrev pub IsOwnedBelow : FormatVersion → Map → ℕ → ℕ → Type 0
IsOwnedBelow version m n b = (i : ℕ) × (i < n) × HasBlock version (node_at m i) b

abbrev pub AreOwners : FormatVersion → Map → ℕ → List Bool → Type 0
AreOwners version m n owners = (k : ℕ) → (slice_get owners k ≡ Some true) ↔ IsOwnedBelow version m n (FIRST_DATA + k)

-- The blocks of the inode are as many as it has room for, and data blocks of a disk of this many
-- blocks
abbrev pub HasDataBlocks : FormatVersion → ℕ → Node → Type 0
HasDataBlocks version blocks (File f) = (f.size ≤ most_bytes version) × AllByRecursion (IsDataBlock blocks) (file_blocks version f)
HasDataBlocks version blocks _ = Unit {0}

-- the block was marked by none
abbrev pub IsUnmarked : List Bool → ℕ → Type 0
IsUnmarked marks b = slice_get marks (b - FIRST_DATA) ≡ Some false

-- These blocks were marked by none and are distinct, and the table is marked with them
pub record MarksBlocks (bs : List ℕ) (old new : List Bool) : Type 0 where
  pub unmarked : All (IsUnmarked old) bs
  pub distinct : AllPairs ◌≢◌ bs
  pub marked : (k : ℕ) → (slice_get new k ≡ Some true) ↔ ((slice_get old k ≡ Some true) ⊎ Contains bs (FIRST_DATA + k))
  pub same_length : length new ≡ length old

-- The table was marked with the blocks, or one of them was marked already
abbrev pub MarksOrMeets : List ℕ → List Bool → List Bool → Bool → Type 0
MarksOrMeets bs old new true = MarksBlocks bs old new
MarksOrMeets bs old new false = All (IsUnmarked old) bs → AllPairs ◌≢◌ bs → ⊥

-- so for the blocks of an inode
abbrev pub Claims : FormatVersion → Node → List Bool → List Bool → Bool → Type 0
Claims version (File f) old new claimed = MarksOrMeets (file_blocks version f) old new claimed
Claims version _ old new claimed = (claimed ≡ true) × (new ≡ old)

-- The block is a data block, and its bytes from a size on are zero
pub record IsSoundBlock (m : Map) (size b : ℕ) : Type 0 where
  pub on_disk : IsDataBlock m.layout.blocks b
  pub sized : length (object m (block b)) ≡ BLOCK_BYTES
  pub padded : AllZero (drop size (object m (block b)))

-- so are blocks one after another
abbrev pub AreSoundBlocks : Map → ℕ → List ℕ → Type 0
AreSoundBlocks m size [] = Unit {0}
AreSoundBlocks m size (b ∷ bs) = IsSoundBlock m size b × AreSoundBlocks m (size - BLOCK_BYTES) bs

-- The state of a scan of a file's first blocks, with this many bytes left: the map, the trust and
-- the failure as for inodes
pub record AreBlocksScanned (before now : Map) (trusted still failed fails : Bool) (size left : ℕ) (bs rest : List ℕ) : Type 0 where
  pub same_map : now ≡ before
  pub same_trust : still ≡ trusted
  pub stays_failed : IsTrue failed → IsTrue fails
  pub in_range : AllByRecursion (IsDataBlock before.layout.blocks) rest → AllByRecursion (IsDataBlock before.layout.blocks) bs
  pub so_far : IsTrue trusted → AreSoundBlocks before left rest ↔ AreSoundBlocks before size bs

-- The state of a scan of the first inodes: the map and the trust in the reader are as before, and
-- if it is trusted, these inodes are sound and the table says whose blocks are theirs
pub record IsScanned (version : FormatVersion) (before now : Map) (trusted still failed fails : Bool) (n : ℕ) (owners : List Bool) : Type 0 where
  pub same_map : now ≡ before
  pub same_trust : still ≡ trusted
  pub stays_failed : IsTrue failed → IsTrue fails
  pub whole : FIRST_DATA + length owners ≡ before.layout.blocks
  pub below : IsTrue trusted → AreSoundBelow version before n
  pub owned : IsTrue trusted → AreOwners version before n owners

-- the value of a bit that the table asks for: past its end, all are set
abbrev pub bit_asked : List Bool → ℕ → Value
bit_asked owners k = (if unwrap_or (slice_get owners k) true then 1 else 0) ∷ []

-- the first bits are as the table asks
abbrev pub AreBitsBelow : Map → List Bool → ℕ → Type 0
AreBitsBelow m owners n = (k : ℕ) → k < n → object m (bit k) ≡ bit_asked owners k

-- the first n bits of a number are those that the table asks for from a place on
abbrev pub AreAsked : List Bool → ℕ → ℕ → ℕ → Type 0
AreAsked owners first n bits = (i : ℕ) → i < n → bit_at bits i ∷ [] ≡ bit_asked owners (first + i)

-- The state of a scan of the first bits
pub record AreBitsScanned (before now : Map) (trusted still failed fails : Bool) (owners : List Bool) (n : ℕ) : Type 0 where
  pub same_map : now ≡ before
  pub same_trust : still ≡ trusted
  pub stays_failed : IsTrue failed → IsTrue fails
  pub below : IsTrue trusted → AreBitsBelow before owners n
