-- A transaction's knowledge of the files, and its effects on them.
use Rattle.std.specs.Prelude.{ℕ, ◌≡◌, ◌≢◌, ◌<◌, ◌≤◌, ◌+◌, ◌-◌, false, List, [], ◌∷◌, ◌++◌, length, take, drop, AllPairs, Some, None, Result}
use Rattle.std.specs.List.{AllByRecursion}
use Rattle.journal_world.specs.declared.layout.TheConstants.{FIRST_DATA, BLOCK_BITS, BLOCK_BYTES}
use Rattle.journal_world.specs.declared.address.Addr.{Addr}
use Rattle.journal_world.specs.Addresses.{Value, is_same, Shape}
use Rattle.journal_world.specs.Maps.{Map, Pair, Agrees, SamePairs, value_among, value_at, overwritten}
use Rattle.journal_tail.specs.declared.limits.TheConstants.{MAX_UPDATES}
use Rattle.journal_tail.specs.Writes.{written_blocks}
use Rattle.journal_twophase.specs.Transactions.{TxnState}
use Rattle.journal_inode.specs.declared.version.FormatVersion.{FormatVersion}
use Rattle.journal_inode.specs.declared.node.FileNode.{FileNode}
use Rattle.journal_inode.specs.declared.node.Node.TheVariants.{File}
use Rattle.journal_inode.specs.Nodes.{inode_bytes}
use Rattle.journal_inode.specs.Places.{Object, addr_of, IsOnDisk, object}
use Rattle.journal_inode.specs.Places.Object.{bit, inode, block}
use Rattle.journal_inode.specs.Sound.{HasSoundFiles}
use Rattle.journal_file_types.specs.declared.status.Status.{Status}
use Rattle.journal_filestore.specs.Files.{FileEntry, Files, files_of, with_entry}
use Rattle.journal_filestore.specs.Operations.{Outcome}

-- the map gives each address that the pairs name the value that they give it
abbrev pub GivesPairs : Map → List Pair → Type 0
GivesPairs m ps = (a : Addr) (v : Value) → value_among ps a ≡ Some v → value_at m a ≡ v

-- A map that the transaction may have read: sound, on a disk of this many blocks, and with the
-- values that were read
pub record MayBeRead (version : FormatVersion) (layout : Shape) (reads : List Pair) (m : Map) : Type 0 where
  pub on_disk : m.layout ≡ layout
  pub sound : HasSoundFiles version m
  pub gives : GivesPairs m reads

-- the transaction has not read the object
abbrev pub IsNotYetRead : TxnState → Object → Type 0
IsNotYetRead t o = value_among t.reads (addr_of o) ≡ None

-- it has read no other object than this since
abbrev pub ReadsOnly : TxnState → TxnState → Object → Type 0
ReadsOnly old new o = (a : Addr) → is_same a (addr_of o) ≡ false → value_among new.reads a ≡ value_among old.reads a

-- it has read no data block
abbrev pub HasReadNoBlocks : TxnState → Type 0
HasReadNoBlocks t = (b : ℕ) → FIRST_DATA ≤ b → IsNotYetRead t (block b)

-- and no bit
abbrev pub HasReadNoData : TxnState → Type 0
HasReadNoData t = HasReadNoBlocks t × ((k : ℕ) → k < BLOCK_BITS → IsNotYetRead t (bit k))

-- a bit of the bitmap may belong to the block
abbrev pub HasBit : ℕ → Type 0
HasBit b = (FIRST_DATA ≤ b) × (b < FIRST_DATA + BLOCK_BITS)

-- the bits of these blocks are clear
abbrev pub AreClear : Map → List ℕ → Type 0
AreClear m bs = AllByRecursion (λ b. object m (bit (b - FIRST_DATA)) ≡ 0 ∷ []) bs

-- n different blocks, each with a bit
pub record AreFresh (n : ℕ) (bs : List ℕ) : Type 0 where
  pub count : length bs ≡ n
  pub distinct : AllPairs ◌≢◌ bs
  pub bits : AllByRecursion HasBit bs

-- The transaction only read, and P holds of each map that it may have read
pub record LearnsThat (version : FormatVersion) (layout : Shape) (old new : TxnState) (P : Map → Type 0) : Type 0 where
  pub writes : new.writes ≡ old.writes
  pub before : (m : Map) → MayBeRead version layout new.reads m → MayBeRead version layout old.reads m
  pub now : (m : Map) → MayBeRead version layout new.reads m → P m

-- The transaction overwrote an object of the disk
pub record WritesObject (layout : Shape) (old new : TxnState) (o : Object) (v : Value) : Type 0 where
  pub reads : new.reads ≡ old.reads
  pub pairs : SamePairs new.writes ((addr_of o, v) ∷ old.writes)
  pub on_disk : IsOnDisk layout.blocks o

-- an object and a value of it
abbrev pub Write : Type 0
Write = Object × Value

-- The transaction overwrote these objects of the disk, one after another
abbrev pub WritesEach : Shape → TxnState → TxnState → List Write → Type 0
WritesEach layout old new [] = new ≡ old
WritesEach layout old new (w ∷ ws) = (middle : TxnState) × WritesObject layout old middle w.0 w.1 × WritesEach layout middle new ws

-- the bits of these blocks, each with this value
abbrev pub bits_written : ℕ → List ℕ → List Write
bits_written v [] = []
bits_written v (b ∷ bs) = (bit (b - FIRST_DATA), v ∷ []) ∷ bits_written v bs

-- these blocks, by bytes that lie one after another
abbrev pub blocks_written : List ℕ → List ℕ → List Write
blocks_written [] bytes = []
blocks_written (b ∷ bs) bytes = (block b, take BLOCK_BYTES bytes) ∷ blocks_written bs (drop BLOCK_BYTES bytes)

-- a file's new blocks and their bits, other blocks that get bytes, and its inode
abbrev pub file_written : ℕ → FileNode → List ℕ → List ℕ → List ℕ → List Write
file_written i f fresh bs bytes = bits_written 1 fresh ++ (blocks_written bs bytes ++ (inode i, inode_bytes (File f)) ∷ [])

-- The map is sound still, and its files are those of before with this entry
pub record Puts (version : FormatVersion) (m n : Map) (i : ℕ) (e : FileEntry) : Type 0 where
  pub sound : HasSoundFiles version n
  pub files : files_of version n ≡ with_entry (files_of version m) i e

-- the map is sound still, and answer and files are what a case comes to
abbrev pub Leads : {A : Type 0} → FormatVersion → Map → Result A Status → Outcome A → Type 0
Leads version n answer outcome = HasSoundFiles version n × ((answer, files_of version n) ≡ outcome)

-- P holds of each map that the transaction may have read, and what its writes make of it
pub record Makes (version : FormatVersion) (layout : Shape) (old new : TxnState) (P : Map → Map → Type 0) : Type 0 where
  pub before : (m : Map) → MayBeRead version layout new.reads m → MayBeRead version layout old.reads m
  pub now : (m : Map) → MayBeRead version layout new.reads m → P m (overwritten m new.writes)
  pub few : written_blocks new.writes ≤ MAX_UPDATES

-- the answer fits the files of the maps before and after
abbrev pub IsCaseOn : {A : Type 0} → FormatVersion → (Files → A → Files → Type 0) → A → Map → Map → Type 0
IsCaseOn version case answer m n = case (files_of version m) answer (files_of version n)

-- Wherever a sound map gives what was read, the writes leave it sound, and the answer fits the
-- files before and after
pub record Does {A : Type 0} (version : FormatVersion) (layout : Shape) (case : Files → A → Files → Type 0) (reads writes : List Pair) (answer : A) : Type 0 where
  pub sound : (m : Map) → m.layout ≡ layout → HasSoundFiles version m → Agrees m reads → HasSoundFiles version (overwritten m writes)
  pub answers : (m : Map) → m.layout ≡ layout → HasSoundFiles version m → Agrees m reads → case (files_of version m) answer (files_of version (overwritten m writes))
  -- no more blocks are written than a transaction may write
  pub few : written_blocks writes ≤ MAX_UPDATES
