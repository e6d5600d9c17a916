-- The rule of a disk with a tree, in parts that are decided one after another: the description, and
-- each inode alone.
use Rattle.std.specs.Prelude.{ℕ, ◌≡◌, ◌≢◌, ◌<◌, ◌≤◌, ◌+◌, ◌*◌, ◌%◌, ◌^◌, ◌==◌, ◌&&◌, Bool, true, false, List, [], ◌∷◌, length, get_or, IsTrue}
use Rattle.journal_world.specs.Maps.{Map}
use Rattle.journal_tree.specs.declared.limits.TheConstants.{ROOT, MOST_BYTES, MOST_LINK, MOST_PLACES, ENTRY_BYTES, MODES, LAST_GENERATION}
use Rattle.journal_tree.specs.declared.reply.Attributes.{Attributes}
use Rattle.journal_tree.specs.declared.reply.Kind.{Kind}
use Rattle.journal_tree.specs.declared.reply.Kind.TheVariants.{Directory, File, Link}
use Rattle.journal_tree.specs.Trees.{Home}
use Rattle.journal_tree.specs.Times.{IsTime}
use Rattle.journal_tree.specs.Fit.{IsWord, IsOptionalLong, IsFitHome}
use Rattle.journal_tree.specs.Calls.{DOT}
use Rattle.journal_treestore.specs.declared.inode.TheConstants.{DIRECT_BLOCKS, INDEX_NUMBERS, INDEX_PLACE, FIRST_INDEX_PLACE}
use Rattle.journal_treestore.specs.declared.inode.Head.{Head}
use Rattle.journal_treestore.specs.declared.owner.Owner.{Owner}
use Rattle.journal_treestore.specs.declared.place.Cut.{Cut}
use Rattle.journal_treestore.specs.Bytes.{word_at}
use Rattle.journal_treestore.specs.Descriptions.{description_bytes}
use Rattle.journal_treestore.specs.Views.{Held, Seen, View, block_at, begin_at}
use Rattle.journal_treestore.specs.Views.Seen.{free, used}
use Rattle.journal_treeobjects.specs.Maps.{description_of, view_of}

-- ── the description ──

-- These are the bytes of the description of a disk that is cut so, with some 8 bytes of its own
pub record IsDescriptionOf (c : Cut) (bytes : List ℕ) : Type 0 where
  pub disk : ℕ
  pub small : disk < 2 ^ 64
  pub written : bytes ≡ description_bytes (description_of c disk)

-- ── an inode alone ──

-- It hangs nowhere, as the root does
pub record IsRootHome (home : Home) : Type 0 where
  pub directory : home.directory ≡ 0
  pub place : home.place ≡ 0
  pub name : home.name ≡ []

-- Number 0 is no node's, and the root's is that of a directory that hangs nowhere
pub record IsInPlace (n : ℕ) (h : Held) : Type 0 where
  pub some : n ≢ 0
  pub kind : n ≡ ROOT → h.kind ≡ Directory
  pub home : n ≡ ROOT → IsRootHome h.home

-- A directory has whole blocks, of no more than the most entries. A file and the text of a link are
-- not too long
abbrev pub IsSizeOf : Kind → ℕ → Type 0
IsSizeOf Directory size = (size % 4096 ≡ 0) × (size ≤ ENTRY_BYTES * MOST_PLACES)
IsSizeOf File size = size ≤ MOST_BYTES
IsSizeOf Link size = size ≤ MOST_LINK

-- files and directories may have an index
abbrev pub IsIndexOf : Kind → ℕ → Type 0
IsIndexOf Directory index = Unit {0}
IsIndexOf File index = Unit {0}
IsIndexOf Link index = index ≡ 0

-- Attributes are within their bounds
pub record AreAttributesFit (a : Attributes) : Type 0 where
  pub mode : a.mode < MODES
  pub owner : IsWord a.owner
  pub group : IsWord a.group
  pub mtime : IsTime a.mtime
  pub ctime : IsTime a.ctime
  pub verifier : IsOptionalLong a.verifier

-- The fields of an inode in use are
pub record IsWithinBounds (h : Held) : Type 0 where
  pub home : IsFitHome h.home
  pub place : h.home.place < MOST_PLACES
  pub sized : IsSizeOf h.kind h.size
  pub indexed : IsIndexOf h.kind h.index
  pub attributes : AreAttributesFit h.attributes
  pub born : 1 ≤ h.generation
  pub young : h.generation ≤ LAST_GENERATION

-- A block of an inode lies before its end and among the data, and its record says who has it
pub record IsSoundBlock (V : View) (size : ℕ) (owner : Owner) (block : ℕ) : Type 0 where
  pub inside : begin_at owner.place < size
  pub first : V.first_data ≤ block
  pub last : block < V.first_data + V.data_blocks
  pub owned : V.owner block ≡ owner

-- so does each block that an inode has, by its place
abbrev pub AreBlocksSound : View → ℕ → ℕ → (ℕ → ℕ) → Type 0
AreBlocksSound V n size blocks = (p : ℕ) → blocks p ≢ 0 → IsSoundBlock V size (record { number = n; place = p }) (blocks p)

-- An inode in use is right by itself
pub record IsNode (V : View) (n : ℕ) (h : Held) : Type 0 where
  pub placed : IsInPlace n h
  pub within : IsWithinBounds h
  pub first : (j : ℕ) → DIRECT_BLOCKS ≤ j → h.blocks j ≡ 0
  pub blocks : AreBlocksSound V n h.size (block_at V h)

-- so is an inode. The root is in use
abbrev pub IsRightInode : View → ℕ → Seen → Type 0
IsRightInode V n (free g) = (n ≢ ROOT) × (g ≤ LAST_GENERATION)
IsRightInode V n (used h) = IsNode V n h

-- and each inode of the first ones
abbrev pub AreInodesRight : View → ℕ → Type 0
AreInodesRight V to = (n : ℕ) → n < to → IsRightInode V n (V.inode n)

abbrev pub is_used : Seen → Bool
is_used (free g) = false
is_used (used h) = true

-- a table says which of the first inodes are in use
abbrev pub AreInUse : View → ℕ → List Bool → Type 0
AreInUse V to table = (n : ℕ) → n < to → get_or table n false ≡ is_used (V.inode n)

-- whether these are no bytes, or those of `.` or `..`
abbrev pub is_dots : List ℕ → Bool
is_dots [] = true
is_dots (a ∷ []) = a == DOT
is_dots (a ∷ b ∷ []) = a == DOT && b == DOT
is_dots _ = false

-- ── the blocks of an inode, in parts ──

-- first block j is sound, if there is one
abbrev pub IsFirstSound : View → ℕ → ℕ → List ℕ → ℕ → Type 0
IsFirstSound V n size blocks j = get_or blocks j 0 ≢ 0 → IsSoundBlock V size (record { number = n; place = j }) (get_or blocks j 0)

-- so is block k of an index block, whose block 0 has the place of this record
abbrev pub IsNumberSound : View → ℕ → Owner → List ℕ → ℕ → Type 0
IsNumberSound V size first bytes k = word_at bytes (4 * k) ≢ 0 → IsSoundBlock V size (record { number = first.number; place = first.place + k }) (word_at bytes (4 * k))

-- Index block i is sound, and so are all blocks whose numbers it has
pub record IsSoundIndexBlock (V : View) (n size i block : ℕ) : Type 0 where
  pub sound : IsSoundBlock V size (record { number = n; place = FIRST_INDEX_PLACE + i }) block
  pub numbers : (k : ℕ) → k < INDEX_NUMBERS → IsNumberSound V size (record { number = n; place = DIRECT_BLOCKS + INDEX_NUMBERS * i }) (V.block block) k

-- index block i is so, if there is one
abbrev pub IsIndexBlockSound : View → ℕ → ℕ → List ℕ → ℕ → Type 0
IsIndexBlockSound V n size bytes i = word_at bytes (4 * i) ≢ 0 → IsSoundIndexBlock V n size i (word_at bytes (4 * i))

-- The block with the numbers of the index blocks is sound, and so are all of these
pub record IsSoundIndex (V : View) (n size block : ℕ) : Type 0 where
  pub sound : IsSoundBlock V size (record { number = n; place = INDEX_PLACE }) block
  pub blocks : (i : ℕ) → i < INDEX_NUMBERS → IsIndexBlockSound V n size (V.block block) i

-- All blocks of an inode are sound
pub record AreAllSound (V : View) (n : ℕ) (h : Head) : Type 0 where
  pub first : (j : ℕ) → j < DIRECT_BLOCKS → IsFirstSound V n h.size h.blocks j
  pub further : h.index ≢ 0 → IsSoundIndex V n h.size h.index

-- ── scans ──

-- The state of a scan of the first inodes: the map and the trust in the reader are as before; the
-- inodes are right, and the table says which are in use
pub record IsScanned (c : Cut) (before now : Map) (trusted still failed fails : Bool) (n : ℕ) (table : List Bool) : Type 0 where
  pub same_map : now ≡ before
  pub same_trust : still ≡ trusted
  pub stays_failed : IsTrue failed → IsTrue fails
  pub long : length table ≡ c.numbers
  pub right : IsTrue trusted → AreInodesRight (view_of c before) n
  pub in_use : IsTrue trusted → AreInUse (view_of c before) n table

-- The state of a scan of the first of some blocks: each of them is as it is to be
pub record ArePassed (before now : Map) (trusted still failed fails : Bool) (P : Map → ℕ → Type 0) (to : ℕ) : Type 0 where
  pub same_map : now ≡ before
  pub same_trust : still ≡ trusted
  pub stays_failed : IsTrue failed → IsTrue fails
  pub sound : IsTrue trusted → (k : ℕ) → k < to → P before k
