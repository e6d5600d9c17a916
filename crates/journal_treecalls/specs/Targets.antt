-- Handles, numbers and names on a disk.
use Rattle.std.specs.Prelude.{ℕ, ◌≡◌, ◌≢◌, ◌<◌, ◌-◌, ◌==◌, Bool, true, false, not, ◌&&◌, if◌then◌else◌, List, [], get_or, Option, Some, None, Result, Ok, Err}
use Rattle.journal_tree.specs.declared.limits.TheConstants.{FIRST_BLOCKS}
use Rattle.journal_tree.specs.declared.reply.Handle.{Handle}
use Rattle.journal_tree.specs.declared.reply.Told.{Told}
use Rattle.journal_tree.specs.declared.reply.Kind.{Kind}
use Rattle.journal_tree.specs.declared.reply.Kind.TheVariants.{Directory, File, Link}
use Rattle.journal_tree.specs.declared.caller.Caller.{Caller}
use Rattle.journal_tree.specs.declared.status.Status.{Status}
use Rattle.journal_tree.specs.declared.status.Status.TheVariants.{NoAccess, NotDirectory, Stale}
use Rattle.journal_tree.specs.Rights.{may_search}
use Rattle.journal_tree.specs.Calls.{target}
use Rattle.journal_tree.specs.Calls.Target.{gone}
use Rattle.journal_treestore.specs.declared.entry.Entry.{Entry}
use Rattle.journal_treestore.specs.declared.inode.Head.{Head}
use Rattle.journal_treestore.specs.declared.inode.Inode.{Inode}
use Rattle.journal_treestore.specs.Entries.{entry_from, tag_of}
use Rattle.journal_treestore.specs.declared.level.TheConstants.{LEVELS}
use Rattle.journal_treestore.specs.Levels.{level_block, IsBlockFor}
use Rattle.journal_treestore.specs.Views.{Held, View, held_of, seen, directory_block, tree_of}
use Rattle.journal_treestore.specs.Views.Seen.{used}
use Rattle.journal_treestore.specs.Inodes.{name_from}
use Rattle.journal_treecalls.specs.declared.node.Record.{Record}
use Rattle.journal_treecalls.specs.declared.search.Hit.{Hit}
use Rattle.journal_treecalls.specs.declared.search.DirectoryBlock.{DirectoryBlock}
use Rattle.journal_treecalls.specs.Fetches.{number_at}

-- The number has this inode, under some name
abbrev pub IsInode : View → ℕ → Inode → Type 0
IsInode V n x = (own : List ℕ) × (V.inode n ≡ seen x own)

-- an inode in use, as it was read, with its name
abbrev pub held : Record → Held
held r = held_of r.head (name_from r.bytes)

-- The handle names the node of this inode
pub record IsNode (V : View) (h : Handle) (r : Record) : Type 0 where
  pub is : V.inode h.number ≡ used (held r)
  pub current : r.head.generation ≡ h.generation

abbrev pub IsTarget : View → Handle → Option Record → Type 0
IsTarget V h None = target (tree_of V) h ≡ gone
IsTarget V h (Some r) = IsNode V h r

-- a node in a reply
abbrev pub told_of : ℕ → Head → Told
told_of n head = record { number = n; kind = head.kind; size = head.size; attributes = head.attributes }

-- the inode, if it is of the handle's generation
abbrev pub current_of : Head → List ℕ → Handle → Option Record
current_of head bytes h = if head.generation == h.generation then Some (record { head = head; bytes = bytes }) else None

-- ── a directory that is searched ──

-- The handle names a directory that the caller may search
pub record IsSearched (V : View) (c : Caller) (h : Handle) (r : Record) : Type 0 where
  pub node : IsNode V h r
  pub kind : r.head.kind ≡ Directory
  pub may : may_search c r.head.attributes ≡ true

-- or why it does not
pub data IsUnsearched (V : View) (c : Caller) (h : Handle) : Status → Type 0 where
  stale : target (tree_of V) h ≡ gone → IsUnsearched V c h Stale
  other_kind : (r : Record) → IsNode V h r → r.head.kind ≢ Directory → IsUnsearched V c h NotDirectory
  no_right : (r : Record) → IsNode V h r → r.head.kind ≡ Directory → may_search c r.head.attributes ≡ false → IsUnsearched V c h NoAccess

abbrev pub IsDirectoryFor : View → Caller → Handle → Result Record Status → Type 0
IsDirectoryFor V c h (Ok r) = IsSearched V c h r
IsDirectoryFor V c h (Err status) = IsUnsearched V c h status

-- the inode, if it is a directory's and the caller may search it
abbrev pub directory_by : Kind → Bool → Record → Result Record Status
directory_by File may r = Err NotDirectory
directory_by Link may r = Err NotDirectory
directory_by Directory may r = if may then Ok r else Err NoAccess

abbrev pub directory_of : Caller → Record → Result Record Status
directory_of c r = directory_by r.head.kind (may_search c r.head.attributes) r

-- ── names ──

-- The name in these bytes is the name, or it is not
abbrev pub NamedBy : List ℕ → List ℕ → Head → Option Head → Type 0
NamedBy v name head (Some h) = (h ≡ head) × (name_from v ≡ name)
NamedBy v name head None = name_from v ≢ name

-- The number's inode has the name, or it has not
abbrev pub HasName : View → ℕ → List ℕ → Option Head → Type 0
HasName V n name (Some head) = V.inode n ≡ used (held_of head name)
HasName V n name None = (g : Held) → V.inode n ≡ used g → g.home.name ≢ name

-- The entry at a place of a directory's block, which has these bytes, names the node
pub record IsHitOf (V : View) (b : DirectoryBlock) (v name : List ℕ) (at : ℕ) (hit : Hit) : Type 0 where
  pub which : hit.j ≡ b.j
  pub block : hit.block ≡ b.number
  pub place : hit.at ≡ at
  pub entry : (entry_from v at).number ≡ hit.number
  pub some : hit.number ≢ 0
  pub inode : V.inode hit.number ≡ used (held_of hit.head name)

-- or no node of the name, if it has this tag
abbrev pub IsHitAt : View → DirectoryBlock → List ℕ → ℕ → List ℕ → ℕ → Option Hit → Type 0
IsHitAt V b v tag name at (Some hit) = IsHitOf V b v name at hit
IsHitAt V b v tag name at None = (entry_from v at).number ≢ 0 → (entry_from v at).tag ≡ tag → (g : Held) → V.inode (entry_from v at).number ≡ used g → g.home.name ≢ name

-- whether an entry is one, and has the tag
abbrev pub has_tag : Entry → ℕ → Bool
has_tag e tag = not (e.number == 0) && e.tag == tag

-- none of the first places does
abbrev pub HasNoHit : View → DirectoryBlock → List ℕ → ℕ → List ℕ → ℕ → Type 0
HasNoHit V b v tag name to = (at : ℕ) → at < to → IsHitAt V b v tag name at None

-- One entry of the block does
pub record IsHitIn (V : View) (b : DirectoryBlock) (v name : List ℕ) (hit : Hit) : Type 0 where
  pub at : ℕ
  pub low : at < 512
  pub is : IsHitOf V b v name at hit

abbrev pub HitsIn : View → DirectoryBlock → List ℕ → ℕ → List ℕ → Option Hit → Type 0
HitsIn V b v tag name None = HasNoHit V b v tag name 512
HitsIn V b v tag name (Some hit) = IsHitIn V b v name hit

-- The block is there, and one of its entries does
pub record IsHitBlock (V : View) (b : DirectoryBlock) (name : List ℕ) (hit : Hit) : Type 0 where
  pub there : b.number ≢ 0
  pub inside : IsHitIn V b (V.block b.number) name hit

abbrev pub HitsBlock : View → DirectoryBlock → ℕ → List ℕ → Option Hit → Type 0
HitsBlock V b tag name None = b.number ≢ 0 → HasNoHit V b (V.block b.number) tag name 512
HitsBlock V b tag name (Some hit) = IsHitBlock V b name hit

-- ── the first blocks of a directory ──

abbrev pub direct_block : List ℕ → ℕ → DirectoryBlock
direct_block bs j = record { j = j; number = get_or bs j 0 }

-- none of them, up to one, has an entry of the name
abbrev pub HasNoHitIn : View → List ℕ → ℕ → List ℕ → ℕ → Type 0
HasNoHitIn V bs tag name to = (j : ℕ) → j < to → HitsBlock V (direct_block bs j) tag name None

-- One of them has
pub record IsFirstHit (V : View) (bs name : List ℕ) (hit : Hit) : Type 0 where
  pub j : ℕ
  pub low : j < FIRST_BLOCKS
  pub is : IsHitBlock V (direct_block bs j) name hit

abbrev pub HitsFirst : View → List ℕ → ℕ → List ℕ → Option Hit → Type 0
HitsFirst V bs tag name None = HasNoHitIn V bs tag name FIRST_BLOCKS
HitsFirst V bs tag name (Some hit) = IsFirstHit V bs name hit

-- ── its levels ──

-- the block of a level, where these bytes have the numbers of the blocks after the first
abbrev pub level_number : List ℕ → ℕ → ℕ → DirectoryBlock
level_number v tag level = record { j = level_block tag level; number = number_at v (level_block tag level - FIRST_BLOCKS) }

-- none of the first levels has an entry of the name
abbrev pub HasNoHitBelow : View → List ℕ → ℕ → List ℕ → ℕ → Type 0
HasNoHitBelow V v tag name to = (level : ℕ) → level < to → HitsBlock V (level_number v tag level) tag name None

-- One of them has
pub record IsLevelHit (V : View) (v : List ℕ) (tag : ℕ) (name : List ℕ) (hit : Hit) : Type 0 where
  pub level : ℕ
  pub low : level < LEVELS
  pub is : IsHitBlock V (level_number v tag level) name hit

abbrev pub HitsNumbers : View → List ℕ → ℕ → List ℕ → Option Hit → Type 0
HitsNumbers V v tag name None = HasNoHitBelow V v tag name LEVELS
HitsNumbers V v tag name (Some hit) = IsLevelHit V v tag name hit

-- ── all blocks in which a name may lie ──

-- block j of a directory of these fields
abbrev pub block_of : View → Head → ℕ → DirectoryBlock
block_of V h j = record { j = j; number = directory_block V (held_of h []) j }

-- The block of one of the levels has an entry of the name
pub record IsHitAbove (V : View) (h : Head) (tag : ℕ) (name : List ℕ) (hit : Hit) : Type 0 where
  pub level : ℕ
  pub low : level < LEVELS
  pub is : IsHitBlock V (block_of V h (level_block tag level)) name hit

abbrev pub HitsLevels : View → Head → ℕ → List ℕ → Option Hit → Type 0
HitsLevels V h tag name None = (level : ℕ) → level < LEVELS → HitsBlock V (block_of V h (level_block tag level)) tag name None
HitsLevels V h tag name (Some hit) = IsHitAbove V h tag name hit

-- One of the blocks in which the name may lie has
pub record IsHit (V : View) (h : Head) (name : List ℕ) (hit : Hit) : Type 0 where
  pub j : ℕ
  pub block : IsBlockFor (tag_of name) j
  pub is : IsHitBlock V (block_of V h j) name hit

abbrev pub Hits : View → Head → List ℕ → Option Hit → Type 0
Hits V h name None = (j : ℕ) → IsBlockFor (tag_of name) j → HitsBlock V (block_of V h j) (tag_of name) name None
Hits V h name (Some hit) = IsHit V h name hit

-- its place in a block is below 512
abbrev pub IsInside : Option Hit → Type 0
IsInside None = Unit {0}
IsInside (Some hit) = hit.at < 512
