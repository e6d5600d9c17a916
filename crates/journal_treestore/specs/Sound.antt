-- The rule of a sound tree on a disk.
use Rattle.std.specs.Prelude.{ℕ, ◌≡◌, ◌≢◌, ◌<◌, ◌≤◌, ◌+◌, ◌*◌, ◌/◌, ◌⊎◌, Option, Some, None, length}
use Rattle.journal_tree.specs.declared.limits.TheConstants.{ROOT}
use Rattle.journal_tree.specs.declared.reply.Kind.TheVariants.{Directory}
use Rattle.journal_tree.specs.Trees.{Home}
use Rattle.journal_tree.specs.Rule.{HasTree}
use Rattle.journal_tree.specs.Fit.{HasFit}
use Rattle.journal_treestore.specs.declared.entry.TheConstants.{PLACES}
use Rattle.journal_treestore.specs.declared.entry.Entry.{Entry}
use Rattle.journal_treestore.specs.declared.inode.TheConstants.{DIRECT_BLOCKS}
use Rattle.journal_treestore.specs.declared.place.TheConstants.{MOST_DISK_BLOCKS, MOST_NUMBERS}
use Rattle.journal_treestore.specs.Entries.{no_entry, tag_of}
use Rattle.journal_treestore.specs.Levels.{IsBlockFor}
use Rattle.journal_treestore.specs.Views.{Held, View, block_at, begin_at, tree_of, entry_at, homes}
use Rattle.journal_treestore.specs.Views.Seen.{used}

-- the entry of a node
abbrev pub entry_for : ℕ → Home → Entry
entry_for n home = record { number = n; tag = tag_of home.name }

-- The node that an entry names hangs in the directory, under a name of the entry's tag. Its home's
-- place is that of the entry, or its second entry is there
pub record IsEntryOf (H : ℕ → Option Home) (second : ℕ → Option ℕ) (d place : ℕ) (e : Entry) : Type 0 where
  pub home : Home
  pub is : H e.number ≡ Some home
  pub directory : home.directory ≡ d
  pub at : (home.place ≡ place) ⊎ (second e.number ≡ Some place)
  pub tag : e.tag ≡ tag_of home.name

-- A second entry is one more, in a block in which the name may lie
pub record IsSecondEntry (E : ℕ → ℕ → Entry) (n : ℕ) (home : Home) (place : ℕ) : Type 0 where
  pub block : IsBlockFor (tag_of home.name) (place / PLACES)
  pub is : E home.directory place ≡ entry_for n home
  -- the block of the home's place is none
  pub needed : IsBlockFor (tag_of home.name) (home.place / PLACES) → ⊥

-- A node whose home's place lies in a block in which its name may lie has no second entry, and
-- each other has one
abbrev pub HasSecond : (ℕ → ℕ → Entry) → ℕ → Home → Option ℕ → Type 0
HasSecond E n home None = IsBlockFor (tag_of home.name) (home.place / PLACES)
HasSecond E n home (Some place) = IsSecondEntry E n home place

-- Entries and homes point at each other, and where there is no entry its bytes are zero. A node
-- that got another name keeps its place, in whatever block that is. So it has a second entry where
-- its name would not be looked for there
pub record IsHung (H : ℕ → Option Home) (E : ℕ → ℕ → Entry) : Type 0 where
  -- where the second entry of a node is, if it has one
  pub second : ℕ → Option ℕ
  pub back : (d place : ℕ) → (E d place).number ≢ 0 → IsEntryOf H second d place (E d place)
  pub hung : (n : ℕ) (home : Home) → H n ≡ Some home → n ≢ ROOT → E home.directory home.place ≡ entry_for n home
  pub seconds : (n : ℕ) (home : Home) → H n ≡ Some home → n ≢ ROOT → HasSecond E n home (second n)
  pub blank : (d place : ℕ) → (E d place).number ≡ 0 → E d place ≡ no_entry

-- The rule of an inode alone: each of its blocks is a block of data, whose record says that this
-- inode has it there; none lies after its size; a directory has whole blocks
pub record IsSoundInode (V : View) (n : ℕ) (h : Held) : Type 0 where
  pub owned : (p : ℕ) → block_at V h p ≢ 0 → V.owner (block_at V h p) ≡ record { number = n; place = p }
  pub there : (p : ℕ) → block_at V h p ≢ 0 → (V.first_data ≤ block_at V h p) × (block_at V h p < V.first_data + V.data_blocks)
  pub after : (p : ℕ) → h.size ≤ begin_at p → block_at V h p ≡ 0
  pub sized : (p : ℕ) → block_at V h p ≢ 0 → length (V.block (block_at V h p)) ≡ 4096
  pub whole : h.kind ≡ Directory → (blocks : ℕ) × (h.size ≡ 4096 * blocks)
  pub first : (j : ℕ) → DIRECT_BLOCKS ≤ j → h.blocks j ≡ 0

-- A disk has a sound tree
pub record IsSoundView (V : View) : Type 0 where
  pub few_numbers : V.numbers ≤ MOST_NUMBERS
  pub few_blocks : V.first_data + V.data_blocks ≤ MOST_DISK_BLOCKS
  pub no_data : 1 ≤ V.first_data
  pub tree : HasTree (tree_of V)
  pub fit : HasFit (tree_of V)
  pub inodes : (n : ℕ) (h : Held) → V.inode n ≡ used h → IsSoundInode V n h
  pub hung : IsHung (homes V) (entry_at V)
