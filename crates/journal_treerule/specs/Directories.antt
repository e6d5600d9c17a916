-- The entries of one directory, and the nodes that they name.
use Rattle.std.specs.Prelude.{ℕ, ◌≡◌, ◌≢◌, ◌<◌, ◌≤◌, ◌+◌, ◌*◌, ◌/◌, ◌%◌, ◌↔◌, ◌⊎◌, Bool, true, false, List, Option, Some, All, Contains, get_or, bytes_eq}
use Rattle.std.specs.List.{list_any}
use Rattle.journal_tree.specs.declared.limits.TheConstants.{MOST_PLACES, FIRST_PLACES}
use Rattle.journal_tree.specs.declared.reply.Kind.{Kind}
use Rattle.journal_tree.specs.declared.reply.Kind.TheVariants.{Directory, File, Link}
use Rattle.journal_tree.specs.Trees.{Home}
use Rattle.journal_treestore.specs.declared.entry.Entry.{Entry}
use Rattle.journal_treestore.specs.declared.entry.TheConstants.{PLACES}
use Rattle.journal_treestore.specs.declared.inode.TheConstants.{DIRECT_BLOCKS}
use Rattle.journal_treestore.specs.Inodes.{name_from}
use Rattle.journal_treestore.specs.Bytes.{word_at}
use Rattle.journal_treestore.specs.Entries.{tag_of, no_entry, entry_from}
use Rattle.journal_treestore.specs.Levels.{IsBlockFor}
use Rattle.journal_treestore.specs.Views.{Held, Seen, View, number_in, entry_in, entry_at, homes}
use Rattle.journal_treestore.specs.Views.Seen.{free, used}
use Rattle.journal_treerule.specs.declared.children.Child.{Child}
use Rattle.journal_treerule.specs.declared.children.Children.{Children}
use Rattle.journal_treerule.specs.declared.directory.TheConstants.{LEVEL_BLOCKS}
use Rattle.journal_treerule.specs.declared.entries.EntryPlace.{EntryPlace}
use Rattle.journal_treerule.specs.declared.entries.NamedNode.{NamedNode}

-- ── entries ──

-- A node may have a second entry at the place: the block is one for its name, and that of its
-- home's place is none
pub record IsSecondPlace (home : Home) (place : ℕ) : Type 0 where
  pub block : IsBlockFor (tag_of home.name) (place / PLACES)
  pub needed : IsBlockFor (tag_of home.name) (home.place / PLACES) → ⊥

-- The node that an entry names hangs in the directory, under a name of the entry's tag. Its home's
-- place is that of the entry, or it may have a second entry there
pub record IsEntryIn (H : ℕ → Option Home) (d place : ℕ) (e : Entry) : Type 0 where
  pub home : Home
  pub is : H e.number ≡ Some home
  pub directory : home.directory ≡ d
  pub at : (home.place ≡ place) ⊎ IsSecondPlace home place
  pub tag : e.tag ≡ tag_of home.name

-- Where there is no entry its bytes are zero. The node that an entry names hangs there
pub record IsSoundEntry (H : ℕ → Option Home) (d place : ℕ) (e : Entry) : Type 0 where
  pub blank : e.number ≡ 0 → e ≡ no_entry
  pub back : e.number ≢ 0 → IsEntryIn H d place e

-- The node that an entry names has this name
pub record HasNameOf (H : ℕ → Option Home) (e : Entry) (name : List ℕ) : Type 0 where
  pub some : e.number ≢ 0
  pub home : Home
  pub is : H e.number ≡ Some home
  pub named : home.name ≡ name

-- The entry at the home of a node of this name
pub record IsOwnEntry (H : ℕ → Option Home) (place : ℕ) (e : Entry) (name : List ℕ) : Type 0 where
  pub names : HasNameOf H e name
  pub at : names.home.place ≡ place

-- One that needs a second one
pub record NeedsSecond (H : ℕ → Option Home) (place : ℕ) (e : Entry) (name : List ℕ) : Type 0 where
  pub own : IsOwnEntry H place e name
  pub needed : IsBlockFor (tag_of name) (place / PLACES) → ⊥

-- A second entry of a node of this name
pub record IsOtherEntry (H : ℕ → Option Home) (place : ℕ) (e : Entry) (name : List ℕ) : Type 0 where
  pub names : HasNameOf H e name
  pub other : names.home.place ≢ place

-- these entries of a directory, by place and name
abbrev pub own_entries : View → ℕ → ℕ → List ℕ → Type 0
own_entries V d place name = IsOwnEntry (homes V) place (entry_at V d place) name

abbrev pub needing_entries : View → ℕ → ℕ → List ℕ → Type 0
needing_entries V d place name = NeedsSecond (homes V) place (entry_at V d place) name

abbrev pub second_entries : View → ℕ → ℕ → List ℕ → Type 0
second_entries V d place name = IsOtherEntry (homes V) place (entry_at V d place) name

-- One of the first places has the name
pub record IsOneBelow (P : ℕ → List ℕ → Type 0) (to : ℕ) (name : List ℕ) : Type 0 where
  pub place : ℕ
  pub low : place < to
  pub here : P place name

-- no two of the first places have a name
abbrev pub AreApart : (ℕ → List ℕ → Type 0) → ℕ → Type 0
AreApart P to = (p q : ℕ) (name : List ℕ) → p < to → q < to → P p name → P q name → p ≡ q

-- The first entries of a directory are sound. The names of no two nodes are alike, and no node has
-- two second entries
pub record AreEntriesSound (V : View) (d to : ℕ) : Type 0 where
  pub each : (place : ℕ) → place < to → IsSoundEntry (homes V) d place (entry_at V d place)
  pub apart : AreApart (own_entries V d) to
  pub once : AreApart (second_entries V d) to

-- Each node that needs a second entry has one
abbrev pub HaveSeconds : View → ℕ → Type 0
HaveSeconds V d = (name : List ℕ) → IsOneBelow (needing_entries V d) MOST_PLACES name → IsOneBelow (second_entries V d) MOST_PLACES name

-- So a directory is sound
pub record IsSoundDirectory (V : View) (d : ℕ) : Type 0 where
  pub entries : AreEntriesSound V d MOST_PLACES
  pub seconds : HaveSeconds V d

-- ── what they name ──

abbrev pub is_of_directory : Kind → Bool
is_of_directory Directory = true
is_of_directory File = false
is_of_directory Link = false

abbrev pub is_directory : Seen → Bool
is_directory (free g) = false
is_directory (used h) = is_of_directory h.kind

-- the node of a number, as an entry names it
abbrev pub child_of : View → ℕ → Child
child_of V n = record { number = n; is_directory = is_directory (V.inode n) }

-- One of the first entries is that at its home
pub record IsChild (V : View) (d to : ℕ) (x : Child) : Type 0 where
  pub place : ℕ
  pub low : place < to
  pub name : List ℕ
  pub own : own_entries V d place name
  pub is : child_of V (entry_at V d place).number ≡ x

-- The list has those that hang at the first places, and nothing else
pub record AreChildren (V : View) (d to : ℕ) (children : List Child) : Type 0 where
  pub all : (place : ℕ) (name : List ℕ) → place < to → own_entries V d place name → Contains children (child_of V (entry_at V d place).number)
  pub only : (x : Child) → Contains children x → IsChild V d to x

-- whether a name is among others
abbrev pub has_name : List (List ℕ) → List ℕ → Bool
has_name names name = list_any (λ other. bytes_eq other name) names

-- these are the names of the first places
abbrev pub AreNames : (ℕ → List ℕ → Type 0) → ℕ → List (List ℕ) → Type 0
AreNames P to names = (name : List ℕ) → (has_name names name ≡ true) ↔ IsOneBelow P to name

-- The first entries are sound, and these are the nodes that hang there, their names, those of nodes
-- that need a second entry, and those of second entries
pub record IsListed (V : View) (d to : ℕ) (found : Children) : Type 0 where
  pub sound : AreEntriesSound V d to
  pub children : AreChildren V d to found.list.items
  pub names : AreNames (own_entries V d) to found.names
  pub needing : AreNames (needing_entries V d) to found.needing
  pub seconds : AreNames (second_entries V d) to found.seconds

-- Further entries are listed, or one of them is not sound
abbrev pub ListsMore : View → ℕ → ℕ → ℕ → Children → Children → Bool → Type 0
ListsMore V d from to old new true = IsListed V d from old → IsListed V d to new
ListsMore V d from to old new false = IsListed V d from old → AreEntriesSound V d to → ⊥

-- The numbers of all are below this one
abbrev pub AreBelow : ℕ → List Child → Type 0
AreBelow numbers children = All (λ (x : Child). x.number < numbers) children

-- ── blocks of entries ──

abbrev pub IsDataBlock : View → ℕ → Type 0
IsDataBlock V block = (V.first_data ≤ block) × (block < V.first_data + V.data_blocks)

-- the entries of a directory from a place on are those of these bytes
abbrev pub HasEntriesAt : View → ℕ → ℕ → List ℕ → Type 0
HasEntriesAt V d from bytes = (at : ℕ) → at < PLACES → entry_at V d (from + at) ≡ entry_from bytes at

-- The entries from a place on are those of a block of data. Where its number is 0, there are none
pub record HasBlockAt (V : View) (d from block : ℕ) : Type 0 where
  pub entries : (at : ℕ) → at < PLACES → entry_at V d (from + at) ≡ entry_in V block at
  pub there : block ≢ 0 → IsDataBlock V block

-- the entries of the first blocks of a directory
abbrev pub HasFirstBlocks : View → ℕ → List ℕ → Type 0
HasFirstBlocks V d blocks = (j : ℕ) → j < DIRECT_BLOCKS → HasBlockAt V d (PLACES * j) (get_or blocks j 0)

-- those of the blocks of its levels, whose numbers lie in these bytes
abbrev pub HasLevelsIn : View → ℕ → List ℕ → Type 0
HasLevelsIn V d bytes = (k : ℕ) → k < LEVEL_BLOCKS → HasBlockAt V d (FIRST_PLACES + PLACES * k) (word_at bytes (4 * k))

-- The numbers of the blocks of its levels lie in the block. Where its number is 0, there are none
pub record HasLevelsAt (V : View) (d block : ℕ) : Type 0 where
  pub blocks : (k : ℕ) → k < LEVEL_BLOCKS → HasBlockAt V d (FIRST_PLACES + PLACES * k) (number_in V block k)
  pub there : block ≢ 0 → IsDataBlock V block

-- They lie in its first index block
pub record HasLevels (V : View) (d index : ℕ) : Type 0 where
  pub levels : HasLevelsAt V d (number_in V index 0)
  pub there : index ≢ 0 → IsDataBlock V index

-- ── a node that is named ──

-- The node hangs in the directory, under a name of the entry's tag, and its entry may be there
pub record HangsThere (at : EntryPlace) (e : Entry) (h : Held) : Type 0 where
  pub directory : h.home.directory ≡ at.directory
  pub at_place : (h.home.place ≡ at.place) ⊎ IsSecondPlace h.home at.place
  pub tag : e.tag ≡ tag_of h.home.name

-- An entry names the node, whose entry may be there
pub record IsNamedBy (V : View) (at : EntryPlace) (e : Entry) (x : NamedNode) : Type 0 where
  pub entry : IsEntryIn (homes V) at.directory at.place e
  pub child : x.child ≡ child_of V e.number
  pub names : HasNameOf (homes V) e (name_from x.inode)
  pub home : names.home.place ≡ x.home
