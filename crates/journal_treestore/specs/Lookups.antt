-- LOOKUP by what it reads of a disk, and laws that follow from the rule.
use Rattle.std.specs.Prelude.{ℕ, ◌≡◌, ◌≢◌, ◌<◌, ◌/◌, List, Ok, Err, true}
use Rattle.journal_tree.specs.declared.time.Time.{Time}
use Rattle.journal_tree.specs.declared.reply.Found.{Found}
use Rattle.journal_tree.specs.declared.reply.Kind.TheVariants.{Directory}
use Rattle.journal_tree.specs.declared.caller.Caller.{Caller}
use Rattle.journal_tree.specs.declared.name.NameKind.TheVariants.{Name}
use Rattle.journal_tree.specs.declared.status.Status.TheVariants.{NoEntry}
use Rattle.journal_tree.specs.Rights.{may_search}
use Rattle.journal_tree.specs.Calls.{told, name_kind}
use Rattle.journal_tree.specs.Op.{Op}
use Rattle.journal_tree.specs.Op.Call.{lookup}
use Rattle.journal_tree.specs.Op.Reply.{found}
use Rattle.journal_treestore.specs.declared.entry.TheConstants.{PLACES}
use Rattle.journal_treestore.specs.Entries.{tag_of}
use Rattle.journal_treestore.specs.Levels.{IsBlockFor}
use Rattle.journal_treestore.specs.Views.{Held, View, block_at, node_of, tree_of, entry_at}
use Rattle.journal_treestore.specs.Views.Seen.{used}
use Rattle.journal_treestore.specs.Sound.{IsSoundInode, IsSoundView}

-- No block is had twice: owners' records alone say so
abbrev pub BlocksAreHadOnce : Type 0
BlocksAreHadOnce = (V : View) (n m : ℕ) (g h : Held) (i j : ℕ) → IsSoundInode V n g → IsSoundInode V m h
    → block_at V g i ≢ 0 → block_at V g i ≡ block_at V h j → (n ≡ m) × (i ≡ j)

-- An entry was read, and the inode that it names, which has the name
pub record IsHit (V : View) (d : ℕ) (name : List ℕ) (place : ℕ) (g : Held) : Type 0 where
  pub some : (entry_at V d place).number ≢ 0
  pub is : V.inode (entry_at V d place).number ≡ used g
  pub named : g.home.name ≡ name

-- All entries of a directory in the blocks in which the name may lie were read, and each inode
-- that one of the name's tag names, and none has the name
abbrev pub IsMiss : View → ℕ → Held → List ℕ → Type 0
IsMiss V d h name = (place : ℕ) (g : Held) → place < h.size / 8 → IsBlockFor (tag_of name) (place / PLACES) → (entry_at V d place).number ≢ 0
    → (entry_at V d place).tag ≡ tag_of name → V.inode (entry_at V d place).number ≡ used g → g.home.name ≢ name

abbrev pub found_by : View → ℕ → Held → ℕ → Held → Found
found_by V d h n g = record { generation = g.generation; node = told n (node_of V g); directory = told d (node_of V h) }

-- The directory of a handle was read, the caller may search it, and the name is one
pub record InDirectory (V : View) (c : Caller) (d : ℕ) (h : Held) (name : List ℕ) : Type 0 where
  pub is : V.inode d ≡ used h
  pub kind : h.kind ≡ Directory
  pub may : may_search c h.attributes ≡ true
  pub named : name_kind name ≡ Name

-- LOOKUP answers by what it read
abbrev pub LookupFinds : Type 0
LookupFinds = (V : View) (c : Caller) (d : ℕ) (h : Held) (name : List ℕ) (place : ℕ) (g : Held) (now : Time) → IsSoundView V → InDirectory V c d h name
    → IsHit V d name place g
    → Op (lookup (record { number = d; generation = h.generation }) name) c now (tree_of V) (found (Ok (found_by V d h (entry_at V d place).number g))) (tree_of V)

abbrev pub LookupMisses : Type 0
LookupMisses = (V : View) (c : Caller) (d : ℕ) (h : Held) (name : List ℕ) (now : Time) → IsSoundView V → InDirectory V c d h name
    → IsMiss V d h name
    → Op (lookup (record { number = d; generation = h.generation }) name) c now (tree_of V) (found (Err NoEntry)) (tree_of V)
