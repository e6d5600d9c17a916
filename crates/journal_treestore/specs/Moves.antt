-- The writes of RENAME, by steps: a node that is replaced goes, a node gets another name in its
-- directory, a node goes to another directory.
use Rattle.std.specs.Prelude.{ℕ, ◌≡◌, ◌≢◌, ◌⊎◌, List, Option, Some, None}
use Rattle.journal_tree.specs.declared.time.Time.{Time}
use Rattle.journal_tree.specs.declared.reply.Kind.TheVariants.{Directory}
use Rattle.journal_tree.specs.Trees.{Home, with_node}
use Rattle.journal_tree.specs.Times.{time_of_change}
use Rattle.journal_tree.specs.Renames.{Move, with_ctime, moved}
use Rattle.journal_tree.specs.Op.{MayTakePlace}
use Rattle.journal_treestore.specs.Entries.{tag_of, no_entry}
use Rattle.journal_treestore.specs.Levels.{IsBlockFor}
use Rattle.journal_treestore.specs.Positions.{Position, place_at, IsPosition, with_put, with_blocks, with_puts}
use Rattle.journal_treestore.specs.Views.{Held, View, with_inode, entry_at, node_of, tree_of}
use Rattle.journal_treestore.specs.Views.Seen.{free, used}
use Rattle.journal_treestore.specs.Sound.{entry_for, IsSoundView}
use Rattle.journal_treestore.specs.Steps.{with_moment, Seat, IsPlaced, IsSeat, Shows}

-- ── a node that is replaced goes ──

-- its entries go and its inode is free. Its directory's inode is written with what follows
abbrev pub dropped_view : View → Seat → View
dropped_view V s = with_inode (with_puts V s.at s.more no_entry) s.n (free s.g.generation)

-- ── a node gets another name in its directory ──

-- an inode with another home since this moment
abbrev pub rehomed : Held → Home → Time → Held
rehomed g home now = record {
  generation = g.generation;
  attributes = with_ctime g.attributes (time_of_change g.attributes.ctime now);
  home = home;
  kind = g.kind;
  size = g.size;
  blocks = g.blocks;
  index = g.index;
}

-- the same directory and place, another name
abbrev pub renamed_home : Held → List ℕ → Home
renamed_home g name = record { directory = g.home.directory; place = g.home.place; name = name }

-- The node needs no second entry for the name, or one is put at a position where there is none, or
-- where its old one is
abbrev pub IsSecondRoom : View → Seat → List ℕ → Option Position → Type 0
IsSecondRoom V s name None = IsBlockFor (tag_of name) s.at.j
IsSecondRoom V s name (Some p) =
    IsPosition V s.h p × IsBlockFor (tag_of name) p.j × (IsBlockFor (tag_of name) s.at.j → ⊥)
    × (((entry_at V s.d (place_at p)).number ≡ 0) ⊎ ((entry_at V s.d (place_at p)).number ≡ s.n))

-- a second entry goes, if there is one
abbrev pub blocks_without : View → Option Position → ℕ → List ℕ
blocks_without V None = V.block
blocks_without V (Some p) = (with_put V p.b p.q no_entry).block

abbrev pub without_second : View → Option Position → View
without_second V o = with_blocks V (blocks_without V o)

-- its second entry goes, the other gets the tag of the new name, a second one is put if it needs
-- one, and the directory's inode and its own are written
abbrev pub renamed_view : View → Seat → Option Position → List ℕ → Time → View
renamed_view V s more name now =
    with_inode (with_inode (with_puts (without_second V s.more) s.at more (entry_for s.n (renamed_home s.g name))) s.d (used (with_moment s.h now)))
    s.n (used (rehomed s.g (renamed_home s.g name) now))

-- ── a node goes to another directory ──

-- A position of directory e, and one of a second entry, if it needs that
pub record Goal : Type 0 where
  pub e : ℕ
  pub h : Held
  pub at : Position
  pub more : Option Position

abbrev pub goal_place : Goal → ℕ
goal_place t = place_at t.at

abbrev pub goal_home : Goal → List ℕ → Home
goal_home t name = record { directory = t.e; place = goal_place t; name = name }

-- Nothing is there, and the name may lie at the first, or else at the second
abbrev pub IsGoalFor : View → Goal → List ℕ → Option Position → Type 0
IsGoalFor V t name None = IsBlockFor (tag_of name) t.at.j
IsGoalFor V t name (Some p) =
    IsPosition V t.h p × IsBlockFor (tag_of name) p.j × (IsBlockFor (tag_of name) t.at.j → ⊥) × ((entry_at V t.e (place_at p)).number ≡ 0)

pub record IsGoal (V : View) (t : Goal) (name : List ℕ) : Type 0 where
  pub is : V.inode t.e ≡ used t.h
  pub kind : t.h.kind ≡ Directory
  pub at : IsPosition V t.h t.at
  pub empty : (entry_at V t.e (goal_place t)).number ≡ 0
  pub more : IsGoalFor V t name t.more

-- its entries go, then others are put into the other directory. The inodes of both directories and
-- its own are written
abbrev pub moved_view : View → Seat → Goal → List ℕ → Time → View
moved_view V s t name now =
    with_inode (with_inode (with_inode (with_puts (with_puts V s.at s.more no_entry) t.at t.more (entry_for s.n (goal_home t name))) s.d (used (with_moment s.h now))) t.e (used (with_moment t.h now)))
    s.n (used (rehomed s.g (goal_home t name) now))

-- ── what is shown then ──

-- the move of a node to a name of its own directory, and of another
abbrev pub renaming_of : View → Seat → List ℕ → Move
renaming_of V s name = record { d = s.d; x = node_of V s.h; e = s.d; y = node_of V s.h; name = name }

abbrev pub move_of : View → Seat → Goal → List ℕ → Move
move_of V s t name = record { d = s.d; x = node_of V s.h; e = t.e; y = node_of V t.h; name = name }

-- A node that goes without a change of its directory's times is no longer in the tree
abbrev pub DroppingShows : Type 0
DroppingShows = (V : View) (s : Seat) → IsSoundView V → IsSeat V s → Shows (dropped_view V s) (with_node (tree_of V) s.n None)

-- and the disk is sound, so that another may take its place at once
abbrev pub DroppingStaysSound : Type 0
DroppingStaysSound = (V : View) (s : Seat) → IsSoundView V → IsSeat V s → IsSoundView (dropped_view V s)

-- A node that gets another name in its directory has it in the tree, at its place
abbrev pub RenamingShows : Type 0
RenamingShows = (V : View) (s : Seat) (more : Option Position) (name : List ℕ) (now : Time) → IsSoundView V → IsPlaced V s → IsSecondRoom V s name more
    → Shows (renamed_view V s more name now) (moved (tree_of V) (renaming_of V s name) s.n (node_of V s.g) s.g.home.place now)

-- A node that goes to a free place of another directory may take it, and hangs there in the tree
abbrev pub MovingShows : Type 0
MovingShows = (V : View) (s : Seat) (t : Goal) (name : List ℕ) (now : Time) → IsSoundView V → IsPlaced V s → IsGoal V t name → s.d ≢ t.e → s.n ≢ t.e
    → MayTakePlace (tree_of V) s.d t.e (Some (goal_place t)) × Shows (moved_view V s t name now) (moved (tree_of V) (move_of V s t name) s.n (node_of V s.g) (goal_place t) now)
