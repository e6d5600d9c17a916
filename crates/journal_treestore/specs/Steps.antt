-- The writes of calls, by steps: a node is put into a directory, a symbolic link gets its text, a
-- node is taken out, a directory gets a block.
use Rattle.std.specs.Prelude.{ℕ, ◌≡◌, ◌≢◌, ◌<◌, ◌≤◌, ◌+◌, ◌*◌, ◌-◌, ◌==◌, max, if◌then◌else◌, List, ◌++◌, length, replicate, Option, Some, None, option_map}
use Rattle.journal_tree.specs.declared.limits.TheConstants.{LAST_GENERATION, MOST_LINK, MOST_BLOCKS}
use Rattle.journal_tree.specs.declared.time.Time.{Time}
use Rattle.journal_tree.specs.declared.reply.Attributes.{Attributes}
use Rattle.journal_tree.specs.declared.reply.Kind.{Kind}
use Rattle.journal_tree.specs.declared.reply.Kind.TheVariants.{Directory, File, Link}
use Rattle.journal_tree.specs.declared.caller.Caller.{Caller}
use Rattle.journal_tree.specs.Trees.{Home, Body, Node, Tree, with_node}
use Rattle.journal_tree.specs.Trees.Body.{directory, file, link}
use Rattle.journal_tree.specs.Times.{IsTime, time_of_names}
use Rattle.journal_tree.specs.Changes.{with_times, grown_body, touch_place, planted, cut}
use Rattle.journal_tree.specs.Fit.{IsCallable, IsCaller}
use Rattle.journal_tree.specs.Op.{Call, Reply, IsRoom, Op}
use Rattle.journal_treestore.specs.declared.entry.TheConstants.{PLACES}
use Rattle.journal_treestore.specs.Entries.{tag_of, no_entry}
use Rattle.journal_treestore.specs.Levels.{IsBlockFor}
use Rattle.journal_treestore.specs.Positions.{Position, place_at, IsPosition, with_put, with_puts}
use Rattle.journal_treestore.specs.Views.{Held, View, block_at, with_inode, with_owner, with_block, entry_of, entry_at, tree_of, homes}
use Rattle.journal_treestore.specs.Views.Seen.{free, used}
use Rattle.journal_treestore.specs.Sound.{entry_for, IsHung, IsSoundInode, IsSoundView}

-- an inode with other attributes
abbrev pub with_attributes : Held → Attributes → Held
with_attributes h a = record { generation = h.generation; attributes = a; home = h.home; kind = h.kind; size = h.size; blocks = h.blocks; index = h.index }

-- a directory whose names change at this moment
abbrev pub with_moment : Held → Time → Held
with_moment h now = with_attributes h (with_times h.attributes (time_of_names h.attributes now))

-- ── a node is put into a directory ──

-- Where: at a position of the directory of number d, as number n, whose last node had this
-- generation
pub record Spot : Type 0 where
  pub d : ℕ
  pub h : Held
  pub at : Position
  pub n : ℕ
  pub generation : ℕ

abbrev pub place_of : Spot → ℕ
place_of s = place_at s.at

abbrev pub home_of : Spot → List ℕ → Home
home_of s name = record { directory = s.d; place = place_of s; name = name }

-- The directory has the block, the name may lie in it, nothing is at the place, and the number is
-- free
pub record IsSpot (V : View) (s : Spot) (name : List ℕ) : Type 0 where
  pub is : V.inode s.d ≡ used s.h
  pub kind : s.h.kind ≡ Directory
  pub at : IsPosition V s.h s.at
  pub block : IsBlockFor (tag_of name) s.at.j
  pub empty : (entry_at V s.d (place_of s)).number ≡ 0
  pub free_is : V.inode s.n ≡ free s.generation
  pub some : s.n ≢ 0
  pub on_disk : s.n < V.numbers
  pub young : s.generation < LAST_GENERATION

-- a node of this size that has no blocks yet: its bytes are zeros
abbrev pub new_held : Spot → List ℕ → Attributes → Kind → ℕ → Held
new_held s name a kind size = record { generation = s.generation + 1; attributes = a; home = home_of s name; kind = kind; size = size; blocks = λ j. 0; index = 0 }

abbrev pub new_body : Kind → ℕ → Body
new_body Directory size = directory 0
new_body File size = file (replicate size 0)
new_body Link size = link (replicate size 0)

abbrev pub new_node : Spot → List ℕ → Attributes → Kind → ℕ → Node
new_node s name a kind size = record { attributes = a; home = home_of s name; body = new_body kind size }

-- its entry, the directory's inode and its own are written
abbrev pub planted_view : View → Spot → List ℕ → Attributes → Kind → ℕ → Time → View
planted_view V s name a kind size now =
    with_inode (with_inode (with_put V s.at.b s.at.q (entry_for s.n (home_of s name))) s.d (used (with_moment s.h now)))
    s.n (used (new_held s name a kind size))

-- ── a symbolic link gets its text ──

-- The inode that the record of a block names has it not
pub record IsUnowned (V : View) (b : ℕ) : Type 0 where
  pub not_at : (h : Held) → V.inode (V.owner b).number ≡ used h → block_at V h (V.owner b).place ≢ b

-- Block b becomes that of link n, with this text
pub record Filling : Type 0 where
  pub n : ℕ
  pub h : Held
  pub b : ℕ
  pub text : List ℕ

-- The link has no block yet, the text is as long as its size says, and nobody has the block
pub record IsFilling (V : View) (f : Filling) : Type 0 where
  pub is : V.inode f.n ≡ used f.h
  pub kind : f.h.kind ≡ Link
  pub none : f.h.blocks 0 ≡ 0
  pub sized : f.h.size ≡ length f.text
  pub long : 0 < length f.text
  pub few : length f.text ≤ MOST_LINK
  pub some : f.b ≢ 0
  pub from : V.first_data ≤ f.b
  pub to : f.b < V.first_data + V.data_blocks
  pub unowned : IsUnowned V f.b

abbrev pub filled_held : Filling → Held
filled_held f = record {
  generation = f.h.generation;
  attributes = f.h.attributes;
  home = f.h.home;
  kind = f.h.kind;
  size = f.h.size;
  blocks = λ j. if j == 0 then f.b else f.h.blocks j;
  index = f.h.index;
}

-- the block of a text, with zeros after it
abbrev pub text_block : List ℕ → List ℕ
text_block text = text ++ replicate (4096 - length text) 0

-- the block, its record, and the link's inode are written
abbrev pub filled_view : View → Filling → View
filled_view V f = with_inode (with_owner (with_block V f.b (text_block f.text)) f.b (record { number = f.n; place = 0 })) f.n (used (filled_held f))

abbrev pub filled_node : Filling → Node
filled_node f = record { attributes = f.h.attributes; home = f.h.home; body = link f.text }

-- ── a node is taken out ──

-- Node n of directory d, with the position of its home's entry, and that of its second entry if it
-- has one
pub record Seat : Type 0 where
  pub d : ℕ
  pub h : Held
  pub at : Position
  pub more : Option Position
  pub n : ℕ
  pub g : Held

abbrev pub seat_place : Seat → ℕ
seat_place s = place_at s.at

-- It has none where its name may lie at its home's place
abbrev pub IsSecondAt : View → Seat → Option Position → Type 0
IsSecondAt V s None = IsBlockFor (tag_of s.g.home.name) s.at.j
IsSecondAt V s (Some p) = IsPosition V s.h p × (place_at p ≢ seat_place s) × ((entry_at V s.d (place_at p)).number ≡ s.n)

-- The node hangs there. It may have entries of its own
pub record IsPlaced (V : View) (s : Seat) : Type 0 where
  pub is : V.inode s.d ≡ used s.h
  pub kind : s.h.kind ≡ Directory
  pub some : s.n ≢ 0
  pub node : V.inode s.n ≡ used s.g
  pub directory : s.g.home.directory ≡ s.d
  pub place : s.g.home.place ≡ seat_place s
  pub at : IsPosition V s.h s.at
  pub more : IsSecondAt V s s.more

-- and has none
pub record IsSeat (V : View) (s : Seat) : Type 0 where
  pub placed : IsPlaced V s
  pub bare : (place : ℕ) → entry_of V (used s.g) place ≡ no_entry

-- its entries go, the directory's inode is written, and its own is free. Its blocks are nobody's
-- then, and nothing of them is written
abbrev pub cut_view : View → Seat → Time → View
cut_view V s now = with_inode (with_inode (with_puts V s.at s.more no_entry) s.d (used (with_moment s.h now))) s.n (free s.g.generation)

-- ── one inode is written ──

-- Two disks are of one form
pub record IsSameForm (V W : View) : Type 0 where
  pub numbers : W.numbers ≡ V.numbers
  pub first_data : W.first_data ≡ V.first_data
  pub data_blocks : W.data_blocks ≡ V.data_blocks

-- Inode n was of these fields, and is of those. It hangs where it did and has the entries that it
-- had, and what the other nodes have is as it was
pub record IsNodeStep (V W : View) (n : ℕ) (h k : Held) : Type 0 where
  pub form : IsSameForm V W
  pub is : V.inode n ≡ used h
  pub new : W.inode n ≡ used k
  pub others : (i : ℕ) → i ≢ n → W.inode i ≡ V.inode i
  pub blocks : (i : ℕ) (g : Held) (p : ℕ) → i ≢ n → V.inode i ≡ used g → block_at V g p ≢ 0 → W.block (block_at V g p) ≡ V.block (block_at V g p)
  pub owners : (i : ℕ) (g : Held) (p : ℕ) → i ≢ n → V.inode i ≡ used g → block_at V g p ≢ 0 → W.owner (block_at V g p) ≡ V.owner (block_at V g p)
  pub sound : IsSoundInode W n k
  pub home : k.home ≡ h.home
  pub generation : k.generation ≡ h.generation
  pub entries : (place : ℕ) → entry_of W (used k) place ≡ entry_of V (used h) place

-- ── a directory gets a block ──

-- It gets block j, and index blocks where it needs them for the number of that. It keeps those that
-- it has, and grows until it has the places of the block
pub record IsGrowth (V W : View) (d : ℕ) (h k : Held) (j : ℕ) : Type 0 where
  pub step : IsNodeStep V W d h k
  pub kind : h.kind ≡ Directory
  pub still : k.kind ≡ Directory
  pub attributes : k.attributes ≡ h.attributes
  pub few : j < MOST_BLOCKS
  pub size : k.size ≡ max h.size (4096 * (j + 1))
  pub kept : (p : ℕ) → block_at V h p ≢ 0 → block_at W k p ≡ block_at V h p

-- its node, which has the places
abbrev pub widened : ℕ → Node → Node
widened place x = record { attributes = x.attributes; home = x.home; body = grown_body place x.body }

abbrev pub widen : Tree → ℕ → ℕ → Tree
widen T d place = with_node T d (option_map (widened place) (T.at d).node)

-- ── what is shown then ──

-- A disk shows a tree, and its inodes, entries and records of blocks keep the rule
pub record Shows (W : View) (T : Tree) : Type 0 where
  pub tree : tree_of W ≡ T
  pub inodes : (n : ℕ) (h : Held) → W.inode n ≡ used h → IsSoundInode W n h
  pub hung : IsHung (homes W) (entry_at W)

-- A node that is put into a directory has room there, and the tree has it then
abbrev pub PlantingShows : Type 0
PlantingShows = (V : View) (s : Spot) (name : List ℕ) (a : Attributes) (kind : Kind) (size : ℕ) (now : Time) → IsSoundView V → IsSpot V s name → (kind ≡ Directory → size ≡ 0)
    → IsRoom (tree_of V) s.d (record { number = s.n; place = place_of s })
    × Shows (planted_view V s name a kind size now) (planted (touch_place (tree_of V) s.d (place_of s) now) s.n (new_node s name a kind size))

-- A link that gets its block has the text
abbrev pub FillingShows : Type 0
FillingShows = (V : View) (f : Filling) → IsSoundView V → IsFilling V f → Shows (filled_view V f) (with_node (tree_of V) f.n (Some (filled_node f)))

-- A node that is taken out is no longer in the tree
abbrev pub CuttingShows : Type 0
CuttingShows = (V : View) (s : Seat) (now : Time) → IsSoundView V → IsSeat V s → Shows (cut_view V s now) (cut (tree_of V) s.d s.n now)

-- A directory that gets a block has the places of that block then
abbrev pub GrowingShows : Type 0
GrowingShows = (V W : View) (d : ℕ) (h k : Held) (j q : ℕ) → IsSoundView V → IsGrowth V W d h k j → q < PLACES → Shows W (widen (tree_of V) d (PLACES * j + q))

-- and the disk with it is sound, so that an entry may be put into the block at once
abbrev pub GrowingStaysSound : Type 0
GrowingStaysSound = (V W : View) (d : ℕ) (h k : Held) (j : ℕ) → IsSoundView V → IsGrowth V W d h k j → IsSoundView W

-- The disk of a call that goes by such steps is sound again
abbrev pub CallsStaySound : Type 0
CallsStaySound = (V W : View) (T : Tree) (call : Call) (c : Caller) (now : Time) (reply : Reply) → IsCallable call → IsCaller c → IsTime now → IsSoundView V
    → IsSameForm V W → Op call c now (tree_of V) reply T → Shows W T → IsSoundView W
