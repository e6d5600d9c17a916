-- The writes of RENAME.
use Rattle.std.specs.Prelude.{ℕ, ◌≡◌, Bool, if◌then◌else◌, List, Option, Some, None}
use Rattle.journal_tree.specs.declared.time.Time.{Time}
use Rattle.journal_tree.specs.declared.reply.Renamed.{Renamed}
use Rattle.journal_tree.specs.Times.{IsTime, time_of_change}
use Rattle.journal_tree.specs.Renames.{with_ctime}
use Rattle.journal_treestore.specs.declared.entry.Entry.{Entry}
use Rattle.journal_treestore.specs.declared.inode.Head.{Head}
use Rattle.journal_treestore.specs.Entries.{with_entry, tag_of, no_entry}
use Rattle.journal_treestore.specs.Inodes.{name_from}
use Rattle.journal_treestore.specs.Positions.{Position, with_put, with_puts}
use Rattle.journal_treestore.specs.Views.{View, zero_block, with_inode, held_of}
use Rattle.journal_treestore.specs.Views.Seen.{free, used}
use Rattle.journal_treestore.specs.Moves.{without_second}
use Rattle.journal_treecalls.specs.declared.search.Hit.{Hit}
use Rattle.journal_treecalls.specs.declared.seats.EntryPlace.{EntryPlace}
use Rattle.journal_treecalls.specs.declared.seats.EntryPlaces.{EntryPlaces}
use Rattle.journal_treecalls.specs.declared.growth.Growth.{Growth}
use Rattle.journal_treecalls.specs.declared.room.FreePlace.{FreePlace}
use Rattle.journal_treecalls.specs.declared.room.NewPlace.{NewPlace}
use Rattle.journal_treecalls.specs.declared.room.NewPlace.TheVariants.{Here, Further}
use Rattle.journal_treecalls.specs.declared.renaming.Way.{Way}
use Rattle.journal_treecalls.specs.declared.renaming.Destination.{Destination}
use Rattle.journal_treecalls.specs.declared.renaming.Destination.TheVariants.{Own, OwnOver, Onto, Into}
use Rattle.journal_treecalls.specs.declared.renaming.Decision.{Decision}
use Rattle.journal_treecalls.specs.declared.renaming.Decision.TheVariants.{Stays, Goes}
use Rattle.journal_treecalls.specs.declared.changes.PlacedEntry.{PlacedEntry}
use Rattle.journal_treecalls.specs.declared.moving.Moved.{Moved}
use Rattle.journal_treecalls.specs.Disks.{Write, written}
use Rattle.journal_treecalls.specs.Names.{moved}
use Rattle.journal_treecalls.specs.Seats.{second_place, position_of, home_position, second_position}
use Rattle.journal_treecalls.specs.Rooms.{with_growth, place_number, widened_head}
use Rattle.journal_treecalls.specs.Sizes.{changed_told}
use Rattle.journal_treecalls.specs.Renamings.{both_same}

-- ── inodes ──

-- a node that hangs elsewhere since this moment
abbrev pub rehomed_head : Head → ℕ → ℕ → Time → Head
rehomed_head h d place now = record {
  kind = h.kind;
  generation = h.generation;
  attributes = with_ctime h.attributes (time_of_change h.attributes.ctime now);
  directory = d;
  place = place;
  size = h.size;
  blocks = h.blocks;
  index = h.index;
}

-- A sound disk has times for ctimes. The heads are then those after the move
pub record IsMovedHeads (w : Way) (hit : Hit) (d place : ℕ) (now : Time) (heads : Moved) : Type 0 where
  pub source : IsTime w.source.inode.head.attributes.ctime → heads.source ≡ moved w.source.inode.head now
  pub goal : IsTime w.goal.inode.head.attributes.ctime → heads.goal ≡ moved w.goal.inode.head now
  pub node : IsTime hit.head.attributes.ctime → heads.node ≡ rehomed_head hit.head d place now

abbrev pub changed_both : Way → Moved → Renamed
changed_both w heads = record {
  source = changed_told w.source.number w.source.inode.head heads.source;
  goal = changed_told w.goal.number w.goal.inode.head heads.goal;
}

-- the disk with the inodes of a directory and of its node, and with those of two directories
abbrev pub with_two : View → Way → ℕ → Moved → List ℕ → View
with_two V w n heads name = with_inode (with_inode V w.source.number (used (held_of heads.source (name_from w.source.inode.bytes)))) n (used (held_of heads.node name))

abbrev pub with_three : View → Way → ℕ → Moved → List ℕ → View
with_three V w n heads name =
    with_inode (with_inode (with_inode V w.source.number (used (held_of heads.source (name_from w.source.inode.bytes)))) w.goal.number (used (held_of heads.goal (name_from w.goal.inode.bytes))))
    n (used (held_of heads.node name))

pub record PutsTwo (old new : View → Type 0) (before after : List Write) (w : Way) (n : ℕ) (heads : Moved) (name : List ℕ) (reply : Renamed) : Type 0 where
  pub same : (V : View) → new V → old V
  pub view : (V : View) → written after V ≡ with_two (written before V) w n heads name
  pub told : reply ≡ changed_both w heads

pub record PutsThree (old new : View → Type 0) (before after : List Write) (w : Way) (n : ℕ) (heads : Moved) (name : List ℕ) (reply : Renamed) : Type 0 where
  pub same : (V : View) → new V → old V
  pub view : (V : View) → written after V ≡ with_three (written before V) w n heads name
  pub told : reply ≡ changed_both w heads

-- ── entries ──

-- the entry of a node under a name
abbrev pub named_entry : ℕ → List ℕ → Entry
named_entry n name = record { number = n; tag = tag_of name }

abbrev pub placed : EntryPlace → Entry → PlacedEntry
placed p e = record { block = p.block; at = p.at; entry = e }

abbrev pub placed_if : Option EntryPlace → Entry → Option PlacedEntry
placed_if None e = None
placed_if (Some p) e = Some (placed p e)

abbrev pub entry_place : Option FreePlace → Option EntryPlace
entry_place None = None
entry_place (Some p) = Some (record { j = p.j; block = p.block; at = p.at })

-- the place at which the name of a node is looked for: that of its second entry, if it has one
abbrev pub name_in : EntryPlace → Option EntryPlace → EntryPlace
name_in home None = home
name_in home (Some second) = second

abbrev pub name_place : EntryPlaces → EntryPlace
name_place p = name_in p.home p.second

abbrev pub second_over : EntryPlaces → Bool → Option EntryPlace
second_over p needs = if needs then Some (name_place p) else None

-- The entries of the node of a hit lie there, in a directory of these fields
pub record AreEntriesOf (V : View) (h : Head) (hit : Hit) (p : EntryPlaces) : Type 0 where
  pub home : position_of p.home ≡ home_position V h hit
  pub second : p.second ≡ second_place hit

-- where the second entry of a node is put that stays in its directory
abbrev pub own_place : Option FreePlace → Option NewPlace
own_place None = None
own_place (Some p) = Some (Here p)

-- a block that a directory gets has this entry at its first place
abbrev pub with_first : View → ℕ → Growth → Entry → View
with_first V d g e = with_growth V d g (with_entry zero_block 0 e)

pub record PutsGrowth (old new : View → Type 0) (before after : List Write) (d : ℕ) (g : Growth) (e : Entry) : Type 0 where
  pub same : (V : View) → new V → old V
  pub view : (V : View) → written after V ≡ with_first (written before V) d g e

-- ── the disk after a move ──

abbrev pub source_head : Head → Destination → Head
source_head h (Own None) = h
source_head h (Own (Some p)) = widened_head h p
source_head h (OwnOver over needs) = h
source_head h (Onto over) = h
source_head h (Into place) = h

abbrev pub goal_head : Head → Destination → Head
goal_head h (Own None) = h
goal_head h (Own (Some p)) = widened_head h p
goal_head h (OwnOver over needs) = h
goal_head h (Onto over) = h
goal_head h (Into place) = widened_head h place

abbrev pub directory_at : Way → Hit → Destination → ℕ
directory_at w hit (Own place) = hit.head.directory
directory_at w hit (OwnOver over needs) = hit.head.directory
directory_at w hit (Onto over) = w.goal.number
directory_at w hit (Into place) = w.goal.number

abbrev pub home_at : Hit → Destination → ℕ
home_at hit (Own place) = hit.head.place
home_at hit (OwnOver over needs) = hit.head.place
home_at hit (Onto over) = over.head.place
home_at hit (Into place) = place_number place

abbrev pub heads_of : Way → Hit → Destination → Time → Moved
heads_of w hit to now = record {
  source = moved (source_head w.source.inode.head to) now;
  goal = moved (goal_head w.goal.inode.head to) now;
  node = rehomed_head hit.head (directory_at w hit to) (home_at hit to) now;
}

-- the position of a node's home, and that of one of the other directory
abbrev pub source_position : View → Way → Hit → Position
source_position V w hit = home_position V w.source.inode.head hit

abbrev pub goal_position : View → Way → Hit → Position
goal_position V w over = home_position V w.goal.inode.head over

abbrev pub position_or : Position → Option Position → Position
position_or p None = p
position_or p (Some more) = more

abbrev pub free_position : Option FreePlace → Option Position
free_position None = None
free_position (Some p) = Some (record { j = p.j; q = p.at; b = p.block })

-- the position at which the name of a node was that goes, if it needs that
abbrev pub position_over : View → Way → Hit → Bool → Option Position
position_over V w over needs = if needs then Some (position_or (goal_position V w over) (second_position over)) else None

-- the entry of the node gets the tag of the name, its second one goes, and another is put, if there
-- is a position for it
abbrev pub with_new_name : View → Position → Option Position → Option Position → Entry → View
with_new_name V at old new e = with_puts (without_second V old) at new e

-- what its directory has of it goes
abbrev pub without_node : View → Way → Hit → View
without_node V w hit = with_puts V (source_position V w hit) (second_position hit) no_entry

-- and so has the other directory of the node that is replaced
abbrev pub without_over : View → Way → Hit → View
without_over V w over = with_puts V (goal_position V w over) (second_position over) no_entry

abbrev pub with_move : View → Way → Hit → Destination → List ℕ → Time → View
with_move V w hit (Own None) name now = with_two (with_new_name V (source_position V w hit) (second_position hit) None (named_entry hit.number name)) w hit.number (heads_of w hit (Own None) now) name
with_move V w hit (Own (Some (Here p))) name now =
    with_two (with_new_name V (source_position V w hit) (second_position hit) (free_position (Some p)) (named_entry hit.number name)) w hit.number (heads_of w hit (Own (Some (Here p))) now) name
with_move V w hit (Own (Some (Further g))) name now =
    with_two (with_first (with_new_name V (source_position V w hit) (second_position hit) None (named_entry hit.number name)) w.source.number g (named_entry hit.number name)) w hit.number (heads_of w hit (Own (Some (Further g))) now) name
with_move V w hit (OwnOver over needs) name now =
    with_two (with_inode (with_new_name (without_over V w over) (source_position V w hit) (second_position hit) (position_over V w over needs) (named_entry hit.number name)) over.number (free over.head.generation))
    w hit.number (heads_of w hit (OwnOver over needs) now) name
with_move V w hit (Onto over) name now =
    with_three (with_inode (with_puts (with_puts (without_over V w over) (source_position V w hit) (second_position hit) no_entry) (goal_position V w over) (second_position over) (named_entry hit.number name)) over.number (free over.head.generation))
    w hit.number (heads_of w hit (Onto over) now) name
with_move V w hit (Into (Here p)) name now =
    with_three (with_put (without_node V w hit) p.block p.at (named_entry hit.number name)) w hit.number (heads_of w hit (Into (Here p)) now) name
with_move V w hit (Into (Further g)) name now =
    with_three (with_first (without_node V w hit) w.goal.number g (named_entry hit.number name)) w hit.number (heads_of w hit (Into (Further g)) now) name

abbrev pub AreTimes : Way → Hit → Type 0
AreTimes w hit = IsTime w.source.inode.head.attributes.ctime × (IsTime w.goal.inode.head.attributes.ctime × IsTime hit.head.attributes.ctime)

-- A node goes: its objects are written, and the reply has both directories before and after
pub record MovesTo (old new : View → Type 0) (ws : List Write) (w : Way) (hit : Hit) (to : Destination) (name : List ℕ) (now : Time) (reply : Renamed) : Type 0 where
  pub same : (V : View) → new V → old V
  pub view : AreTimes w hit → (V : View) → new V → written ws V ≡ with_move V w hit to name now
  pub told : AreTimes w hit → reply ≡ changed_both w (heads_of w hit to now)

-- ── what was decided ──

abbrev pub AreTimesOf : Way → Decision → Type 0
AreTimesOf w Stays = Unit {0}
AreTimesOf w (Goes hit to) = AreTimes w hit

abbrev pub with_done : View → Way → Decision → List ℕ → Time → View
with_done V w Stays name now = V
with_done V w (Goes hit to) name now = with_move V w hit to name now

abbrev pub told_done : Way → Decision → Time → Renamed
told_done w Stays now = both_same w
told_done w (Goes hit to) now = changed_both w (heads_of w hit to now)

-- It is done
pub record Performs (old new : View → Type 0) (ws : List Write) (w : Way) (decision : Decision) (name : List ℕ) (now : Time) (reply : Renamed) : Type 0 where
  pub same : (V : View) → new V → old V
  pub view : AreTimesOf w decision → (V : View) → new V → written ws V ≡ with_done V w decision name now
  pub told : AreTimesOf w decision → reply ≡ told_done w decision now
