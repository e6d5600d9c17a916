-- RENAME: its directories and names, and the decision on them.
use Rattle.std.specs.Prelude.{ℕ, ◌≡◌, ◌≢◌, ◌<◌, ◌/◌, Bool, true, false, not, ◌&&◌, ◌||◌, ◌==◌, if◌then◌else◌, List, Option, Some, None, Result, Ok, Err, Decides}
use Rattle.journal_tree.specs.declared.time.Time.{Time}
use Rattle.journal_tree.specs.declared.reply.Handle.{Handle}
use Rattle.journal_tree.specs.declared.reply.Kind.TheVariants.{Directory}
use Rattle.journal_tree.specs.declared.reply.Renamed.{Renamed}
use Rattle.journal_tree.specs.declared.caller.Caller.{Caller}
use Rattle.journal_tree.specs.declared.status.Status.{Status}
use Rattle.journal_tree.specs.declared.status.Status.TheVariants.{Invalid, NoEntry, Stale}
use Rattle.journal_tree.specs.Trees.{Node, Tree, with_node, find}
use Rattle.journal_tree.specs.Rule.{stems, IsBelow}
use Rattle.journal_tree.specs.Rights.{may_write, may_rename, may_take}
use Rattle.journal_tree.specs.Calls.{Outcome, refused, name_kind, target, with_name, on_found}
use Rattle.journal_tree.specs.Calls.Target.{gone}
use Rattle.journal_tree.specs.Renames.{Move, moved, both_changed, both_unchanged, move_new, move_over, move_node}
use Rattle.journal_tree.specs.Op.{MayTakePlace, TellsBelow}
use Rattle.journal_treestore.specs.declared.entry.TheConstants.{PLACES}
use Rattle.journal_treestore.specs.declared.inode.Head.{Head}
use Rattle.journal_treestore.specs.Entries.{tag_of, no_entry}
use Rattle.journal_treestore.specs.Levels.{IsBlockFor}
use Rattle.journal_treestore.specs.Views.{Held, View, held_of, node_of, tree_of, entry_of}
use Rattle.journal_treestore.specs.Views.Seen.{used}
use Rattle.journal_treestore.specs.Steps.{IsSameForm, Shows}
use Rattle.journal_treecalls.specs.declared.node.Record.{Record}
use Rattle.journal_treecalls.specs.declared.search.Hit.{Hit}
use Rattle.journal_treecalls.specs.declared.room.FreePlace.{FreePlace}
use Rattle.journal_treecalls.specs.declared.room.NewPlace.{NewPlace}
use Rattle.journal_treecalls.specs.declared.room.NewPlace.TheVariants.{Here, Further}
use Rattle.journal_treecalls.specs.declared.renaming.Side.{Side}
use Rattle.journal_treecalls.specs.declared.renaming.Way.{Way}
use Rattle.journal_treecalls.specs.declared.renaming.Destination.{Destination}
use Rattle.journal_treecalls.specs.declared.renaming.Destination.TheVariants.{Own, OwnOver, Onto, Into}
use Rattle.journal_treecalls.specs.declared.renaming.Decision.{Decision}
use Rattle.journal_treecalls.specs.declared.renaming.Decision.TheVariants.{Stays, Goes}
use Rattle.journal_treecalls.specs.Disks.{Write, written}
use Rattle.journal_treecalls.specs.Targets.{held, IsNode, directory_of, IsHit}
use Rattle.journal_treecalls.specs.Names.{name_status, is_directory_kind}
use Rattle.journal_treecalls.specs.Directories.{HasNone, HasEntry}
use Rattle.journal_treecalls.specs.Rooms.{HasPlaceFor, IsInsidePlace, place_number}
use Rattle.journal_treecalls.specs.Sizes.{changed_told}

-- ── names and directories ──

-- the first of two refusals
abbrev pub or_else : Option Status → Option Status → Option Status
or_else (Some status) other = Some status
or_else None other = other

-- how names are answered that are none
abbrev pub names_status : List ℕ → List ℕ → Option Status
names_status name new_name = or_else (name_status (name_kind name) Invalid Invalid) (name_status (name_kind new_name) Invalid Invalid)

-- two directories that the caller may search
abbrev pub ways_by : ℕ → Result Record Status → ℕ → Result Record Status → Result Way Status
ways_by d (Err status) e goal = Err status
ways_by d (Ok source) e (Err status) = Err status
ways_by d (Ok source) e (Ok goal) = Ok (record { source = record { number = d; inode = source }; goal = record { number = e; inode = goal } })

abbrev pub ways_of : Caller → Side → Side → Result Way Status
ways_of c source goal = ways_by source.number (directory_of c source.inode) goal.number (directory_of c goal.inode)

-- From a node, the handle leads to another, or to none
pub data IsWayTo (V : View) (c : Caller) (source : Side) (k : Handle) : Result Way Status → Type 0 where
  stale : target (tree_of V) k ≡ gone → IsWayTo V c source k (Err Stale)
  leads : (goal : Record) (way : Result Way Status) → IsNode V k goal → way ≡ ways_of c source (record { number = k.number; inode = goal }) → IsWayTo V c source k way

-- and so do two handles
pub data IsWay (V : View) (c : Caller) (h k : Handle) : Result Way Status → Type 0 where
  none : target (tree_of V) h ≡ gone → IsWay V c h k (Err Stale)
  begins : (source : Record) (way : Result Way Status) → IsNode V h source → IsWayTo V c (record { number = h.number; inode = source }) k way → IsWay V c h k way

abbrev pub is_within : Way → Bool
is_within w = w.source.number == w.goal.number

-- The directory is on the disk as it was read
pub record IsSide (V : View) (s : Side) : Type 0 where
  pub is : V.inode s.number ≡ used (held s.inode)
  pub kind : s.inode.head.kind ≡ Directory

-- Both are
pub record AreSides (V : View) (w : Way) : Type 0 where
  pub source : IsSide V w.source
  pub goal : IsSide V w.goal

-- and the first has a node of the name
pub record HasNode (V : View) (w : Way) (name : List ℕ) (hit : Hit) : Type 0 where
  pub sides : AreSides V w
  pub found : IsHit V w.source.inode.head name hit

-- the move by the definition, and its node
abbrev pub move_in : View → Way → List ℕ → Move
move_in V w new_name = record { d = w.source.number; x = node_of V (held w.source.inode); e = w.goal.number; y = node_of V (held w.goal.inode); name = new_name }

abbrev pub node_in : View → Hit → List ℕ → Node
node_in V hit name = node_of V (held_of hit.head name)

-- ── whether it may go ──

-- a node that is no directory, or that keeps the directory in which it hangs
abbrev pub keeps_parent : Way → Head → Bool
keeps_parent w n = is_within w || not (is_directory_kind n.kind)

-- by the heads of the inodes
abbrev pub may_go : Caller → Way → Head → Bool
may_go c w n =
    may_rename c w.source.inode.head.attributes && may_take c w.source.inode.head.attributes n.attributes && may_rename c w.goal.inode.head.attributes
    && (keeps_parent w n || may_write c n.attributes)

-- The answer says whether a directory is the node of a number, or lies below it
abbrev pub TellsAbove : View → ℕ → ℕ → Bool → Type 0
TellsAbove V n e below = (g : Held) → V.inode n ≡ used g → Decides below (IsBelow (stems (tree_of V)) n e)

abbrev pub TellsBelowGoal : View → Way → Hit → Bool → Type 0
TellsBelowGoal V w hit below = (name : List ℕ) → HasNode V w name hit → Decides below (IsBelow (stems (tree_of V)) hit.number w.goal.number)

-- A node is a directory without entries, or it is not
pub data IsBareIf (V : View) (over : Head) : Bool → Type 0 where
  bare : over.kind ≡ Directory → HasNone V over → IsBareIf V over true
  plain : is_directory_kind over.kind ≡ false → IsBareIf V over false
  full : (m : ℕ) → over.kind ≡ Directory → HasEntry V over m → IsBareIf V over false

-- A node may replace another, or not
pub data MayReplace (V : View) (node over : Head) : Bool → Type 0 where
  of_file : is_directory_kind node.kind ≡ false → MayReplace V node over (not (is_directory_kind over.kind))
  of_directory : (may : Bool) → node.kind ≡ Directory → IsBareIf V over may → MayReplace V node over may

-- ── where it goes ──

-- the block of a node's home
abbrev pub home_block : Hit → ℕ
home_block hit = hit.head.place / PLACES

-- A name of the tag may lie there, or it needs a second entry
abbrev pub NeedsSecond : ℕ → Hit → Bool → Type 0
NeedsSecond tag hit false = IsBlockFor tag (home_block hit)
NeedsSecond tag hit true = IsBlockFor tag (home_block hit) → ⊥

abbrev pub onto_of : Way → Hit → Bool → Destination
onto_of w over needs = if is_within w then OwnOver over needs else Onto over

-- the place at which a node was found
abbrev pub found_place : Hit → FreePlace
found_place hit = record { j = hit.j; block = hit.block; at = hit.at }

-- the place that its directory has if it stays there: its own, and that of a further block
abbrev pub own_number : Hit → Option NewPlace → ℕ
own_number hit None = hit.head.place
own_number hit (Some (Here p)) = hit.head.place
own_number hit (Some (Further g)) = place_number (Further g)

-- the place that is handed out for it, the place that is had then, and the tree without what it
-- replaces
abbrev pub handed : Hit → Destination → Option ℕ
handed hit (Own place) = Some (own_number hit place)
handed hit (OwnOver over needs) = None
handed hit (Onto over) = None
handed hit (Into place) = Some (place_number place)

abbrev pub place_at : Hit → Destination → ℕ
place_at hit (Own place) = own_number hit place
place_at hit (OwnOver over needs) = hit.head.place
place_at hit (Onto over) = over.head.place
place_at hit (Into place) = place_number place

abbrev pub without : Tree → Destination → Tree
without T (Own place) = T
without T (OwnOver over needs) = with_node T over.number None
without T (Onto over) = with_node T over.number None
without T (Into place) = T

-- The other directory is another one, and is not the node
pub record IsApart (w : Way) (hit : Hit) : Type 0 where
  pub apart : w.source.number ≢ w.goal.number
  pub other : hit.number ≢ w.goal.number

-- The node that goes has the new name, is another one, and has no entries
pub record IsReplaced (V : View) (w : Way) (hit : Hit) (new_name : List ℕ) (over : Hit) : Type 0 where
  pub found : IsHit V w.goal.inode.head new_name over
  pub other : over.number ≢ hit.number
  pub bare : (place : ℕ) → entry_of V (used (held_of over.head new_name)) place ≡ no_entry

-- A second entry for a name of the tag may lie there: at the place of the one that the node has, or
-- at one that is free
pub data IsSecondPlace (V : View) (h : Head) (tag : ℕ) (hit : Hit) : NewPlace → Type 0 where
  as_before : IsBlockFor tag hit.j → IsSecondPlace V h tag hit (Here (found_place hit))
  at_free : (p : NewPlace) → HasPlaceFor V h tag p → IsSecondPlace V h tag hit p

abbrev pub IsSecondFor : View → Head → ℕ → Hit → Option NewPlace → Type 0
IsSecondFor V h tag hit None = NeedsSecond tag hit false
IsSecondFor V h tag hit (Some p) = NeedsSecond tag hit true × IsSecondPlace V h tag hit p

abbrev pub IsDestination : View → Way → Hit → List ℕ → Destination → Type 0
IsDestination V w hit new_name (Own place) = (w.source.number ≡ w.goal.number) × IsSecondFor V w.source.inode.head (tag_of new_name) hit place
IsDestination V w hit new_name (OwnOver over needs) = (w.source.number ≡ w.goal.number) × (NeedsSecond (tag_of new_name) hit needs × IsReplaced V w hit new_name over)
IsDestination V w hit new_name (Onto over) = IsApart w hit × IsReplaced V w hit new_name over
IsDestination V w hit new_name (Into place) = IsApart w hit × HasPlaceFor V w.goal.inode.head (tag_of new_name) place

-- places lie in their blocks
abbrev pub IsInsideOwn : Option NewPlace → Type 0
IsInsideOwn None = Unit {0}
IsInsideOwn (Some p) = IsInsidePlace p

abbrev pub IsInsideDestination : Destination → Type 0
IsInsideDestination (Own place) = IsInsideOwn place
IsInsideDestination (OwnOver over needs) = over.at < 512
IsInsideDestination (Onto over) = over.at < 512
IsInsideDestination (Into place) = IsInsidePlace place

abbrev pub IsInsideDecision : Decision → Type 0
IsInsideDecision Stays = Unit {0}
IsInsideDecision (Goes hit to) = (hit.at < 512) × IsInsideDestination to

-- ── what is decided ──

-- the answer and the tree that a decision leads to
abbrev pub outcome_of : View → Way → List ℕ → List ℕ → Time → Decision → Outcome Renamed
outcome_of V w name new_name now Stays = (Ok (both_unchanged (move_in V w new_name)), tree_of V)
outcome_of V w name new_name now (Goes hit to) =
    (Ok (both_changed (move_in V w new_name) (place_at hit to) now), moved (without (tree_of V) to) (move_in V w new_name) hit.number (node_in V hit name) (place_at hit to) now)

-- These cases of the definition come to what was decided
abbrev pub IsDecided : View → Way → List ℕ → List ℕ → (Option ℕ → Time → Outcome Renamed) → Result Decision Status → Type 0
IsDecided V w name new_name case (Err status) = (now : Time) → case None now ≡ refused status (tree_of V)
IsDecided V w name new_name case (Ok Stays) = (now : Time) → case None now ≡ outcome_of V w name new_name now Stays
IsDecided V w name new_name case (Ok (Goes hit to)) =
    HasNode V w name hit × (IsDestination V w hit new_name to × ((now : Time) → case (handed hit to) now ≡ outcome_of V w name new_name now (Goes hit to)))

-- They do, by whether the goal is node n or lies below it
pub record IsDecidedBelow (V : View) (w : Way) (n : ℕ) (name new_name : List ℕ) (case : Bool → Option ℕ → Time → Outcome Renamed) (decision : Result Decision Status) : Type 0 where
  pub below : Bool
  pub tells : Decides below (IsBelow (stems (tree_of V)) n w.goal.number)
  pub is : IsDecided V w name new_name (case below) decision

-- Within one directory nothing lies below
abbrev pub DecidesOwn : View → Way → Hit → List ℕ → Result Decision Status → Type 0
DecidesOwn V w hit new_name decision = (name : List ℕ) → HasNode V w name hit
    → IsDecided V w name new_name (λ place now. move_new false place now (tree_of V) (move_in V w new_name) hit.number (node_in V hit name)) decision

abbrev pub DecidesNew : View → Way → Hit → List ℕ → Result Decision Status → Type 0
DecidesNew V w hit new_name decision = (name : List ℕ) → HasNode V w name hit
    → IsDecidedBelow V w hit.number name new_name (λ below place now. move_new below place now (tree_of V) (move_in V w new_name) hit.number (node_in V hit name)) decision

abbrev pub DecidesOver : View → Caller → Way → Hit → List ℕ → Hit → Result Decision Status → Type 0
DecidesOver V c w hit new_name over decision = (name : List ℕ) → HasNode V w name hit → IsHit V w.goal.inode.head new_name over
    → IsDecidedBelow V w hit.number name new_name (λ below place now. move_over c below now (tree_of V) (move_in V w new_name) hit.number (node_in V hit name) over.number (node_in V over new_name)) decision

abbrev pub DecidesHit : View → Caller → Way → Hit → List ℕ → Result Decision Status → Type 0
DecidesHit V c w hit new_name decision = (name : List ℕ) → HasNode V w name hit
    → IsDecidedBelow V w hit.number name new_name (λ below place now. move_node c below place now (tree_of V) (move_in V w new_name) hit.number (node_in V hit name)) decision

-- the definition's cases from the search for the old name on
abbrev pub named_case : View → Caller → Way → List ℕ → List ℕ → Bool → Option ℕ → Time → Outcome Renamed
named_case V c w name new_name below place now =
    on_found (tree_of V) (find (tree_of V) w.source.number name) (refused NoEntry (tree_of V)) (move_node c below place now (tree_of V) (move_in V w new_name))

pub record IsDecidedName (V : View) (c : Caller) (w : Way) (name new_name : List ℕ) (decision : Result Decision Status) : Type 0 where
  pub below : Bool
  pub tells : TellsBelow (tree_of V) w.source.number name w.goal.number below
  pub is : IsDecided V w name new_name (named_case V c w name new_name below) decision

abbrev pub DecidesName : View → Caller → Way → List ℕ → List ℕ → Result Decision Status → Type 0
DecidesName V c w name new_name decision = AreSides V w → IsDecidedName V c w name new_name decision

-- ── what is answered ──

abbrev pub both_same : Way → Renamed
both_same w = record {
  source = changed_told w.source.number w.source.inode.head w.source.inode.head;
  goal = changed_told w.goal.number w.goal.inode.head w.goal.inode.head;
}

-- The reply is that of these cases, and the disk shows the tree to which they lead
pub record IsRename (V W : View) (w : Way) (name : List ℕ) (case : Bool → Option ℕ → Outcome Renamed) (reply : Result Renamed Status) : Type 0 where
  pub below : Bool
  pub place : Option ℕ
  pub may : MayTakePlace (tree_of V) w.source.number w.goal.number place
  pub tells : TellsBelow (tree_of V) w.source.number name w.goal.number below
  pub is : (reply, tree_of W) ≡ case below place
  pub form : IsSameForm V W
  pub shows : Shows W (tree_of W)

-- RENAME of names that are ones
pub record RenamesNamed (old new : View → Type 0) (ws : List Write) (c : Caller) (w : Way) (name new_name : List ℕ) (now : Time) (reply : Result Renamed Status) : Type 0 where
  pub same : (V : View) → new V → old V
  pub is : (V : View) → new V → AreSides V w → IsRename V (written ws V) w name (λ below place. named_case V c w name new_name below place now) reply

-- and of any
pub record Renames (old new : View → Type 0) (ws : List Write) (c : Caller) (w : Way) (name new_name : List ℕ) (now : Time) (reply : Result Renamed Status) : Type 0 where
  pub same : (V : View) → new V → old V
  pub is : (V : View) → new V → AreSides V w
      → IsRename V (written ws V) w name (λ below place. with_name (tree_of V) (name_kind name) Invalid Invalid (with_name (tree_of V) (name_kind new_name) Invalid Invalid (named_case V c w name new_name below place now))) reply
