-- RENAME: its cases in their order, the first that holds is answered.
use Rattle.std.specs.Prelude.{ℕ, Bool, false, not, ◌&&◌, ◌||◌, ◌==◌, nat_lt, if◌then◌else◌, List, Option, Some, None, is_none, Ok}
use Rattle.journal_tree.specs.declared.limits.TheConstants.{FIRST_PLACES}
use Rattle.journal_tree.specs.declared.time.Time.{Time}
use Rattle.journal_tree.specs.declared.reply.Attributes.{Attributes}
use Rattle.journal_tree.specs.declared.reply.Changed.{Changed}
use Rattle.journal_tree.specs.declared.reply.Renamed.{Renamed}
use Rattle.journal_tree.specs.declared.status.Status.TheVariants.{NoEntry, Exists, Invalid, NoSpace}
use Rattle.journal_tree.specs.declared.caller.Caller.{Caller}
use Rattle.journal_tree.specs.Trees.{Home, Body, Node, Tree, is_directory, with_node, find, find_any}
use Rattle.journal_tree.specs.Trees.Body.{directory, file, link}
use Rattle.journal_tree.specs.Times.{time_of_change}
use Rattle.journal_tree.specs.Rights.{may_write, may_rename, may_take}
use Rattle.journal_tree.specs.Calls.{Outcome, refused, Target, told, name_kind, on_node, allowed, in_searched, with_name, on_found}
use Rattle.journal_tree.specs.Changes.{touched, opened, touch, touch_place}
use Rattle.journal_tree.specs.Names.{may_remove}

-- The directory d in which a node hangs, directory e to which it goes, and its name there
pub record Move : Type 0 where
  pub d : ℕ
  pub x : Node
  pub e : ℕ
  pub y : Node
  pub name : List ℕ

-- ── the tree after it ──

-- with another ctime it is not as it was made
abbrev pub with_ctime : Attributes → Time → Attributes
with_ctime a t = record { mode = a.mode; owner = a.owner; group = a.group; mtime = a.mtime; ctime = t; verifier = None }

abbrev pub without_verifier : Attributes → Attributes
without_verifier a = with_ctime a a.ctime

-- a node with another home since this moment
abbrev pub rehung : Home → Time → Node → Node
rehung home now z = record { attributes = with_ctime z.attributes (time_of_change z.attributes.ctime now); home = home; body = z.body }

-- a name is taken out of one directory, and one is put into the other, which has a place then
abbrev pub names_moved : Tree → ℕ → ℕ → ℕ → Time → Tree
names_moved T d e place now = if d == e then touch_place T d place now else touch_place (touch T d now) e place now

-- where the node hangs then. Within one directory it keeps its place
abbrev pub new_home : Move → Node → ℕ → Home
new_home m z place = record { directory = m.e; place = if m.d == m.e then z.home.place else place; name = m.name }

abbrev pub moved : Tree → Move → ℕ → Node → ℕ → Time → Tree
moved T m n z place now = with_node (names_moved T m.d m.e place now) n (Some (rehung (new_home m z place) now z))

-- ── its reply ──

abbrev pub told_change : ℕ → Node → Node → Changed
told_change n x y = record { before = told n x; after = told n y }

-- the directory in which the node hung: it may be the one in which it hangs then
abbrev pub source_after : Move → ℕ → Time → Node
source_after m place now = if m.d == m.e then opened place now m.x else touched now m.x

abbrev pub both_changed : Move → ℕ → Time → Renamed
both_changed m place now = record { source = told_change m.d m.x (source_after m place now); goal = told_change m.e m.y (opened place now m.y) }

abbrev pub both_unchanged : Move → Renamed
both_unchanged m = record { source = told_change m.d m.x m.x; goal = told_change m.e m.y m.y }

-- ── its cases ──

-- the caller may take the node out of the one directory and put a name into the other. A directory
-- that gets another parent he must be allowed to write too, because its `..` changes
abbrev pub may_move : Caller → Move → Node → Bool
may_move c m z = may_remove c m.x z && may_rename c m.y.attributes && (m.d == m.e || not (is_directory z.body) || may_write c z.attributes)

-- whether a directory has places that are for some names alone
abbrev pub is_large : Body → Bool
is_large (directory places) = nat_lt FIRST_PLACES places
is_large (file bytes) = false
is_large (link text) = false

-- the place that the directory of the new name has then. Of another directory it is handed out for
-- the node. Within one directory it is the node's own, or, where that is large, one that is handed
-- out for the name: it may be none, though the node has its place
abbrev pub new_place : Move → Node → Option ℕ → Option ℕ
new_place m z place = if m.d == m.e && not (is_large m.y.body) then Some z.home.place else place

-- A node that is replaced leaves its place, and room for the name
abbrev pub place_over : Move → Node → Node → ℕ
place_over m z v = if m.d == m.e then z.home.place else v.home.place

-- a directory replaces a directory without entries, and a file replaces a file
abbrev pub may_replace : Tree → Node → ℕ → Node → Bool
may_replace T z j v = if is_directory z.body then is_directory v.body && is_none (find_any T j) else not (is_directory v.body)

-- the node goes to a place, if there is one, in the tree without what it replaces
abbrev pub move_to : Move → Option ℕ → Time → Tree → Tree → ℕ → Node → Outcome Renamed
move_to m None now T without n z = refused NoSpace T
move_to m (Some place) now T without n z = (Ok (both_changed m place now), moved without m n z place now)

-- The new name is not there. `below` says that the new directory is the node, or lies below it
abbrev pub move_new : Bool → Option ℕ → Time → Tree → Move → ℕ → Node → Outcome Renamed
move_new below place now T m n z = if below then refused Invalid T else move_to m (new_place m z place) now T T n z

-- The new name is that of node j
abbrev pub move_over : Caller → Bool → Time → Tree → Move → ℕ → Node → ℕ → Node → Outcome Renamed
move_over c below now T m n z j v =
    if j == n then (Ok (both_unchanged m), T)
    else if below then refused Invalid T
    else allowed T (may_take c m.y.attributes v.attributes) (
    if not (may_replace T z j v) then refused Exists T
    else move_to m (Some (place_over m z v)) now T (with_node T j None) n z)

abbrev pub move_node : Caller → Bool → Option ℕ → Time → Tree → Move → ℕ → Node → Outcome Renamed
move_node c below place now T m n z =
    allowed T (may_move c m z) (on_found T (find T m.e m.name) (move_new below place now T m n z) (move_over c below now T m n z))

abbrev pub rename_case : Caller → Bool → Option ℕ → List ℕ → List ℕ → Time → Tree → Target → Target → Outcome Renamed
rename_case c below place name new_name now T t u =
    on_node T t (λ d x. on_node T u (λ e y.
    in_searched c T t (λ d x. in_searched c T u (λ e y.
    with_name T (name_kind name) Invalid Invalid (with_name T (name_kind new_name) Invalid Invalid (
    on_found T (find T d name) (refused NoEntry T) (move_node c below place now T (record { d = d; x = x; e = e; y = y; name = new_name }))))))))
