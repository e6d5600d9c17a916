-- READDIR and READDIRPLUS.
use Rattle.std.specs.Prelude.{ℕ, ◌≡◌, ◌≢◌, ◌-◌, ◌++◌, Bool, ◌==◌, nat_lt, false, if◌then◌else◌, List, [], ◌∷◌, map, is_some, Option, Some, None, Result, Ok, Err}
use Rattle.journal_tree.specs.declared.reply.Handle.{Handle}
use Rattle.journal_tree.specs.declared.reply.Kind.{Kind}
use Rattle.journal_tree.specs.declared.reply.Kind.TheVariants.{Directory, File, Link}
use Rattle.journal_tree.specs.declared.reply.Told.{Told}
use Rattle.journal_tree.specs.declared.caller.Caller.{Caller}
use Rattle.journal_tree.specs.declared.status.Status.{Status}
use Rattle.journal_tree.specs.declared.status.Status.TheVariants.{NoAccess, NotDirectory, Stale, TooSmall}
use Rattle.journal_tree.specs.Rights.{may_read}
use Rattle.journal_tree.specs.Calls.{DOT, target}
use Rattle.journal_tree.specs.Calls.Target.{gone}
use Rattle.journal_tree.specs.Listing.{Item, Page as ListPage, Listed, ListedPlus, dot_item}
use Rattle.journal_treestore.specs.declared.inode.Head.{Head}
use Rattle.journal_treestore.specs.Views.{View, held_of, tree_of}
use Rattle.journal_treestore.specs.Views.Seen.{used}
use Rattle.journal_treestore.specs.Sound.{IsSoundView}
use Rattle.journal_treecalls.specs.declared.node.Record.{Record}
use Rattle.journal_treecalls.specs.declared.lines.Line.{Line}
use Rattle.journal_treecalls.specs.declared.lines.Room.{Room}
use Rattle.journal_treecalls.specs.declared.lines.Page.{Page}
use Rattle.journal_treecalls.specs.declared.listing.ListReply.{ListReply}
use Rattle.journal_treecalls.specs.Targets.{held, told_of, IsNode, block_of}
use Rattle.journal_treecalls.specs.Seats.{block_count}
use Rattle.journal_treecalls.specs.Replies.{number_above}
use Rattle.journal_treecalls.specs.Lines.{item_of, beside_of, Shows}
use Rattle.journal_treecalls.specs.Walks.{all_items}

-- why a node is not listed
abbrev pub listing_by : Kind → Bool → Option Status
listing_by File may = Some NotDirectory
listing_by Link may = Some NotDirectory
listing_by Directory may = if may then None else Some NoAccess

abbrev pub listing_status : Caller → Head → Option Status
listing_status c h = listing_by h.kind (may_read c h.attributes)

-- the replies
abbrev pub page_of : ListReply → ListPage
page_of r = record { items = map item_of r.lines.items; is_end = r.is_end }

abbrev pub listed_told : Result ListReply Status → Result Listed Status
listed_told (Ok r) = Ok (record { directory = r.directory; page = page_of r })
listed_told (Err status) = Err status

abbrev pub listed_plus_told : Result ListReply Status → Result ListedPlus Status
listed_plus_told (Ok r) = Ok (record { directory = r.directory; page = page_of r; lines = map beside_of r.lines.items })
listed_plus_told (Err status) = Err status

-- The reply of a page: its lines, or that not one had room
abbrev pub IsReplyOf : Told → Page → Result ListReply Status → Type 0
IsReplyOf directory p (Ok r) = (r.directory ≡ directory) × (r.lines.items ≡ p.lines.items) × (r.is_end ≡ is_some p.room) × (p.room ≡ None → p.lines.items ≢ [])
IsReplyOf directory p (Err status) = (status ≡ TooSmall) × (p.room ≡ None) × (p.lines.items ≡ [])

-- where a line had no room
abbrev pub IsFullReply : Told → List Line → Result ListReply Status → Type 0
IsFullReply directory ls (Ok r) = (r.directory ≡ directory) × (r.lines.items ≡ ls) × (r.is_end ≡ false) × (ls ≢ [])
IsFullReply directory ls (Err status) = (status ≡ TooSmall) × (ls ≡ [])

-- ── `.` and `..` ──

abbrev pub dot_items : ℕ → ℕ → List Item
dot_items d cookie = if cookie == 0 then dot_item d ∷ [] else []

abbrev pub dot_dot_items : ℕ → ℕ → List Item
dot_dot_items above cookie = if nat_lt 1 cookie then [] else record { cookie = 2; name = DOT ∷ DOT ∷ []; number = above } ∷ []

abbrev pub ShowsDot : View → ℕ → Head → ℕ → Page → Page → Type 0
ShowsDot V d h cookie old new = IsSoundView V → (own : List ℕ) → V.inode d ≡ used (held_of h own) → Shows V old new (dot_items d cookie)

abbrev pub ShowsDotDot : View → ℕ → Record → ℕ → Page → Page → Type 0
ShowsDotDot V d r cookie old new = IsSoundView V → Shows V old new (dot_dot_items (number_above d r) cookie)

-- ── a listing ──

abbrev pub items_after : View → ℕ → Record → ℕ → List Item
items_after V d r cookie = dot_items d cookie ++ dot_dot_items (number_above d r) cookie ++ all_items V (cookie - 2) (λ j. (block_of V r.head j).number) (block_count r.head)

pub record IsListing (V : View) (d : ℕ) (r : Record) (cookie : ℕ) (room : Room) (reply : Result ListReply Status) : Type 0 where
  pub fresh : Page
  pub page : Page
  pub bare : fresh.lines.items ≡ []
  pub all : fresh.room ≡ Some room
  pub shown : Shows V fresh page (items_after V d r cookie)
  pub told : IsReplyOf (told_of d r.head) page reply

abbrev pub ListsDirectory : View → ℕ → Record → ℕ → Room → Result ListReply Status → Type 0
ListsDirectory V d r cookie room reply = IsSoundView V → V.inode d ≡ used (held r) → IsListing V d r cookie room reply

pub data ListsNode (V : View) (c : Caller) (d : ℕ) (r : Record) (cookie : ℕ) (room : Room) : Result ListReply Status → Type 0 where
  kept : (status : Status) → listing_status c r.head ≡ Some status → ListsNode V c d r cookie room (Err status)
  listing : (reply : Result ListReply Status) → listing_status c r.head ≡ None → ListsDirectory V d r cookie room reply → ListsNode V c d r cookie room reply

pub data Lists (V : View) (c : Caller) (h : Handle) (cookie : ℕ) (room : Room) : Result ListReply Status → Type 0 where
  stale : target (tree_of V) h ≡ gone → Lists V c h cookie room (Err Stale)
  of_node : (r : Record) (reply : Result ListReply Status) → IsNode V h r → ListsNode V c h.number r cookie room reply → Lists V c h cookie room reply
