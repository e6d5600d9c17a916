-- Lines of a listing, as many as have room.
use Rattle.std.specs.Prelude.{ℕ, zero, suc, ◌≡◌, ◌+◌, ◌-◌, ◌*◌, Bool, ◌==◌, ◌&&◌, nat_le, nat_lt, if◌then◌else◌, List, [], ◌∷◌, ◌++◌, map, take, Option, Some, None}
use Rattle.journal_tree.specs.declared.reply.Told.{Told}
use Rattle.journal_tree.specs.Listing.{Item, line_bytes, Line as Beside, line_of}
use Rattle.journal_treestore.specs.declared.entry.Entry.{Entry}
use Rattle.journal_treestore.specs.Views.{Seen, View, tree_of, entry_in}
use Rattle.journal_treestore.specs.Views.Seen.{free, used}
use Rattle.journal_treecalls.specs.declared.lines.Line.{Line}
use Rattle.journal_treecalls.specs.declared.lines.Room.{Room}
use Rattle.journal_treecalls.specs.declared.lines.Page.{Page}

-- a line as READDIR returns it, and what READDIRPLUS returns beside
abbrev pub item_of : Line → Item
item_of l = record { cookie = l.cookie; name = take l.name_bytes l.name; number = l.number }

abbrev pub beside_of : Line → Beside
beside_of l = record { generation = l.generation; node = l.node }

pub record IsLine (l : Line) (cookie number : ℕ) (name : List ℕ) (generation : ℕ) (node : Option Told) : Type 0 where
  pub item : item_of l ≡ record { cookie = cookie; name = name; number = number }
  pub beside : beside_of l ≡ record { generation = generation; node = node }

-- ── room ──

-- what READDIRPLUS takes for a line, of which READDIR takes so much. READDIR has no such bound
abbrev pub bytes_beside : Bool → ℕ → ℕ
bytes_beside plus bytes = if plus then bytes + 112 else 0

abbrev pub room_after : Room → Item → Option Room
room_after r i =
    if nat_le (line_bytes i) r.names && nat_le (bytes_beside r.is_plus (line_bytes i)) r.bytes
    then Some (record { names = r.names - line_bytes i; bytes = r.bytes - bytes_beside r.is_plus (line_bytes i); is_plus = r.is_plus })
    else None

abbrev pub left_after : Option Room → Item → Option Room
left_after None i = None
left_after (Some r) i = room_after r i

-- the line stands on the page if there is room left then, also if that is none
abbrev pub with_line : {A : Type 0} → Option Room → List A → A → List A
with_line None xs x = xs
with_line (Some r) xs x = xs ++ x ∷ []

pub record Adds (old new : Page) (l : Line) : Type 0 where
  pub room : new.room ≡ left_after old.room (item_of l)
  pub lines : new.lines.items ≡ with_line (left_after old.room (item_of l)) old.lines.items l

-- Lines as READDIR returns them, and the room that is left
pub record Filled : Type 0 where
  pub items : List Item
  pub room : Option Room

abbrev pub filled_of : Page → Filled
filled_of p = record { items = map item_of p.lines.items; room = p.room }

abbrev pub put_item : Filled → Item → Filled
put_item f i = record { items = with_line (left_after f.room i) f.items i; room = left_after f.room i }

-- after these lines, one after another
abbrev pub fill : Filled → List Item → Filled
fill f [] = f
fill f (i ∷ is) = fill (put_item f i) is

-- What READDIRPLUS returns beside these lines is so on this disk
abbrev pub AreTrue : View → List Line → Type 0
AreTrue V ls = map beside_of ls ≡ map (λ l. line_of (tree_of V) (item_of l)) ls

-- These lines came onto a page, as many as had room
pub record Shows (V : View) (old new : Page) (is : List Item) : Type 0 where
  pub filled : filled_of new ≡ fill (filled_of old) is
  pub told : AreTrue V old.lines.items → AreTrue V new.lines.items

-- ── the lines of a directory ──

-- of a place, by its entry and the inode that this names. A node's second entry has no line: the
-- node has one at its home's place
abbrev pub item_by : Seen → ℕ → ℕ → List Item
item_by (free g) place n = []
item_by (used g) place n = if g.home.place == place then record { cookie = place + 3; name = g.home.name; number = n } ∷ [] else []

abbrev pub item_at : View → ℕ → Entry → List Item
item_at V place e = if e.number == 0 then [] else item_by (V.inode e.number) place e.number

-- where it is not before the place with which the listing begins
abbrev pub item_from : View → ℕ → ℕ → Entry → List Item
item_from V begin place e = if nat_lt place begin then [] else item_at V place e

-- of the first places of block j of a directory, which is block b
unfoldable pub items_in : View → ℕ → ℕ → ℕ → ℕ → List Item
items_in V begin b j zero = []
items_in V begin b j (suc at) = items_in V begin b j at ++ item_from V begin (512 * j + at) (entry_in V b at)
