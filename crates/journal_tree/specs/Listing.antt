-- READDIR and READDIRPLUS, and listings over several calls.
use Rattle.std.specs.Prelude.{ℕ, zero, suc, ◌≡◌, ◌+◌, ◌-◌, ◌*◌, ◌/◌, ◌==◌, ◌<◌, ◌⊎◌, min, Bool, true, ◌&&◌, nat_le, nat_lt, if◌then◌else◌, List, [], ◌∷◌, ◌++◌, length, map, take, Option, Some, None, option_map, Ok}
use Rattle.journal_tree.specs.declared.limits.TheConstants.{HANDLE_BYTES}
use Rattle.journal_tree.specs.declared.reply.Told.{Told}
use Rattle.journal_tree.specs.declared.status.Status.TheVariants.{TooSmall}
use Rattle.journal_tree.specs.Trees.{Body, Node, Tree, find_place, is_directory}
use Rattle.journal_tree.specs.Trees.Body.{directory, file, link}
use Rattle.journal_tree.specs.declared.caller.Caller.{Caller}
use Rattle.journal_tree.specs.Rights.{may_read}
use Rattle.journal_tree.specs.Calls.{DOT, Outcome, refused, Target, told, in_directory, allowed}
use Rattle.journal_tree.specs.Names.{parent_of}

-- A line of a listing
pub record Item : Type 0 where
  pub cookie : ℕ
  pub name : List ℕ
  pub number : ℕ

-- the cookie of the entry at place 0. `.` has cookie 1 and `..` cookie 2
abbrev pub FIRST_COOKIE : ℕ
FIRST_COOKIE = 3

-- the line of a node: its cookie stays while it stays where it hangs
abbrev pub item_of : ℕ → Node → Item
item_of n x = record { cookie = x.home.place + FIRST_COOKIE; name = x.home.name; number = n }

abbrev pub with_item : ℕ → Option Node → List Item → List Item
with_item n None items = items
with_item n (Some x) items = item_of n x ∷ items

abbrev pub with_number : Tree → Option ℕ → List Item → List Item
with_number T None items = items
with_number T (Some n) items = with_item n (T.at n).node items

-- the lines of so many places from one on
unfoldable pub entries : Tree → ℕ → ℕ → ℕ → List Item
entries T d place zero = []
entries T d place (suc count) = with_number T (find_place T d place) (entries T d (place + 1) count)

abbrev pub dot_item : ℕ → Item
dot_item d = record { cookie = 1; name = DOT ∷ []; number = d }

abbrev pub dot_dot_item : ℕ → Node → Item
dot_dot_item d x = record { cookie = 2; name = DOT ∷ DOT ∷ []; number = parent_of d x }

abbrev pub all_places : Body → ℕ
all_places (directory places) = places
all_places (file bytes) = 0
all_places (link text) = 0

-- the lines after a cookie, in the order of their cookies
abbrev pub items_above : Tree → ℕ → Node → ℕ → List Item
items_above T d x zero = dot_item d ∷ dot_dot_item d x ∷ entries T d 0 (all_places x.body)
items_above T d x (suc zero) = dot_dot_item d x ∷ entries T d 0 (all_places x.body)
items_above T d x (suc (suc place)) = entries T d place (all_places x.body - place)

-- how many of them have room in so many bytes
abbrev pub fitting : (Item → ℕ) → ℕ → List Item → ℕ
fitting cost room [] = 0
fitting cost room (i ∷ is) = if nat_le (cost i) room then suc (fitting cost (room - cost i) is) else 0

-- the bytes that a name takes, in fours
abbrev pub padded : ℕ → ℕ
padded n = 4 * ((n + 3) / 4)

-- the bytes of a node's attributes that are there
abbrev pub ATTRIBUTE_BYTES : ℕ
ATTRIBUTE_BYTES = 88

-- a line of READDIR: that there is one, the number, the name with its length, the cookie
abbrev pub line_bytes : Item → ℕ
line_bytes i = 4 + 8 + (4 + padded (length i.name)) + 8

-- one of READDIRPLUS has attributes and a handle too
abbrev pub plus_bytes : Item → ℕ
plus_bytes i = line_bytes i + ATTRIBUTE_BYTES + (4 + 4 + HANDLE_BYTES)

-- what a reply has beside the lines: the directory's attributes, the verifier, that there is no
-- line more, and whether this is the end
abbrev pub FRAME_BYTES : ℕ
FRAME_BYTES = ATTRIBUTE_BYTES + 8 + 4 + 4

-- Lines, and whether there are no more
pub record Page : Type 0 where
  pub items : List Item
  pub is_end : Bool

-- What READDIR tells
pub record Listed : Type 0 where
  pub directory : Told
  pub page : Page

-- What READDIRPLUS tells of a line's node beside the line
pub record Line : Type 0 where
  pub generation : ℕ
  pub node : Option Told

-- What READDIRPLUS tells
pub record ListedPlus : Type 0 where
  pub directory : Told
  pub page : Page
  pub lines : List Line

abbrev pub line_of : Tree → Item → Line
line_of T i = record { generation = (T.at i.number).generation; node = option_map (told i.number) (T.at i.number).node }

abbrev pub with_page : {A : Type 0} → Tree → List Item → ℕ → (Page → A) → Outcome A
with_page T items count answer =
    if nat_lt 0 (length items) && count == 0 then refused TooSmall T
    else (Ok (answer (record { items = take count items; is_end = nat_le (length items) count })), T)

-- the longest front of the lines that has room
abbrev pub readdir_case : Caller → ℕ → ℕ → Tree → Target → Outcome Listed
readdir_case c cookie most T t = in_directory T t (λ d x. allowed T (may_read c x.attributes) (
    with_page T (items_above T d x cookie) (fitting line_bytes (most - FRAME_BYTES) (items_above T d x cookie))
    (λ page. record { directory = told d x; page = page })))

-- where `names` bounds the bytes of the lines alone, as those of READDIR
abbrev pub readdirplus_case : Caller → ℕ → ℕ → ℕ → Tree → Target → Outcome ListedPlus
readdirplus_case c cookie names most T t = in_directory T t (λ d x. allowed T (may_read c x.attributes) (
    with_page T (items_above T d x cookie)
    (min (fitting line_bytes names (items_above T d x cookie)) (fitting plus_bytes (most - FRAME_BYTES) (items_above T d x cookie)))
    (λ page. record { directory = told d x; page = page; lines = map (line_of T) page.items })))

-- ── a listing over several calls ──

-- The line stands in the directory
pub data Stands (T : Tree) (d : ℕ) : Item → Type 0 where
  itself : Stands T d (dot_item d)
  parent : (x : Node) → (T.at d).node ≡ Some x → Stands T d (dot_dot_item d x)
  entry : (n : ℕ) (x : Node) → (T.at n).node ≡ Some x → x.home.directory ≡ d → Stands T d (item_of n x)

abbrev pub IsIn : Item → List Item → Type 0
IsIn i [] = ⊥
IsIn i (j ∷ js) = (j ≡ i) ⊎ IsIn i js

-- the cookies ascend, and the first is above one
abbrev pub Ascends : ℕ → List Item → Type 0
Ascends c [] = Unit {0}
Ascends c (i ∷ is) = (c < i.cookie) × Ascends i.cookie is

-- the cookie from which the next call goes on
abbrev pub last_cookie : ℕ → List Item → ℕ
last_cookie c [] = c
last_cookie c (i ∷ is) = last_cookie i.cookie is

-- A call that was answered, at a tree
pub record Step : Type 0 where
  pub tree : Tree
  pub page : Page

-- The page has so many of the lines after a cookie
pub record IsPage (T : Tree) (d c : ℕ) (page : Page) : Type 0 where
  pub node : Node
  pub is : (T.at d).node ≡ Some node
  pub kind : is_directory node.body ≡ true
  pub count : ℕ
  pub told : page.items ≡ take count (items_above T d node c)
  pub ends : page.is_end ≡ nat_le (length (items_above T d node c)) count

-- Calls for one directory, each with the last cookie of the one before, up to the end
pub data IsChain (d : ℕ) : ℕ → List Step → Type 0 where
  last : (c : ℕ) (s : Step) → IsPage s.tree d c s.page → s.page.is_end ≡ true → IsChain d c (s ∷ [])
  more : (c : ℕ) (s : Step) (rest : List Step) → IsPage s.tree d c s.page → IsChain d (last_cookie c s.page.items) rest → IsChain d c (s ∷ rest)

-- all lines of all replies
abbrev pub all_told : List Step → List Item
all_told [] = []
all_told (s ∷ rest) = s.page.items ++ all_told rest

abbrev pub EachStep : (Tree → Type 0) → List Step → Type 0
EachStep P [] = Unit {0}
EachStep P (s ∷ rest) = P s.tree × EachStep P rest

abbrev pub SomeStep : (Tree → Type 0) → List Step → Type 0
SomeStep P [] = ⊥
SomeStep P (s ∷ rest) = P s.tree ⊎ SomeStep P rest
