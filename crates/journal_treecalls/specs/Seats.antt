-- The numbers of a directory's blocks, and where the entries of a node lie in the blocks.
use Rattle.std.specs.Prelude.{ℕ, ◌≡◌, ◌≢◌, ◌<◌, ◌-◌, ◌/◌, ◌%◌, ◌==◌, ◌&&◌, min, nat_lt, Bool, if◌then◌else◌, List, [], length, get_or, Option, Some, None}
use Rattle.journal_tree.specs.declared.limits.TheConstants.{FIRST_BLOCKS, MOST_BLOCKS}
use Rattle.journal_treestore.specs.declared.entry.TheConstants.{PLACES}
use Rattle.journal_treestore.specs.declared.inode.Head.{Head}
use Rattle.journal_treestore.specs.Positions.{Position}
use Rattle.journal_treestore.specs.Views.{Held, View, held_of, directory_block}
use Rattle.journal_treestore.specs.Steps.{Seat}
use Rattle.journal_treecalls.specs.declared.node.Record.{Record}
use Rattle.journal_treecalls.specs.declared.search.Hit.{Hit}
use Rattle.journal_treecalls.specs.declared.seats.BlockNumbers.{BlockNumbers}
use Rattle.journal_treecalls.specs.declared.seats.EntryPlace.{EntryPlace}
use Rattle.journal_treecalls.specs.declared.seats.EntryPlaces.{EntryPlaces}
use Rattle.journal_treecalls.specs.Fetches.{number_at, file_index}
use Rattle.journal_treecalls.specs.Targets.{held, block_of}

-- ── numbers ──

-- the number of a block after the first 48, by the bytes of the first index block. Where there is
-- none, it is 0
abbrev pub number_after : Option (List ℕ) → ℕ → ℕ
number_after None k = 0
number_after (Some v) k = number_at v k

-- that of block j of a directory
abbrev pub number_of : BlockNumbers → ℕ → ℕ
number_of b j =
    if nat_lt j MOST_BLOCKS then (if nat_lt j FIRST_BLOCKS then get_or b.first j 0 else number_after b.levels (j - FIRST_BLOCKS))
    else 0

-- The numbers are those of a directory of these fields
abbrev pub HasBlocks : View → Head → BlockNumbers → Type 0
HasBlocks V h b = (j : ℕ) → number_of b j ≡ (block_of V h j).number

-- These are the bytes of its first index block, or it has none
abbrev pub HasLevels : View → Head → Option (List ℕ) → Type 0
HasLevels V h None = file_index V h 0 ≡ 0
HasLevels V h (Some v) = (file_index V h 0 ≢ 0) × (V.block (file_index V h 0) ≡ v)

abbrev pub IsWhole : Option (List ℕ) → Type 0
IsWhole None = Unit {0}
IsWhole (Some v) = length v ≡ 4096

abbrev pub AreWhole : BlockNumbers → Type 0
AreWhole b = IsWhole b.levels

-- how many blocks a directory has, and holes among them
abbrev pub block_count : Head → ℕ
block_count h = min (h.size / 4096) MOST_BLOCKS

-- ── entries of a node ──

-- whether a hit is at the place of its node's home
abbrev pub is_at_home : Hit → Bool
is_at_home hit = hit.j == hit.head.place / PLACES && hit.at == hit.head.place % PLACES

abbrev pub home_place : BlockNumbers → Hit → EntryPlace
home_place b hit = record { j = hit.head.place / PLACES; block = number_of b (hit.head.place / PLACES); at = hit.head.place % PLACES }

-- where it is not, it is the second entry
abbrev pub second_place : Hit → Option EntryPlace
second_place hit = if is_at_home hit then None else Some (record { j = hit.j; block = hit.block; at = hit.at })

abbrev pub places_of : BlockNumbers → Hit → EntryPlaces
places_of b hit = record { home = home_place b hit; second = second_place hit }

-- they are places of a block
abbrev pub IsInPlace : Option EntryPlace → Type 0
IsInPlace None = Unit {0}
IsInPlace (Some p) = p.at < PLACES

pub record AreInside (p : EntryPlaces) : Type 0 where
  pub home : p.home.at < PLACES
  pub second : IsInPlace p.second

-- ── the same on a disk ──

abbrev pub position_of : EntryPlace → Position
position_of p = record { j = p.j; q = p.at; b = p.block }

-- the place of the home of the node of a hit, in a directory of these fields
abbrev pub home_position : View → Head → Hit → Position
home_position V h hit = record { j = hit.head.place / PLACES; q = hit.head.place % PLACES; b = (block_of V h (hit.head.place / PLACES)).number }

abbrev pub second_position : Hit → Option Position
second_position hit = if is_at_home hit then None else Some (record { j = hit.j; q = hit.at; b = hit.block })

-- the node of a hit, which has the name, where it hangs
abbrev pub seat_of : View → ℕ → Record → Hit → List ℕ → Seat
seat_of V d r hit name = record { d = d; h = held r; at = home_position V r.head hit; more = second_position hit; n = hit.number; g = held_of hit.head name }
