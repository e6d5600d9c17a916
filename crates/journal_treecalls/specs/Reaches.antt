-- The numbers of the blocks of a file that a WRITE reaches.
use Rattle.std.specs.Prelude.{ℕ, ◌≡◌, ◌≢◌, ◌<◌, ◌≤◌, ◌+◌, ◌-◌, ◌*◌, ◌/◌, Bool, not, ◌==◌, ◌&&◌, nat_le, nat_lt, if◌then◌else◌, List, length, get_or, take, slice_range, Option, Some, None}
use Rattle.std.specs.List.{list_any}
use Rattle.journal_tree.specs.declared.limits.TheConstants.{MOST_FILE_BLOCKS}
use Rattle.journal_treestore.specs.declared.inode.TheConstants.{DIRECT_BLOCKS, INDEX_NUMBERS, INDEX_PLACE, FIRST_INDEX_PLACE}
use Rattle.journal_treestore.specs.declared.inode.Head.{Head}
use Rattle.journal_treestore.specs.Bytes.{with_piece}
use Rattle.journal_treestore.specs.Views.{View, bytes_in}
use Rattle.journal_treecalls.specs.declared.reach.Reach.{Reach}
use Rattle.journal_treecalls.specs.declared.reach.Numbers.{Numbers}
use Rattle.journal_treecalls.specs.declared.reach.Changing.{Changing}
use Rattle.journal_treecalls.specs.declared.reach.SpareBlock.{SpareBlock}
use Rattle.journal_treecalls.specs.Fetches.{number_at, leaf_begin}
use Rattle.journal_treecalls.specs.Blocks.{HasFreeBlock}

-- ── which blocks are reached ──

-- the blocks of a file in which bytes lie, and the index blocks with their numbers
abbrev pub leaf_of : ℕ → ℕ
leaf_of j = (j - DIRECT_BLOCKS) / INDEX_NUMBERS

abbrev pub reach_for : ℕ → ℕ → Reach
reach_for from to = record {
  block = from / 4096;
  blocks = (to + 4095) / 4096 - from / 4096;
  leaf = leaf_of (from / 4096);
  leaves = leaf_of ((to + 4095) / 4096 + (INDEX_NUMBERS - 1)) - leaf_of (from / 4096);
}

-- how many they are. One more has the numbers of the index blocks
abbrev pub reach_count : Reach → ℕ
reach_count r = if r.leaves == 0 then r.blocks else r.blocks + r.leaves + 1

-- their places, one after another
abbrev pub reach_place : Reach → ℕ → ℕ
reach_place r m =
    if nat_lt m r.blocks then r.block + m
    else if nat_lt m (r.blocks + r.leaves) then FIRST_INDEX_PLACE + (r.leaf + (m - r.blocks))
    else INDEX_PLACE

-- The index blocks have the numbers of all the blocks that come after the first ones of a file, and
-- of one or more of them each
pub record IsReach (r : Reach) : Type 0 where
  pub some : 0 < r.blocks
  pub end : r.block + r.blocks ≤ MOST_FILE_BLOCKS
  pub low : INDEX_NUMBERS * r.leaf ≤ r.block - DIRECT_BLOCKS
  pub high : r.block + r.blocks ≤ leaf_begin (r.leaf + r.leaves)
  pub few : r.leaf + r.leaves ≤ INDEX_NUMBERS
  pub tight : r.leaves ≢ 0 → leaf_begin (r.leaf + r.leaves) < r.block + r.blocks + INDEX_NUMBERS

-- ── their numbers ──

-- whether the number of block p lies in one of the index blocks, and whether the place is that of
-- an index block
abbrev pub is_leafed : Reach → ℕ → Bool
is_leafed r p = nat_le (leaf_begin r.leaf) p && nat_lt p (leaf_begin (r.leaf + r.leaves))

abbrev pub is_rooted : Reach → ℕ → Bool
is_rooted r p = not (r.leaves == 0) && (nat_le FIRST_INDEX_PLACE p && nat_lt p (FIRST_INDEX_PLACE + INDEX_NUMBERS))

-- the block at a place, by the numbers that are known, and else by others
unfoldable pub numbered : (ℕ → ℕ) → Reach → Numbers → ℕ → ℕ
numbered others r s p =
    if nat_lt p DIRECT_BLOCKS then get_or s.direct p 0
    else if is_leafed r p then number_at s.leaves.items (p - leaf_begin r.leaf)
    else if p == INDEX_PLACE then s.index
    else if is_rooted r p then number_at s.root.items (p - FIRST_INDEX_PLACE)
    else others p

-- The number of the block at the place is known
pub data IsKnown (r : Reach) (p : ℕ) : Type 0 where
  direct_known : p < DIRECT_BLOCKS → IsKnown r p
  leafed_known : leaf_begin r.leaf ≤ p → p < leaf_begin (r.leaf + r.leaves) → IsKnown r p
  index_known : p ≡ INDEX_PLACE → IsKnown r p
  rooted_known : r.leaves ≢ 0 → FIRST_INDEX_PLACE ≤ p → p < FIRST_INDEX_PLACE + INDEX_NUMBERS → IsKnown r p

-- that of place m of those that are reached
abbrev pub reached_number : Reach → Numbers → ℕ → ℕ
reached_number r s m = numbered (λ p. 0) r s (reach_place r m)

-- the bytes of index block i of those that are reached
abbrev pub leaf_bytes : List ℕ → ℕ → List ℕ
leaf_bytes leaves i = slice_range leaves (4096 * i) (4096 * i + 4096)

-- how many bytes of numbers of index blocks are known
abbrev pub root_bytes : Reach → ℕ
root_bytes r = if r.leaves == 0 then 0 else 4096

-- There are as many numbers as are needed
pub record AreSized (r : Reach) (s : Numbers) : Type 0 where
  pub direct : length s.direct ≡ DIRECT_BLOCKS
  pub root : length s.root.items ≡ root_bytes r
  pub leaves : length s.leaves.items ≡ 4096 * r.leaves

-- They are the same
pub record AreSame (old new : Numbers) : Type 0 where
  pub direct : new.direct ≡ old.direct
  pub index : new.index ≡ old.index
  pub root : new.root.items ≡ old.root.items
  pub leaves : new.leaves.items ≡ old.leaves.items

-- Number k of blocks of numbers was put
pub record PutsNumber (old : List ℕ) (k b : ℕ) (new : List ℕ) : Type 0 where
  pub long : length new ≡ length old
  pub here : number_at new k ≡ b
  pub others : (i : ℕ) → i ≢ k → 4 * i + 4 ≤ length old → number_at new i ≡ number_at old i

-- The bytes of block b were put over those from a place on, if there is such a block
pub record CopiesBlock (V : View) (b at : ℕ) (old new : List ℕ) : Type 0 where
  pub none : b ≡ 0 → new ≡ old
  pub some : b ≢ 0 → new ≡ with_piece old at (V.block b)
  pub whole : b ≢ 0 → length (V.block b) ≡ 4096

-- The bytes of the first index blocks that are reached were put, by the numbers in others, and
-- those after them are zeros
pub record HasLeaves (V : View) (r : Reach) (root : List ℕ) (i : ℕ) (leaves : List ℕ) : Type 0 where
  pub are : (l : ℕ) → l < i → leaf_bytes leaves l ≡ bytes_in V (number_at root (r.leaf + l))
  pub rest : (k : ℕ) → 4096 * i ≤ k → get_or leaves k 0 ≡ 0

-- The numbers are those that a file has. Where it has no block with numbers, they are zeros
pub record HasNumbers (V : View) (h : Head) (r : Reach) (s : Numbers) : Type 0 where
  pub direct : s.direct ≡ h.blocks
  pub index : s.index ≡ h.index
  pub root : r.leaves ≢ 0 → s.root.items ≡ bytes_in V h.index
  pub leaves : (i : ℕ) → i < r.leaves → leaf_bytes s.leaves.items i ≡ bytes_in V (number_at s.root.items (r.leaf + i))

-- ── the blocks that the file gets ──

-- whether a spare block is one of those before it in their list
abbrev pub is_repeated : List ℕ → ℕ → Bool
is_repeated spare at = list_any (λ x. x == get_or spare at 0) (take at spare)

-- A spare block that nobody has, the first of its number
pub record IsSpare (V : View) (spare : List ℕ) (from : ℕ) (s : SpareBlock) : Type 0 where
  pub free : HasFreeBlock V s.block
  pub new : (i : ℕ) → i < from → get_or spare i 0 ≢ s.block
  pub later : from < s.next
  pub is : get_or spare (s.next - 1) 0 ≡ s.block

abbrev pub IsNextSpare : View → List ℕ → ℕ → Option SpareBlock → Type 0
IsNextSpare V spare from None = Unit {0}
IsNextSpare V spare from (Some s) = IsSpare V spare from s

abbrev pub IsNextWithin : List ℕ → Option SpareBlock → Type 0
IsNextWithin spare None = Unit {0}
IsNextWithin spare (Some s) = s.next ≤ length spare

abbrev pub IsWithin : List ℕ → Option ℕ → Type 0
IsWithin spare None = Unit {0}
IsWithin spare (Some next) = next ≤ length spare

-- The spare block at a place, the first of its number
pub record IsSpareAt (V : View) (spare : List ℕ) (at b : ℕ) : Type 0 where
  pub free : HasFreeBlock V b
  pub new : (i : ℕ) → i < at → get_or spare i 0 ≢ b
  pub is : get_or spare at 0 ≡ b

abbrev pub IsSpareHere : View → List ℕ → ℕ → Option ℕ → Type 0
IsSpareHere V spare at None = Unit {0}
IsSpareHere V spare at (Some b) = IsSpareAt V spare at b

-- the block is one of the first spare ones
abbrev pub IsAmong : List ℕ → ℕ → ℕ → Type 0
IsAmong spare at b = (i : ℕ) × (i < at) × (get_or spare i 0 ≡ b)

-- At the first places that are reached and have no block there are blocks that nobody has, none of
-- them twice, and all else stays
pub record AreTaken (V : View) (others : ℕ → ℕ) (r : Reach) (old new : Numbers) (m : ℕ) : Type 0 where
  pub kept : (p : ℕ) → ((i : ℕ) → i < m → reach_place r i ≡ p → numbered others r old p ≢ 0) → numbered others r new p ≡ numbered others r old p
  pub free : (i : ℕ) → i < m → numbered others r old (reach_place r i) ≡ 0 → HasFreeBlock V (numbered others r new (reach_place r i))
  pub apart : (i k : ℕ) → i < m → k < m → i ≢ k → numbered others r old (reach_place r i) ≡ 0 → numbered others r old (reach_place r k) ≡ 0
      → numbered others r new (reach_place r i) ≢ numbered others r new (reach_place r k)

-- They are some of the first spare ones
pub record TakesPlaces (V : View) (r : Reach) (old new : Numbers) (spare : List ℕ) (m at : ℕ) : Type 0 where
  pub taken : (others : ℕ → ℕ) → AreTaken V others r old new m
  pub among : (others : ℕ → ℕ) (i : ℕ) → i < m → numbered others r old (reach_place r i) ≡ 0 → IsAmong spare at (numbered others r new (reach_place r i))

-- One place gets a block, if it has none
pub record TakesPlace (V : View) (r : Reach) (old new : Numbers) (spare : List ℕ) (m at next : ℕ) : Type 0 where
  pub more : at ≤ next
  pub kept : (others : ℕ → ℕ) (p : ℕ) → (p ≡ reach_place r m → numbered others r old p ≢ 0) → numbered others r new p ≡ numbered others r old p
  pub free : (others : ℕ → ℕ) → numbered others r old (reach_place r m) ≡ 0 → HasFreeBlock V (numbered others r new (reach_place r m))
  pub new_one : (others : ℕ → ℕ) → numbered others r old (reach_place r m) ≡ 0 → (i : ℕ) → i < at → get_or spare i 0 ≢ numbered others r new (reach_place r m)
  pub among : (others : ℕ → ℕ) → numbered others r old (reach_place r m) ≡ 0 → IsAmong spare next (numbered others r new (reach_place r m))

abbrev pub TakesOne : View → Reach → Numbers → Numbers → List ℕ → ℕ → ℕ → Option ℕ → Type 0
TakesOne V r old new spare m at None = Unit {0}
TakesOne V r old new spare m at (Some next) = TakesPlace V r old new spare m at next

abbrev pub IsTaken : View → Reach → Numbers → Option Numbers → Type 0
IsTaken V r old None = Unit {0}
IsTaken V r old (Some new) = (others : ℕ → ℕ) → AreTaken V others r old new (reach_count r)

abbrev pub IsSizedTaken : Reach → Option Numbers → Type 0
IsSizedTaken r None = Unit {0}
IsSizedTaken r (Some new) = AreSized r new

-- The numbers of a file before and after blocks were taken for bytes from one to before another
pub record IsChanging (V : View) (h : Head) (from to : ℕ) (t : Changing) : Type 0 where
  pub reach : t.reach ≡ reach_for from to
  pub had : HasNumbers V h t.reach t.old
  pub old_sized : AreSized t.reach t.old
  pub new_sized : AreSized t.reach t.new
  pub taken : (others : ℕ → ℕ) → AreTaken V others t.reach t.old t.new (reach_count t.reach)
