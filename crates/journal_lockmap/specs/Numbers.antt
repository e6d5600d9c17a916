-- The slots' numbers, and a held slot, as contracts see them.
use Rattle.std.specs.Prelude.{◌≤◌, ℕ, ◌≡◌, ◌<◌, ◌+◌, ◌==◌, if◌then◌else◌, Bool, false, IsTrue, List, length, map, All, slice_index, slice_index_or}
use Rattle.std.specs.List.{list_any}
use Rattle.atomic_table.specs.Seated.{TableId}
use Rattle.journal_world.specs.Addresses.{slot_of, Shape}
use Rattle.journal_world.specs.Maps.{Pair}
use Rattle.journal_history.specs.declared.count_cell.View.{View}
use Rattle.journal_history.specs.Counts.{keeper, token}

-- A slot that someone holds, or that is free: which, and how many commits touched it
pub record HeldState : Type 0 where
  pub slot : ℕ
  pub count : ℕ

-- A pass of the journal's cell that knows the number of this slot alone
pub record IsToken (journal : TableId) (slots slot : ℕ) (of : TableId) (holds : Type 0) (v : View) : Type 0 where
  pub cell : of ≡ journal
  pub fresh : holds
  pub view : v ≡ token slot v.count
  pub small : slot < slots

-- A cell of the journal, with the pass that knows the numbers of all its slots, each of which has a
-- token
pub record IsKeeper (journal : TableId) (slots : ℕ) (cell of : TableId) (v : View) : Type 0 where
  pub cell_is : cell ≡ journal
  pub pass_is : of ≡ journal
  pub view : v ≡ keeper v.counts
  pub all : length v.counts ≡ slots

-- the slot is among those that are counted, and its number is the one that is held
abbrev pub HasNumber : List ℕ → HeldState → Type 0
HasNumber counts h = (h.slot < length counts) × (h.count ≡ slice_index counts h.slot)

-- the held slots agree with the numbers
abbrev pub Agree : List ℕ → List HeldState → Type 0
Agree counts held = All (HasNumber counts) held

-- and so do those from one on
abbrev pub AgreeFrom : ℕ → List ℕ → List HeldState → Type 0
AgreeFrom from counts held = (k : ℕ) (d : HeldState) → from ≤ k → k < length held → HasNumber counts (slice_index_or held k d)

-- the slots of what is held
abbrev pub slots_of : List HeldState → List ℕ
slots_of held = map (λ h. h.slot) held

-- some write is of the slot
abbrev pub is_written : Shape → List Pair → ℕ → Bool
is_written layout writes slot = list_any (λ p. slot_of layout p.0 == slot) writes

-- the slot is one of some slots, which have a flag each
abbrev pub is_in : List Bool → ℕ → Bool
is_in flags slot = slice_index_or flags slot false

-- none is one of them
abbrev pub AreNone : List Bool → Type 0
AreNone flags = (slot : ℕ) → is_in flags slot ≡ false

-- those slots of which some write is
abbrev pub MarksWrites : Shape → List Bool → List Pair → Type 0
MarksWrites layout flags writes = (slot : ℕ) → is_in flags slot ≡ is_written layout writes slot

-- One commit more is counted, which writes these
pub record CountsWrites (layout : Shape) (writes : List Pair) (old new : List ℕ) : Type 0 where
  pub slots : length new ≡ length old
  pub touched : (slot : ℕ) → slot < layout.slots → slice_index new slot ≡ (if is_written layout writes slot then slice_index old slot + 1 else slice_index old slot)

-- the slot is among those that are held
abbrev pub is_held : List HeldState → ℕ → Bool
is_held held slot = list_any (λ h. h.slot == slot) held

-- the slot of each address that is written is held
abbrev pub HoldsSlots : Shape → List HeldState → List Pair → Type 0
HoldsSlots layout held writes = All (λ p. IsTrue (is_held held (slot_of layout p.0))) writes

-- each slot is held once
abbrev pub AreApart : List HeldState → Type 0
AreApart held = (i j : ℕ) → i < length held → j < length held → slice_index (slots_of held) i ≡ slice_index (slots_of held) j → i ≡ j
