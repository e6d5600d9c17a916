-- An open transaction as contracts see it, the effects of its calls, and why they are refused.
use Rattle.std.specs.Prelude.{ℕ, ◌≡◌, ◌≢◌, ◌≤◌, ◌==◌, length, All, nat_lt, Bool, false, if◌then◌else◌, IsTrue, List, [], ◌∷◌, ◌++◌, MatchOption}
use Rattle.std.specs.List.{list_any}
use mathlib.Core.List.{IsPrefix}
use Rattle.journal_world.specs.declared.address.Addr.{Addr}
use Rattle.journal_world.specs.declared.refusal.Refusal.{Refusal}
use Rattle.journal_world.specs.declared.refusal.Refusal.TheVariants.{NoMemory, BadAddress, BadSize, Busy, DeviceFailed, Stale, Closed}
use Rattle.journal_world.specs.Addresses.{Value, kind_of, is_valid, slot_of, Shape}
use Rattle.journal_world.specs.Maps.{Pair, SamePairs, value_among, value_at, is_value_at, is_object}
use Rattle.journal_world.specs.Histories.{Entry, is_trusted, latest}
use Rattle.journal_memory.specs.declared.refusal_number.RefusalNumber.TheVariants.{J6, J9, J13}
use Rattle.journal_memory.specs.Causes.{CauseState, IsUnexplained, IsExplained}
use Rattle.journal_lockmap.specs.Numbers.{HeldState, HoldsSlots, AreApart}
use Rattle.journal_memory.specs.SlotCounts.{AgreeUpTo, AgreeWith, AreUnder}
use Rattle.journal_memory.specs.Transactions.{TransactionState, ReadResultState, AreUnmoved}

pub record TxnState : Type 0 where
  -- the history that its session had seen when it began
  pub began : List Entry
  -- its reads and overwrites, and a history at whose end the map gives all that it read
  pub reads : List Pair
  pub writes : List Pair
  pub seen : List Entry
  -- the slots that it holds
  pub held : List ℕ

-- the transaction that has done nothing yet, begun where this was seen of the history
abbrev pub begun : List Entry → TxnState
begun seen = record { began = seen; reads = []; writes = []; seen = seen; held = [] }

-- an open transaction as the core has it
abbrev pub core_of : TxnState → TransactionState
core_of t = record { reads = t.reads; writes = t.writes; seen = t.seen }

-- the slot is held
abbrev pub holds : List ℕ → ℕ → Bool
holds held slot = list_any (λ h. h == slot) held

-- a greater one is
abbrev pub holds_above : List ℕ → ℕ → Bool
holds_above held slot = list_any (λ h. nat_lt slot h) held

-- the slots with one more, where it is not among them
abbrev pub with_slot : List ℕ → ℕ → List ℕ
with_slot held slot = if holds held slot then held else held ++ slot ∷ []

-- the transaction, with the slot of the address
abbrev pub holding : Shape → TxnState → Addr → TxnState
holding layout t a = record t { held = with_slot t.held (slot_of layout a) }

-- the slot is not held, and a greater one is
abbrev pub IsBelowHeld : ℕ → List ℕ → Type 0
IsBelowHeld slot held = (holds held slot ≡ false) × IsTrue (holds_above held slot)

-- It remembers what the map gives the address, at the end of the history that it has then seen
pub record Learns (old : TxnState) (a : Addr) (v : Value) (new : TxnState) : Type 0 where
  pub value : IsTrue (is_trusted new.seen) → v ≡ value_at (latest new.seen) a
  pub reads : SamePairs new.reads ((a, v) ∷ old.reads)
  pub later : IsPrefix old.seen new.seen
  pub others : new ≡ record old { reads = new.reads; seen = new.seen }

-- The answer and the effect of a read: the transaction's own overwrite, if there is one, else the
-- value that the map gives
abbrev pub ReadsValue : TxnState → Addr → Value → TxnState → Type 0
ReadsValue old a v new = MatchOption (value_among old.writes a) (Learns old a v new) (λ own. (v ≡ own) × (new ≡ old))

-- The address is overwritten
pub record Overwrites (old : TxnState) (a : Addr) (v : Value) (new : TxnState) : Type 0 where
  pub writes : SamePairs new.writes ((a, v) ∷ old.writes)
  pub others : new ≡ record old { writes = new.writes }

-- The invariant of the slots that an open transaction holds, none of them twice: the slots of all
-- its reads are among them, and no commit touched one since, and so are the slots of all its
-- overwrites
pub record KeepsHeld (layout : Shape) (held : List HeldState) (t : TransactionState) : Type 0 where
  pub reads : AreUnder layout held t.seen t.reads
  pub writes : HoldsSlots layout held t.writes
  pub apart : AreApart held

-- The first of the held slots agree with a history: that which the transaction has seen
pub record KnowsHeld (layout : Shape) (held : List HeldState) (seen : List Entry) (known : ℕ) : Type 0 where
  pub few : known ≤ length held
  pub agree : AgreeUpTo layout seen known held

-- nothing of these lies under the slot
abbrev pub IsClearOf : Shape → ℕ → List Pair → Type 0
IsClearOf layout slot ps = All (λ p. slot_of layout p.0 ≢ slot) ps

-- The result of a read of an address for a transaction: these bytes, and a history. The history
-- goes on from the one that the transaction has seen. No commit in between touched a slot under
-- which the transaction read. Each held slot was touched by as many commits of the history as its
-- token says. The bytes are an object of the address. If the history is trusted, they are the value
-- that the map at its end gives the address.
pub record ReadsObject (layout : Shape) (t : TransactionState) (a : Addr) (held : List HeldState) (bytes : Value) (found : ReadResultState) : Type 0 where
  pub addr : found.addr ≡ a
  pub later : IsPrefix t.seen found.seen
  pub unmoved : AreUnmoved layout found.seen t
  pub agree : AgreeWith layout found.seen held
  pub value : IsTrue (is_trusted found.seen) → bytes ≡ value_at (latest found.seen) a
  pub object : IsTrue (is_object layout (a, bytes))

-- why the journal goes on no more: it was stopped, or the device failed before
abbrev pub IsEndRefusal : Refusal CauseState → Type 0
IsEndRefusal (Closed cause) = IsUnexplained J13 cause
IsEndRefusal (DeviceFailed cause) = IsUnexplained J6 cause
IsEndRefusal other = ⊥

-- Why a slot is not taken
abbrev pub IsSlotRefusal : List ℕ → ℕ → Refusal CauseState → Type 0
IsSlotRefusal held slot Busy = IsBelowHeld slot held
IsSlotRefusal held slot NoMemory = Unit {0}
IsSlotRefusal held slot other = ⊥

-- Why an object whose slot is held is not read
abbrev pub IsCheckRefusal : TransactionState → Refusal CauseState → Type 0
IsCheckRefusal t (Closed cause) = IsUnexplained J13 cause
IsCheckRefusal t (DeviceFailed cause) = IsUnexplained J6 cause
IsCheckRefusal t (Stale cause) = IsExplained J9 t.seen cause
IsCheckRefusal t NoMemory = Unit {0}
IsCheckRefusal t other = ⊥

-- Why an address is not read
abbrev pub IsReadRefusal : Shape → TxnState → Addr → Refusal CauseState → Type 0
IsReadRefusal layout t a (Closed cause) = IsUnexplained J13 cause
IsReadRefusal layout t a (DeviceFailed cause) = IsUnexplained J6 cause
IsReadRefusal layout t a BadAddress = is_valid layout a ≡ false
IsReadRefusal layout t a Busy = IsTrue (is_valid layout a) × IsBelowHeld (slot_of layout a) t.held
IsReadRefusal layout t a other = IsTrue (is_valid layout a) × IsCheckRefusal (core_of t) other

-- Why it is not overwritten
abbrev pub IsOverwriteRefusal : Shape → TxnState → Addr → Value → Refusal CauseState → Type 0
IsOverwriteRefusal layout t a v BadAddress = is_valid layout a ≡ false
IsOverwriteRefusal layout t a v BadSize = IsTrue (is_valid layout a) × (is_value_at (kind_of layout a.block) v ≡ false)
IsOverwriteRefusal layout t a v other = IsTrue (is_object layout (a, v)) × IsSlotRefusal t.held (slot_of layout a) other
