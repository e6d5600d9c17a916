-- How many commits touched each slot, what the core counts beside its history, and what is held
-- under the slots.
use Rattle.std.specs.Prelude.{ℕ, ◌≡◌, ◌<◌, List, length, slice_index, slice_index_or, slice_get, Some, All}
use Rattle.journal_world.specs.Addresses.{slot_of, Shape}
use Rattle.journal_world.specs.Maps.{Pair}
use Rattle.journal_world.specs.Histories.{Entry, touched}
use Rattle.journal_lockmap.specs.Numbers.{HeldState}
use Rattle.journal_memory.specs.declared.fenced_sessions.Run.{Run}
use Rattle.journal_memory.specs.Sessions.{AreSessionCounts, AreFences}

-- The numbers of commits that touched each slot of a layout are those of the history
pub record AreCounts (layout : Shape) (counts : List ℕ) (history : List Entry) : Type 0 where
  pub slots : length counts ≡ layout.slots
  pub touched : (slot : ℕ) → slot < layout.slots → slice_index counts slot ≡ touched layout history slot

-- The counts beside the history: which sessions are fenced, and each session's and each slot's
-- number of commits
pub record KeepsCounts (layout : Shape) (fenced : List Run) (sessions counts : List ℕ) (history : List Entry) : Type 0 where
  pub fences : AreFences fenced history
  pub per_session : AreSessionCounts sessions history
  pub touched : AreCounts layout counts history

-- the held slots agree with the history: each slot was touched by as many commits as its token says
abbrev pub AgreeWith : Shape → List Entry → List HeldState → Type 0
AgreeWith layout history held = All (λ h. h.count ≡ touched layout history h.slot) held

-- so do the first of them
abbrev pub AgreeUpTo : Shape → List Entry → ℕ → List HeldState → Type 0
AgreeUpTo layout history known held = (k : ℕ) (d : HeldState) → k < known → k < length held → (slice_index_or held k d).count ≡ touched layout history (slice_index_or held k d).slot

-- the address's slot is held, and as many commits of the history touched it as its token says
abbrev pub IsUnder : Shape → List HeldState → List Entry → Pair → Type 0
IsUnder layout held history p = (k : ℕ) × (h : HeldState) × (slice_get held k ≡ Some h) × (h.slot ≡ slot_of layout p.0) × (h.count ≡ touched layout history (slot_of layout p.0))

-- the slots of all reads are held, and no commit touched them since
abbrev pub AreUnder : Shape → List HeldState → List Entry → List Pair → Type 0
AreUnder layout held seen reads = All (IsUnder layout held seen) reads
