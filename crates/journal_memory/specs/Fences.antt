-- The effect of a fence of a session in memory, and why there is none. No device call is made for
-- any of it.
use Rattle.std.specs.Prelude.{ℕ, ◌≡◌, ◌⊎◌, ◌≤◌, ◌+◌, ◌^◌, ◌++◌, ◌∷◌, [], max, true, false, List, length}
use Rattle.journal_world.specs.declared.refusal.Refusal.{Refusal}
use Rattle.journal_world.specs.declared.refusal.Refusal.TheVariants.{NoMemory, Stale, Worn}
use Rattle.journal_world.specs.Histories.{Entry, is_fenced}
use Rattle.journal_world.specs.Histories.Entry.{fence}
use Rattle.journal_memory.specs.declared.refusal_number.RefusalNumber.TheVariants.{J11}
use Rattle.journal_memory.specs.Causes.{CauseState, IsUnexplained}
use Rattle.journal_memory.specs.Ledgers.{LedgerState, IsStale}
use Rattle.journal_memory.specs.Outsets.{Outset, GoesOn, IsEndRefusal}

-- The fence was added to the history, and nothing else was done. No session gets the number from
-- then on
pub record AddsFence (session : ℕ) (old new : LedgerState) : Type 0 where
  pub free : is_fenced session old.history ≡ false
  pub fenced : new ≡ record old { history = old.history ++ fence session ∷ []; next = max old.next (session + 1) }

-- It is there already, and nothing was done
pub record HasFence (session : ℕ) (old new : LedgerState) : Type 0 where
  pub stands : is_fenced session old.history ≡ true
  pub same : new ≡ old

abbrev pub SetsFence : ℕ → LedgerState → LedgerState → Type 0
SetsFence session old new = AddsFence session old new ⊎ HasFence session old new

-- The history's length or the number that is to be fenced would reach 2^62
abbrev pub IsFenceWorn : ℕ → List Entry → Type 0
IsFenceWorn session history = (2 ^ 62 ≤ length history + 1) ⊎ (2 ^ 62 ≤ session)

-- why there is no fence: the first of these that holds, then J1
abbrev pub IsFencingRefusal : ℕ → List Entry → Refusal CauseState → Type 0
IsFencingRefusal session history (Stale cause) = IsStale history cause
IsFencingRefusal session history (Worn cause) = (is_fenced session history ≡ false) × IsFenceWorn session history × IsUnexplained J11 cause
IsFencingRefusal session history NoMemory = (is_fenced session history ≡ false) × (IsFenceWorn session history → ⊥)
IsFencingRefusal session history other = ⊥

-- the same of a core, which may have been stopped or have failed before
abbrev pub IsFenceRefusal : ℕ → Outset → Refusal CauseState → Type 0
IsFenceRefusal session o (Stale cause) = GoesOn o × IsFencingRefusal session o.history (Stale cause)
IsFenceRefusal session o (Worn cause) = GoesOn o × IsFencingRefusal session o.history (Worn cause)
IsFenceRefusal session o NoMemory = GoesOn o × IsFencingRefusal session o.history NoMemory
IsFenceRefusal session o other = IsEndRefusal o other
