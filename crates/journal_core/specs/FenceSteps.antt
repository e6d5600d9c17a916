-- A fence of a session as a step of the core.
use Rattle.std.specs.Prelude.{ℕ, ◌≡◌, ◌⊎◌, ◌+◌, ◌++◌, ◌∷◌, [], max, true, false, Result, Ok, Err}
use Rattle.journal_world.specs.declared.refusal.Refusal.{Refusal}
use Rattle.journal_world.specs.Histories.{is_fenced}
use Rattle.journal_world.specs.Histories.Entry.{fence}
use Rattle.journal_memory.specs.Causes.{CauseState}
use Rattle.journal_memory.specs.Fences.{IsFenceRefusal as IsRefusedFrom}
use Rattle.journal_parts.specs.CoreStates.{CoreState, Crashes}
use Rattle.journal_parts.specs.CoreParts.{outset}

-- The fence was added to the history, and nothing else was done. No session gets the number from
-- then on
pub record AddsFence (session : ℕ) (old new : CoreState) : Type 0 where
  pub free : is_fenced session old.history ≡ false
  pub fenced : new ≡ record old { history = old.history ++ fence session ∷ []; next = max old.next (session + 1) }

-- It is there already, and nothing was done
pub record HasFence (session : ℕ) (old new : CoreState) : Type 0 where
  pub stands : is_fenced session old.history ≡ true
  pub same : new ≡ old

abbrev pub SetsFence : ℕ → CoreState → CoreState → Type 0
SetsFence session old new = AddsFence session old new ⊎ HasFence session old new

-- why there is no fence
abbrev pub IsFenceRefusal : ℕ → CoreState → Refusal CauseState → Type 0
IsFenceRefusal session c why = IsRefusedFrom session (outset c) why

-- A session is fenced
pub record FencesSession (session : ℕ) (old new : CoreState) : Type 0 where
  pub did : SetsFence session old new
  pub crash : Crashes old new

-- A session's fence was refused
pub record RefusesFence (session : ℕ) (old : CoreState) (why : Refusal CauseState) (new : CoreState) : Type 0 where
  pub refusal : IsFenceRefusal session old why
  pub same : new ≡ old
  pub crash : Crashes old new

-- the effect of a fence, or why it was refused
abbrev pub AnswersFence : ℕ → CoreState → Result (Unit {0}) (Refusal CauseState) → CoreState → Type 0
AnswersFence session old (Ok done) new = FencesSession session old new
AnswersFence session old (Err why) new = RefusesFence session old why new
