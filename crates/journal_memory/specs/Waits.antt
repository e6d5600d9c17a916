-- Questions about marks, and why they are refused. No device call is made for any of it.
use Rattle.std.specs.Prelude.{ℕ, ◌≡◌, ◌⊎◌, ◌<◌, ◌≤◌}
use Rattle.journal_world.specs.declared.refusal.Refusal.{Refusal}
use Rattle.journal_world.specs.declared.refusal.Refusal.TheVariants.{DeviceFailed, Closed}
use Rattle.journal_world.specs.Histories.{count, floor}
use Rattle.journal_history.specs.Tokens.{SessionState}
use Rattle.journal_memory.specs.Causes.{CauseState}
use Rattle.journal_memory.specs.Ledgers.{IsStrayRefusal}
use Rattle.journal_memory.specs.Outsets.{Outset, GoesOn, IsEndRefusal}

-- it goes on, or the mark is there already
abbrev pub MayWait : Outset → ℕ → Type 0
MayWait o n = GoesOn o ⊎ (n ≤ floor o.history)

-- why a session's question about the first n commits is refused: the first of these that holds
abbrev pub IsWaitRefusal : Outset → SessionState → ℕ → Refusal CauseState → Type 0
IsWaitRefusal o s n (Closed cause) = (floor o.history < n) × IsEndRefusal o (Closed cause)
IsWaitRefusal o s n (DeviceFailed cause) = (floor o.history < n) × IsEndRefusal o (DeviceFailed cause)
IsWaitRefusal o s n other = MayWait o n × IsStrayRefusal o.history s other

-- A stop or a fault ends the wait: not all commits are marked that the session had seen, and it is
-- shown the whole history
pub record EndsUnmarked (o : Outset) (old new : SessionState) (why : Refusal CauseState) : Type 0 where
  pub unmarked : floor o.history < count old.seen
  pub shown : new.seen ≡ o.history
  pub end : IsEndRefusal o why

-- why a session's question about all that it has seen is refused: the history is not the session's,
-- and the session stays as it was, or else a stop or a fault
abbrev pub IsFlushRefusal : Outset → SessionState → SessionState → Refusal CauseState → Type 0
IsFlushRefusal o old new (Closed cause) = EndsUnmarked o old new (Closed cause)
IsFlushRefusal o old new (DeviceFailed cause) = EndsUnmarked o old new (DeviceFailed cause)
IsFlushRefusal o old new other = IsStrayRefusal o.history old other × (new ≡ old)
