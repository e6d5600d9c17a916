-- The result of a call that waited for a mark, and why one is refused.
use Rattle.std.specs.Prelude.{ℕ, ◌≡◌, ◌<◌, ◌≤◌, List}
use Rattle.journal_world.specs.declared.refusal.Refusal.{Refusal}
use Rattle.journal_world.specs.declared.refusal.Refusal.TheVariants.{DeviceFailed, Stale, Stranger, Closed}
use Rattle.journal_world.specs.Addresses.{Shape}
use Rattle.journal_world.specs.Maps.{Map}
use Rattle.journal_world.specs.Histories.{Entry, floor}
use Rattle.journal_history.specs.Tokens.{SessionState, CommitPlace, StableCount, OnlyExtends, IsExact}
use Rattle.journal_memory.specs.declared.refusal_number.RefusalNumber.TheVariants.{J6, J9, J13}
use Rattle.journal_memory.specs.Causes.{CauseState, IsUnexplained}
use Rattle.journal_memory.specs.Transactions.{TransactionState}
use Rattle.journal_twophase.specs.declared.waiting.WaitFault.{WaitFault}
use Rattle.journal_twophase.specs.declared.waiting.WaitFault.TheVariants.{Refused, Unsure}
use Rattle.journal_twophase.specs.Journals.{IsKnown, IsShown}
use Rattle.journal_twophase.specs.Commits.{IsCommitted, IsCommitRefusal, ShowsStrange, ShowsFence}

-- The note says that at least this many commits are stable, by a mark in the history that the
-- session has seen
pub record IsStable (commits : ℕ) (note : StableCount) (session : SessionState) : Type 0 where
  pub covers : commits ≤ note.count
  pub marked : note.count ≤ floor session.seen
  pub front : note.front ≡ session.seen

-- The transaction was committed, and then its session may have seen more. It is exact
pub record CommitsAndWaits (rule : Map → Type 0) (layout : Shape) (began : List Entry) (t : TransactionState) (old new : SessionState) (place : CommitPlace) : Type 0 where
  pub then : SessionState
  pub committed : IsCommitted rule layout began t old then place
  pub later : OnlyExtends then new
  pub exact : IsExact new
  pub known : IsKnown rule layout new.seen

-- why a session's wait for a mark is refused
abbrev pub IsWaitRefusal : SessionState → Refusal CauseState → Type 0
IsWaitRefusal s (Closed cause) = IsUnexplained J13 cause
IsWaitRefusal s (DeviceFailed cause) = IsUnexplained J6 cause
IsWaitRefusal s (Stale cause) = IsShown J9 cause
IsWaitRefusal s (Stranger cause) = ShowsStrange s cause
IsWaitRefusal s other = ⊥

-- the journal goes on no more: it was stopped, or the device failed
abbrev pub HasEnded : {C : Type 0} → Refusal C → Type 0
HasEnded (Closed cause) = Unit {0}
HasEnded (DeviceFailed cause) = Unit {0}
HasEnded other = ⊥

-- a stop or a fault ends a wait for the first n commits only if they are not marked: the session
-- has then seen a history that has no such mark
abbrev pub IsEndedUnmarked : ℕ → SessionState → Refusal CauseState → Type 0
IsEndedUnmarked commits s (Closed cause) = floor s.seen < commits
IsEndedUnmarked commits s (DeviceFailed cause) = floor s.seen < commits
IsEndedUnmarked commits s other = Unit {0}

-- why a commit at this place is not known to be stable: the wait was refused, by a stop or a fault
-- only if no mark covers the commit
abbrev pub IsUnsure : CommitPlace → SessionState → WaitFault CommitPlace CauseState → Type 0
IsUnsure place s (Refused why) = ⊥
IsUnsure place s (Unsure at why) = (at ≡ place) × IsWaitRefusal s why × IsEndedUnmarked at.count s why

-- Why a commit that waits for its mark has none: the history lacks it, or has it and it is not
-- known to be stable
abbrev pub IsWaitFault : (Map → Type 0) → Shape → List Entry → TransactionState → SessionState → SessionState → WaitFault CommitPlace CauseState → Type 0
IsWaitFault rule layout began t old new (Refused why) = IsCommitRefusal t old why × OnlyExtends old new × ShowsFence new why
IsWaitFault rule layout began t old new (Unsure place why) = CommitsAndWaits rule layout began t old new place × IsWaitRefusal new why × IsEndedUnmarked place.count new why
