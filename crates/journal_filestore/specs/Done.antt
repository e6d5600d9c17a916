-- An operation in the history, and the state after one that has no answer.
use Rattle.std.specs.Prelude.{ℕ, ◌≡◌, ◌≤◌, ◌+◌, Bool, true, false, IsTrue, List, take, Result, Ok, Err, OnOk}
use Rattle.journal_world.specs.Addresses.{Shape}
use Rattle.journal_world.specs.declared.refusal.Refusal.{Refusal}
use Rattle.journal_world.specs.Histories.{Entry, count, floor}
use Rattle.journal_history.specs.Tokens.{SessionState, OnlyExtends, IsExact, CommitPlace}
use Rattle.journal_memory.specs.Causes.{CauseState}
use Rattle.journal_twophase.specs.Transactions.{TxnState, core_of}
use Rattle.journal_twophase.specs.Commits.{IsCommitted}
use Rattle.journal_attempts.specs.Commits.{IsCommitAt}
use Rattle.journal_inode.specs.declared.version.FormatVersion.{FormatVersion}
use Rattle.journal_inode.specs.Sound.{HasSoundFiles}
use Rattle.journal_file_types.specs.declared.fault.Fault.{Fault}
use Rattle.journal_file_types.specs.declared.fault.Fault.TheVariants.{Refused, Unsure}
use Rattle.journal_file_types.specs.declared.pending_wait.PendingWait.{PendingWait}
use Rattle.journal_file_types.specs.declared.pending_wait.PendingWait.TheVariants.{Nothing, Wait}
use Rattle.journal_file_types.specs.declared.pending_wait.Committed.{Committed}
use Rattle.journal_file_types.specs.declared.status.Status.{Status}
use Rattle.journal_filestore.specs.Files.{Files}
use Rattle.journal_filestore.specs.Doing.{IsCaseOn}

-- The session has one more commit, which is at this place in the history that it has then seen.
-- Where the disk was honest and settled, the answer fits the files of the maps before and after it,
-- and the map is sound after each number of commits
abbrev pub IsMadeAt : {A : Type 0} → FormatVersion → (Files → Result A Status → Files → Type 0) → SessionState → SessionState → Result A Status → ℕ → Type 0
IsMadeAt version case old new answer place = IsCommitAt (HasSoundFiles version) (IsCaseOn version case answer) old new place

-- The operation was done, and answered
pub record IsDone {A : Type 0} (version : FormatVersion) (waits : Bool) (case : Files → Result A Status → Files → Type 0) (old new : SessionState) (answer : Result A Status) : Type 0 where
  pub place : ℕ
  pub made : IsMadeAt version case old new answer place
  -- the session has no other commits
  pub exact : IsExact new
  -- an operation that waits is marked as stable, with all commits before it, if it is answered Ok
  pub stable : IsTrue waits → OnOk answer (count (take (place + 1) new.seen) ≤ floor new.seen)

-- Refused, it was not done. In doubt, it was done with some answer that the case gives, and is not
-- known to be stable
abbrev pub IsOperationFault : {A : Type 0} → FormatVersion → Bool → (Files → Result A Status → Files → Type 0) → SessionState → SessionState → Fault CauseState → Type 0
IsOperationFault version waits case old new (Refused why) = OnlyExtends old new
IsOperationFault {A} version waits case old new (Unsure why) = IsTrue waits × ((answer : Result A Status) × (place : ℕ) × IsMadeAt version case old new answer place)

-- The result of an operation
abbrev pub IsAnswered : {A : Type 0} → FormatVersion → Bool → (Files → Result A Status → Files → Type 0) → SessionState → SessionState → Result (Result A Status) (Fault CauseState) → Type 0
IsAnswered version waits case old new (Ok answer) = IsDone version waits case old new answer
IsAnswered version waits case old new (Err fault) = IsOperationFault version waits case old new fault

-- the receipt is of the commit at this place of the history
pub record IsReceiptOf (history : List Entry) (index : ℕ) (receipt : CommitPlace) : Type 0 where
  pub front : receipt.front ≡ history
  pub place : receipt.place ≡ index
  pub counted : receipt.count ≡ count (take (index + 1) history)

-- The pending wait of an answer whose commit is at this place: a success that waits has the wait
-- for its receipt, and all else has none
abbrev pub IsWaitOf : {A : Type 0} → Bool → Result A Status → List Entry → ℕ → PendingWait CommitPlace → Type 0
IsWaitOf waits answer history place Nothing = IsTrue waits → OnOk answer ⊥
IsWaitOf waits answer history place (Wait receipt) = IsTrue waits × IsReceiptOf history place receipt

-- The operation is committed, and answered. Its wait is still pending
pub record IsCommittedBy {A : Type 0} (version : FormatVersion) (waits : Bool) (case : Files → Result A Status → Files → Type 0) (old new : SessionState) (done : Committed A CommitPlace) : Type 0 where
  pub place : ℕ
  pub made : IsMadeAt version case old new done.answer place
  -- the session has no other commits
  pub exact : IsExact new
  pub wait : IsWaitOf waits done.answer new.seen place done.wait

-- The result of an operation that is not waited for. If it is refused, it was not done
abbrev pub IsAnsweredNoWait : {A : Type 0} → FormatVersion → Bool → (Files → Result A Status → Files → Type 0) → SessionState → SessionState → Result (Committed A CommitPlace) (Refusal CauseState) → Type 0
IsAnsweredNoWait version waits case old new (Ok done) = IsCommittedBy version waits case old new done
IsAnsweredNoWait version waits case old new (Err why) = OnlyExtends old new

-- a mark covers what was owed
abbrev pub IsWaitOver : PendingWait CommitPlace → SessionState → Type 0
IsWaitOver Nothing s = Unit {0}
IsWaitOver (Wait receipt) s = receipt.count ≤ floor s.seen

-- something is owed
abbrev pub IsWait : PendingWait CommitPlace → Type 0
IsWait Nothing = ⊥
IsWait (Wait receipt) = Unit {0}

-- the pending wait of a commit, by whether it waits
abbrev pub pending_wait_for : {P : Type 0} → Bool → P → PendingWait P
pending_wait_for true receipt = Wait receipt
pending_wait_for false receipt = Nothing

-- The transaction was committed, and its receipt is to be waited for where it waits
pub record Ends (version : FormatVersion) (layout : Shape) (t : TxnState) (waits : Bool) (old new : SessionState) (wait : PendingWait CommitPlace) : Type 0 where
  pub receipt : CommitPlace
  pub committed : IsCommitted (HasSoundFiles version) layout t.began (core_of t) old new receipt
  pub owes : wait ≡ pending_wait_for waits receipt
