-- A commit, and why one is refused.
use Rattle.std.specs.Prelude.{ℕ, ◌≡◌, ◌+◌, max, List, length}
use Rattle.journal_world.specs.declared.refusal.Refusal.{Refusal}
use Rattle.journal_world.specs.declared.refusal.Refusal.TheVariants.{DeviceFailed, Closed}
use Rattle.journal_world.specs.Maps.{Pair}
use Rattle.journal_block.specs.declared.update.Update.{Update}
use Rattle.journal_block.specs.Updates.{updates_block}
use Rattle.journal_memlog.specs.Logs.{absorbed}
use Rattle.journal_objlog.specs.ObjectLogs.{OnlyReads as OnlyReadsLog}
use Rattle.journal_tail.specs.Writes.{writes_block, written_blocks}
use Rattle.journal_history.specs.Tokens.{SessionState, next_transaction as numbered, Commits}
use Rattle.journal_memory.specs.Causes.{CauseState}
use Rattle.journal_memory.specs.Transactions.{TransactionState}
use Rattle.journal_memory.specs.Outsets.{CanCommit as CanCommitFrom, IsCommitRefusal as IsRefusedFrom}
use Rattle.journal_parts.specs.CoreStates.{CoreState, ObjectsState}
use Rattle.journal_parts.specs.CoreParts.{outset}
use Rattle.journal_core.specs.Steps.{IsStopped, IsDeviceRefusal}

-- The disk was only read, and one update of each block that is written was appended to the tail,
-- and no other
pub record AppendsWrites (old new : ObjectsState) (writes : List Pair) : Type 0 where
  pub updates : List Update
  pub named : (b : ℕ) → updates_block updates b ≡ writes_block writes b
  pub number : length updates ≡ written_blocks writes
  pub reads : OnlyReadsLog old.wal new.wal
  pub appends : new.tail ≡ absorbed old.tail updates

-- The session's transaction was committed, and nothing else was done
pub record IsCommitted (reads writes : List Pair) (session after : SessionState) (old new : CoreState) : Type 0 where
  pub committed : Commits (numbered session reads writes) session after old.history new.history
  pub logs : AppendsWrites old.objects new.objects writes
  pub others : new ≡ record old { objects = new.objects; history = new.history; next = max old.next (session.number + 1) }

-- Nothing but memory and the device can refuse the commit
abbrev pub CanCommit : CoreState → SessionState → TransactionState → Type 0
CanCommit c s t = CanCommitFrom (outset c) s t

-- Why a commit is refused: the first of these that holds, then J1 or a new J6
abbrev pub IsCommitRefusal : CoreState → SessionState → TransactionState → CoreState → Refusal CauseState → Type 0
IsCommitRefusal old s t new (Closed cause) = IsStopped old new cause
IsCommitRefusal old s t new (DeviceFailed cause) = IsDeviceRefusal (CanCommit old s t) old new cause
IsCommitRefusal old s t new other = IsRefusedFrom (outset old) s t other
