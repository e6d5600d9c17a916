-- What contracts see of a core.
use Rattle.std.specs.Prelude.{ℕ, ◌≡◌, ◌+◌, Bool, false, IsTrue, List, length}
use Rattle.journal_world.specs.Histories.{Entry}
use Rattle.journal_block.specs.declared.update.Update.{Update}
use Rattle.journal_disk.specs.Disks.{DiskState, Keeps}
use Rattle.journal_disk.specs.Images.{EveryImage}
use Rattle.journal_disk.specs.Moments.{LeavesOnly}
use Rattle.journal_memlog.specs.Logs.{next_position}
use Rattle.journal_wal.specs.Wal.{WalState}
use Rattle.journal_objlog.specs.ObjectLogs.{is_faulted as is_log_faulted, disk_of as log_disk, start_of as log_start, end_of as log_end, OnlyReads as OnlyReadsLog}
use Rattle.journal_parts.specs.Cores.{Leaves}

-- The map of objects, as it is kept: the log on the disk, and after it the blocks that commits
-- wrote since the last cut
pub record ObjectsState : Type 0 where
  pub wal : WalState
  pub tail : List Update

-- What contracts see of a core: the map of objects with its log, the history, the numbers of
-- commits at the last cut and at that of the last group whose cycle ended, the next session's
-- number, and the stop
pub record CoreState : Type 0 where
  -- the map of objects, and the log that it is kept in
  pub objects : ObjectsState
  -- all entries of the mount's history
  pub history : List Entry
  -- how many commits there were at the last cut, and at the cut of the last group whose cycle ended
  pub cut : ℕ
  pub logged : ℕ
  -- the number of the next session
  pub next : ℕ
  -- it was stopped, so that reads, commits, steps and waits are refused from then on
  pub closed : Bool

-- how many blocks the tail has
abbrev pub tail_length : ObjectsState → ℕ
tail_length o = length o.tail

-- where the log on the disk starts and ends, as last synced: positions
abbrev pub start_of : ObjectsState → ℕ
start_of o = log_start o.wal

abbrev pub end_of : ObjectsState → ℕ
end_of o = log_end o.wal

-- the position after the tail
abbrev pub next_of : ObjectsState → ℕ
next_of o = next_position o.wal.log + length o.tail

-- The disk was read, with or without a fault, and there may be other room in memory: all else is as
-- before
pub record OnlyReads (old new : ObjectsState) : Type 0 where
  pub wal : OnlyReadsLog old.wal new.wal
  pub tail : new.tail ≡ old.tail

-- the core with another log on the disk
abbrev pub with_wal : CoreState → WalState → CoreState
with_wal c wal = record c { objects = record c.objects { wal = wal } }

-- a device call failed, so that reads, commits and steps are refused until the disk is opened again
abbrev pub is_faulted : CoreState → Bool
is_faulted c = is_log_faulted c.objects.wal

-- it was not stopped, and no device call failed
abbrev pub IsRunning : CoreState → Type 0
IsRunning c = (c.closed ≡ false) × (is_faulted c ≡ false)

-- the disk that the core lies on
abbrev pub disk_of : CoreState → DiskState
disk_of c = log_disk c.objects.wal

-- What each step says of crashes: at every moment of it an image opens as the map after a front of
-- the history that there was, and at its end after one of the history that there is
pub record Crashes (old new : CoreState) : Type 0 where
  pub keeps : Keeps (disk_of old) (disk_of new)
  pub moments : IsTrue (disk_of old).honest → LeavesOnly (disk_of old).past (disk_of new).past (Leaves old.history)
  pub images : IsTrue (disk_of new).honest → EveryImage (disk_of new).past (Leaves new.history)
