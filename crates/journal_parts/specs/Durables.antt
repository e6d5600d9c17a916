-- The core's durable part as contracts see it, its own invariant, and the effects of its calls.
-- None of them needs the ledger.
use Rattle.std.specs.Prelude.{ℕ, ◌≡◌, ◌≢◌, ◌⊎◌, ◌<◌, ◌≤◌, ◌+◌, ◌^◌, Bool, true, false, IsTrue, List, []}
use Rattle.journal_world.specs.declared.refusal.Refusal.{Refusal}
use Rattle.journal_world.specs.declared.refusal.Refusal.TheVariants.{NoMemory, DeviceFailed, Worn}
use Rattle.journal_world.specs.Addresses.{Shape}
use Rattle.journal_world.specs.Maps.{Map, SameMap}
use Rattle.journal_world.specs.Histories.{Entry, opened, is_trusted, count, floor, at}
use Rattle.journal_block.specs.declared.update.Update.{Update}
use Rattle.journal_block.specs.Block.{Bytes}
use Rattle.journal_disk.specs.Disks.{DiskState, Keeps, HasFailed}
use Rattle.journal_disk.specs.Images.{EveryImage}
use Rattle.journal_disk.specs.Moments.{LeavesOnly}
use Rattle.journal_memlog.specs.Logs.{next_position}
use Rattle.journal_wal.specs.Wal.{WalState, size_of, log_steps, install_steps, tail_length, LogsOn, EndsGroup, InstallAnswers as WalInstalls}
use Rattle.journal_wal.specs.Groups.{FitsGroup, TakesGroup}
use Rattle.journal_wal.specs.declared.step.GroupStep.{GroupStep}
use Rattle.journal_wal.specs.declared.step.GroupStep.TheVariants.{Idle, Put, Logged}
use Rattle.journal_wal.specs.declared.step.InstallStep.{InstallStep}
use Rattle.journal_objlog.specs.Maps.{OpensAs}
use Rattle.journal_objlog.specs.ObjectLogs.{map_cut, map_logged, MayOpenAs, IsCutLogged, KeepsMaps, is_faulted as is_log_faulted, disk_of as log_disk, start_of, end_of}
use Rattle.journal_memory.specs.declared.refusal_number.RefusalNumber.TheVariants.{J6, J11}
use Rattle.journal_memory.specs.Causes.{CauseState, IsUnexplained}

-- The state of the durable part that contracts see
pub record DurableState : Type 0 where
  -- the log on the disk, with copies of the logged blocks and of the group in flight
  pub objects : WalState
  -- a front of the mount's history
  pub front : List Entry
  -- how many of its commits are marked, how many are logged, and how many with the group in flight
  pub marked : ℕ
  pub logged : ℕ
  pub coming : ℕ

-- a device call failed, so that each call that needs the device is refused until the disk is opened
-- again
abbrev pub is_faulted : DurableState → Bool
is_faulted d = is_log_faulted d.objects

-- the disk that it lies on
abbrev pub disk_of : DurableState → DiskState
disk_of d = log_disk d.objects

-- The image opens as the map after some of the front's commits: at least those that are marked, at
-- most those with the group in flight
pub record Leaves (d : DurableState) (image : List Bytes) : Type 0 where
  pub commits : ℕ
  pub marked : d.marked ≤ commits
  pub coming : commits ≤ d.coming
  pub map : Map
  pub opens : OpensAs map image
  pub same : SameMap map (at d.front commits)

-- The clause of each call on crashes: at every moment of it an image is one that might have been
-- left before, and at its end one that may be left now
pub record Crashes (old new : DurableState) : Type 0 where
  pub keeps : Keeps (disk_of old) (disk_of new)
  pub moments : IsTrue (disk_of old).honest → LeavesOnly (disk_of old).past (disk_of new).past (Leaves old)
  pub images : IsTrue (disk_of new).honest → EveryImage (disk_of new).past (Leaves new)

-- The logged map is the map after n commits, and with the group in flight it is that after m
pub record IsLoggedAt (layout : Shape) (objects : WalState) (front : List Entry) (n m : ℕ) : Type 0 where
  pub logged : SameMap (map_logged layout objects) (at front n)
  pub coming : SameMap (map_cut layout objects) (at front m)

-- Its own invariant, on a disk of a layout: no mark of the front is above `marked`, and
-- marked <= logged <= coming; the logged map is that after `logged` commits, and with the group in
-- flight that after `coming`. In `maps` the log is the one in memory, which between the write of
-- block 0 and its barrier is ahead of a crash; `images` says what a crash leaves
pub record IsDurable (layout : Shape) (d : DurableState) : Type 0 where
  pub size : size_of d.objects ≡ layout.blocks
  pub begun : d.front ≢ []
  pub on_disk : (opened d.front).layout ≡ layout
  pub trusted : is_trusted d.front ≡ (disk_of d).honest
  pub floored : floor d.front ≤ d.marked
  pub marked_to_logged : d.marked ≤ d.logged
  pub logged_to_coming : d.logged ≤ d.coming
  pub coming_to_count : d.coming ≤ count d.front
  -- the blocks that commits wrote come as a group, and never as a tail
  pub tail : tail_length d.objects ≡ 0
  pub ends : end_of d.objects ≤ d.objects.log.cut
  pub next : next_position d.objects.log ≡ d.objects.log.cut
  -- where no call is due, no group is in flight; and where none is, no more commits come
  pub idle : is_faulted d ≡ false → log_steps d.objects ≡ 0 → IsCutLogged d.objects
  pub rest : IsCutLogged d.objects → d.logged ≡ d.coming
  -- of the log in memory: while block 0 is written and its barrier is not made, a crash may leave
  -- the group in flight, which is not counted as logged yet
  pub maps : IsTrue (disk_of d).honest → IsLoggedAt layout d.objects d.front d.logged d.coming
  pub images : IsTrue (disk_of d).honest → EveryImage (disk_of d).past (MayOpenAs layout d.objects)

-- that of a mount that begins: no commit was made
abbrev pub begun_durable : WalState → List Entry → DurableState
begun_durable objects front = record { objects = objects; front = front; marked = 0; logged = 0; coming = 0 }

-- The effects of its calls

-- The effect of the logger's call: it made the device call of the group in flight that was due, or
-- none is in flight
abbrev pub LogAnswers : DurableState → GroupStep → DurableState → Type 0
LogAnswers old Idle new = (log_steps old.objects ≡ 0) × (new ≡ old)
LogAnswers old Put new = LogsOn old.objects new.objects × (new ≡ record old { objects = new.objects })
LogAnswers old Logged new = EndsGroup old.objects new.objects × (new ≡ record old { objects = new.objects; logged = old.coming })

-- the effect of the installer's call
abbrev pub InstallAnswers : DurableState → InstallStep → DurableState → Type 0
InstallAnswers old step new = WalInstalls old.objects step new.objects × (new ≡ record old { objects = new.objects })

-- A group was taken that was cut elsewhere, with the history that has its commits. All of them come
pub record TakesCut (front : List Entry) (group : List Update) (old new : DurableState) : Type 0 where
  pub taken : TakesGroup old.objects group new.objects
  pub others : new ≡ record old { objects = new.objects; front = front; coming = count front }

-- Why calls are refused

-- J6: the device failed before, or in this call
pub record IsFault (old new : DurableState) (cause : CauseState) : Type 0 where
  pub unexplained : IsUnexplained J6 cause
  pub fault : IsTrue (is_faulted old) ⊎ HasFailed (disk_of old) (disk_of new)
  pub faulted : is_faulted new ≡ true
  pub others : new ≡ record old { objects = new.objects }

-- why the logger's call is refused, and a fetch
abbrev pub IsCallRefusal : DurableState → DurableState → Refusal CauseState → Type 0
IsCallRefusal old new (DeviceFailed cause) = IsFault old new cause
IsCallRefusal old new other = ⊥

-- why the installer's call is refused
abbrev pub IsInstallRefusal : DurableState → DurableState → Refusal CauseState → Type 0
IsInstallRefusal old new NoMemory =
    (is_faulted old ≡ false) × (install_steps old.objects ≡ 0) × (start_of old.objects < end_of old.objects) × (new ≡ old)
IsInstallRefusal old new other = IsCallRefusal old new other

-- why room for a group of this many blocks is refused: the first of these that holds
abbrev pub IsRoomRefusal : DurableState → ℕ → Refusal CauseState → Type 0
IsRoomRefusal d blocks (DeviceFailed cause) = (is_faulted d ≡ true) × IsUnexplained J6 cause
IsRoomRefusal d blocks (Worn cause) =
    (is_faulted d ≡ false) × FitsGroup d.objects blocks × (2 ^ 62 ≤ next_position d.objects.log + blocks) × IsUnexplained J11 cause
IsRoomRefusal d blocks NoMemory =
    (is_faulted d ≡ false) × FitsGroup d.objects blocks × (next_position d.objects.log + blocks < 2 ^ 62)
IsRoomRefusal d blocks other = ⊥

-- A refused call leaves the log in memory and the maps
pub record LeavesLog (old new : DurableState) : Type 0 where
  pub log : new.objects.log ≡ old.objects.log
  pub maps : IsTrue (disk_of old).honest → KeepsMaps old.objects new.objects
