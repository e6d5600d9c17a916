-- A write-ahead log as contracts see it: the blocks now, those that a crash may leave, and the next
-- steps.
use Rattle.std.specs.Prelude.{ℕ, zero, suc, Bool, ◌≡◌, ◌⊎◌, ◌<◌, ◌≤◌, ◌+◌, ◌-◌, ◌^◌, true, false, IsTrue, if◌then◌else◌, List, [], ◌∷◌, length, take, slice_index_or, Option, Some, None}
use Rattle.std.specs.List.{slice_get}
use Rattle.std.specs.List.Sorted.{IsStrictlySortedBy}
use Rattle.std.specs.Map.{lookup, keys_of}
use Rattle.std.specs.BTreeMap.{is_at}
use Rattle.std.specs.Ordering.{nat_cmp}
use Rattle.journal_world.specs.declared.refusal.Refusal.{Refusal}
use Rattle.journal_world.specs.declared.refusal.Refusal.TheVariants.{NoMemory, DeviceFailed}
use Rattle.journal_block.specs.declared.update.Update.{Update}
use Rattle.journal_block.specs.Block.{Bytes}
use Rattle.journal_block.specs.Updates.{Content, updated, with_updates, updates_block}
use Rattle.journal_disk.specs.Disks.{DiskEvent, write, barrier, DiskState, Keeps, HasFailed}
use Rattle.journal_disk.specs.Images.{EveryImage}
use Rattle.journal_disk.specs.Moments.{LeavesOnly}
use Rattle.journal_circ.specs.StandsFor.{StandsFor}
use Rattle.journal_circ.specs.Log.{log_block, with_end, with_group, start_block, start_in, end_in}
use Rattle.journal_circ.specs.Ring.{Ring, home_of, bytes_put, KeepsLabel, MakesCall, TriesCall}
use Rattle.journal_memlog.specs.Logs.{LogState, next_position, tail_of, trimmed}
use Rattle.journal_world.specs.declared.layout.TheConstants.{LOG_POSITIONS}
use Rattle.journal_wal.specs.declared.step.GroupStep.{GroupStep}
use Rattle.journal_wal.specs.declared.step.GroupStep.TheVariants.{Idle, Put, Logged}
use Rattle.journal_wal.specs.declared.step.InstallStep.{InstallStep}
use Rattle.journal_wal.specs.declared.step.InstallStep.TheVariants.{Idle as InstallIdle, Put as InstallPut, Freed}
use Rattle.journal_tail.specs.Homes.{SameBlocks}

-- The logger's next step
pub data Logging : Type 0 where
  -- the next log block of the group, if one is left, else of a plain log a barrier, of a sealed one
  -- block 0; nothing where no group is in flight
  log_blocks : Logging
  -- all log blocks of a plain log are stable: block 0
  log_end : Logging
  -- block 0 was written: a barrier
  log_sync : Logging
  -- a device call failed: nothing more
  log_spent : Logging

-- The installer's next step
pub data Installing : Type 0 where
  -- nothing is being installed
  install_none : Installing
  -- the next of the home blocks, each with the position of its last log block below `upto`; where
  -- none is left, a barrier
  install_homes : (upto : ℕ) (plan : List (ℕ × ℕ)) → Installing
  -- all home blocks are stable: block 1
  install_start : (upto : ℕ) → Installing
  -- block 1 was written: a barrier
  install_sync : (upto : ℕ) → Installing
  -- a device call failed: nothing more
  install_spent : Installing

pub record WalState : Type 0 where
  -- the log on the disk
  pub ring : Ring
  -- the log in memory
  pub log : LogState
  pub logging : Logging
  pub installing : Installing

-- the number of blocks
abbrev pub size_of : WalState → ℕ
size_of w = w.ring.disk.past.size

-- the blocks with the updates up to a position
abbrev pub blocks_at : WalState → ℕ → Content
blocks_at w to = with_updates (home_of w.ring) (take (to - w.log.start) w.log.updates)

-- the blocks with all updates
abbrev pub blocks_now : WalState → Content
blocks_now w = with_updates (home_of w.ring) w.log.updates

-- the blocks at the last cut
abbrev pub blocks_cut : WalState → Content
blocks_cut w = blocks_at w w.log.cut

-- the blocks at the cut of the last group whose cycle ended
abbrev pub blocks_logged : WalState → Content
blocks_logged w = blocks_at w w.log.logged

-- The image stands for the blocks of the last group whose cycle ended, or for those of the last cut
abbrev pub MayStandFor : WalState → List Bytes → Type 0
MayStandFor w image = StandsFor (size_of w) (blocks_logged w) image ⊎ StandsFor (size_of w) (blocks_cut w) image

-- Blocks now, at the last cut, and at that of the last group whose cycle ended, are as before
pub record KeepsBlocks (old new : WalState) : Type 0 where
  pub now : SameBlocks (size_of old) (blocks_now new) (blocks_now old)
  pub cut : SameBlocks (size_of old) (blocks_cut new) (blocks_cut old)
  pub logged : SameBlocks (size_of old) (blocks_logged new) (blocks_logged old)

-- how many blocks the tail has
abbrev pub tail_length : WalState → ℕ
tail_length w = length (tail_of w.log)

-- how many positions of the log on the disk are free
abbrev pub free_positions : WalState → ℕ
free_positions w = LOG_POSITIONS - (w.log.logged - w.log.start)

-- the number of barriers between a group's log blocks and block 0: that of a plain log
abbrev pub barriers_before : Bool → ℕ
barriers_before sealed = if sealed then 0 else 1

-- How many steps the group in flight still takes: one a log block, of a plain log a barrier, block
-- 0, a barrier
abbrev pub log_steps_by : Bool → Logging → ℕ → ℕ → ℕ
log_steps_by sealed log_blocks zero left = 0
log_steps_by sealed log_blocks (suc group) left = left + barriers_before sealed + 2
log_steps_by sealed log_end group left = 2
log_steps_by sealed log_sync group left = 1
log_steps_by sealed log_spent group left = 0

abbrev pub log_steps : WalState → ℕ
log_steps w = log_steps_by w.ring.sealed w.logging (w.log.cut - w.log.logged) (w.log.cut - w.ring.next)

-- How many steps the installing still takes: one a home block, a barrier, block 1, a barrier
abbrev pub install_steps_by : Installing → ℕ
install_steps_by install_none = 0
install_steps_by (install_homes upto plan) = length plan + 3
install_steps_by (install_start upto) = 2
install_steps_by (install_sync upto) = 1
install_steps_by install_spent = 0

abbrev pub install_steps : WalState → ℕ
install_steps w = install_steps_by w.installing

-- the bytes that the log in memory has at a position
abbrev pub bytes_at : LogState → ℕ → Bytes
bytes_at log q = (slice_index_or log.updates (q - log.start) (record { block = 0; bytes = [] })).bytes

-- the device call once each log block is put: of a plain log a barrier, of a sealed one block 0
-- with the group
abbrev pub call_after_blocks : Ring → LogState → DiskEvent
call_after_blocks ring log = if ring.sealed then write 0 (with_group ring.header log.logged (log.cut - log.logged)) else barrier

-- The logger's next device call, where a group is in flight: each of its log blocks; of a plain log
-- a barrier, block 0 with the end, a barrier; of a sealed log block 0 with the group, a barrier
abbrev pub log_call_by : Logging → ℕ → ℕ → (put after : DiskEvent) → Bytes → Option DiskEvent
log_call_by log_blocks zero left put after header = None
log_call_by log_blocks (suc group) zero put after header = Some after
log_call_by log_blocks (suc group) (suc left) put after header = Some put
log_call_by log_end group left put after header = Some (write 0 header)
log_call_by log_sync group left put after header = Some barrier
log_call_by log_spent group left put after header = None

-- the logger's next device call, if one is due: a log block of the group in flight, of a plain log
-- a barrier, block 0, a barrier
abbrev pub log_call : WalState → Option DiskEvent
log_call w = log_call_by w.logging (w.log.cut - w.log.logged) (w.log.cut - w.ring.next)
    (write (log_block w.ring.next) (bytes_put w.ring (bytes_at w.log w.ring.next))) (call_after_blocks w.ring w.log) (with_end w.ring.header w.log.cut)

-- The installer's next device call, where it has begun: each home block of its plan, a barrier,
-- block 1 with the start and the label, a barrier
abbrev pub install_call : (label : Bytes) → LogState → Installing → Option DiskEvent
install_call label log install_none = None
install_call label log (install_homes upto []) = Some barrier
install_call label log (install_homes upto (home ∷ plan)) = Some (write home.0 (bytes_at log home.1))
install_call label log (install_start upto) = Some (write 1 (start_block label upto))
install_call label log (install_sync upto) = Some barrier
install_call label log install_spent = None

-- its next step once that one is done
abbrev pub after_call : Installing → Installing
after_call install_none = install_none
after_call (install_homes upto []) = install_start upto
after_call (install_homes upto (home ∷ plan)) = install_homes upto plan
after_call (install_start upto) = install_sync upto
after_call (install_sync upto) = install_none
after_call install_spent = install_spent

-- The device call was made where one was due, and nothing else happened to the disk
abbrev pub MakesDueCall : Option DiskEvent → DiskState → DiskState → Type 0
MakesDueCall None old new = IsTrue old.honest → new.past ≡ old.past
MakesDueCall (Some event) old new = MakesCall event old new

-- It was tried, and may have happened
abbrev pub TriesDueCall : Option DiskEvent → DiskState → DiskState → Type 0
TriesDueCall None old new = IsTrue old.honest → new.past ≡ old.past
TriesDueCall (Some event) old new = TriesCall event old new

-- the log with other room in memory
abbrev pub with_room : WalState → ℕ → WalState
with_room w room = record w { log = record w.log { room = room } }

-- The clause of each call on the disk: at every moment of it each image is one that a crash might
-- have left before, with the label, and at its end one that a crash may leave now
pub record Crashes (old new : WalState) : Type 0 where
  pub keeps : Keeps old.ring.disk new.ring.disk
  pub moments : IsTrue old.ring.disk.honest → LeavesOnly old.ring.disk.past new.ring.disk.past (MayStandFor old)
  pub label : KeepsLabel old.ring new.ring
  pub images : IsTrue new.ring.disk.honest → EveryImage new.ring.disk.past (MayStandFor new)

-- The disk was read, with or without a fault: all else is as before, and it is faulted only where
-- it was or the device failed
pub record OnlyReads (old new : WalState) : Type 0 where
  pub same : new ≡ record old { ring = record old.ring { disk = new.ring.disk; faulted = new.ring.faulted } }
  pub keeps : Keeps old.ring.disk new.ring.disk
  pub past : IsTrue old.ring.disk.honest → new.ring.disk.past ≡ old.ring.disk.past
  pub fault : IsTrue new.ring.faulted → IsTrue old.ring.faulted ⊎ HasFailed old.ring.disk new.ring.disk
  -- a fault lasts
  pub stays : IsTrue old.ring.faulted → IsTrue new.ring.faulted

-- A device call failed
pub record Fails (old new : WalState) : Type 0 where
  pub faulted : new.ring.faulted ≡ true
  pub log : new.log ≡ old.log
  pub blocks : IsTrue old.ring.disk.honest → KeepsBlocks old new

-- A step of the group in flight was made, and its cycle goes on
pub record LogsOn (old new : WalState) : Type 0 where
  pub steps : log_steps new + 1 ≡ log_steps old
  pub left : 0 < log_steps new
  pub log : new.log ≡ old.log
  pub blocks : IsTrue old.ring.disk.honest → KeepsBlocks old new
  pub call : MakesDueCall (log_call old) old.ring.disk new.ring.disk
  pub installing : new.installing ≡ old.installing

-- The cycle of the group in flight ended
pub record EndsGroup (old new : WalState) : Type 0 where
  pub last : log_steps old ≡ 1
  pub steps : log_steps new ≡ 0
  pub end : new.log ≡ record old.log { logged = old.log.cut }
  pub now : IsTrue old.ring.disk.honest → SameBlocks (size_of old) (blocks_now new) (blocks_now old)
  pub cut : IsTrue old.ring.disk.honest → SameBlocks (size_of old) (blocks_cut new) (blocks_cut old)
  pub logged : IsTrue old.ring.disk.honest → SameBlocks (size_of old) (blocks_logged new) (blocks_cut old)
  pub call : MakesDueCall (log_call old) old.ring.disk new.ring.disk
  pub installing : new.installing ≡ old.installing

-- The logger has nothing to do: no group is in flight, and no update waits for one
pub record IsLogIdle (w : WalState) : Type 0 where
  pub steps : log_steps w ≡ 0
  pub tail : tail_length w ≡ 0

-- the answers of a step of the logger, and their effects
abbrev pub LogAnswers : WalState → GroupStep → WalState → Type 0
LogAnswers old Idle new = IsLogIdle old × (new ≡ old)
LogAnswers old Put new = LogsOn old new
LogAnswers old Logged new = EndsGroup old new

-- how many distinct blocks the updates are of
abbrev pub distinct_blocks : List Update → ℕ
distinct_blocks [] = 0
distinct_blocks (u ∷ later) = (if updates_block later u.block then 0 else 1) + distinct_blocks later

-- the log positions that the installer may free: those that are logged
abbrev pub logged_updates : WalState → List Update
logged_updates w = take (w.log.logged - w.log.start) w.log.updates

-- the position that a plan has for a block
abbrev pub planned : List (ℕ × ℕ) → ℕ → Option ℕ
planned plan b = lookup (is_at (nat_cmp b)) plan

-- Of the updates, the first of which is at position `start`, that at position q is the last of
-- block b
pub record IsLast (updates : List Update) (start b q : ℕ) : Type 0 where
  pub above : start ≤ q
  pub below : q < start + length updates
  pub named : updates_block updates b ≡ true
  pub here : (u : Update) → slice_get updates (q - start) ≡ Some u → (u.block ≡ b) × ((x : Bytes) → updated updates b x ≡ u.bytes)

-- The plan has each block of the updates, with the position of its last one, blocks ascending
pub record IsPlanOf (updates : List Update) (start : ℕ) (plan : List (ℕ × ℕ)) : Type 0 where
  pub last : (b q : ℕ) → planned plan b ≡ Some q → IsLast updates start b q
  pub none : (b : ℕ) → planned plan b ≡ None → updates_block updates b ≡ false
  pub ascending : IsStrictlySortedBy nat_cmp (keys_of plan)

-- The installer's work ahead: the steps that it has begun, or if it has begun none a plan of all
-- that is logged
pub record IsAhead (w : WalState) (ahead : Installing) : Type 0 where
  pub begins : install_steps w ≡ 0
      → (plan : List (ℕ × ℕ)) × (IsPlanOf (logged_updates w) w.log.start plan × (ahead ≡ install_homes w.log.logged plan))
  pub goes_on : 0 < install_steps w → ahead ≡ w.installing

-- Installing begins: the first home block of those that are logged
pub record BeginsInstall (old new : WalState) : Type 0 where
  pub some : old.log.start < old.log.logged
  pub steps : install_steps new + 1 ≡ distinct_blocks (logged_updates old) + 3
  pub log : new.log ≡ old.log

-- A further step of the installer was made
pub record InstallsOn (old new : WalState) : Type 0 where
  pub steps : install_steps new + 1 ≡ install_steps old
  pub log : new.log ≡ old.log

-- The positions up to the one that was planned are free
pub record Frees (old new : WalState) : Type 0 where
  pub steps : install_steps new ≡ 0
  pub upto : ℕ
  pub upto_is : old.installing ≡ install_sync upto
  pub above : old.log.start ≤ upto
  pub below : upto ≤ old.log.logged
  pub log : new.log ≡ trimmed old.log upto

-- The effect of a step of the installer that moves, where this many steps are left
abbrev pub InstallMoves : ℕ → WalState → WalState → Type 0
InstallMoves zero old new = BeginsInstall old new
InstallMoves (suc zero) old new = Frees old new
InstallMoves (suc (suc left)) old new = InstallsOn old new

-- The installer has nothing to do: nothing is logged that is not at home
pub record IsInstallIdle (w : WalState) : Type 0 where
  pub steps : install_steps w ≡ 0
  pub empty : w.log.start ≡ w.log.logged

-- A step of the installer that moved makes the call that it has ahead, changes no block, and leaves
-- the group in flight
pub record Installs (old new : WalState) : Type 0 where
  pub ahead : Installing
  pub is_ahead : IsAhead old ahead
  pub call : MakesDueCall (install_call old.ring.label old.log ahead) old.ring.disk new.ring.disk
  pub next : new.installing ≡ after_call ahead
  pub blocks : IsTrue old.ring.disk.honest → KeepsBlocks old new
  pub logging : log_steps new ≡ log_steps old
  pub moves : InstallMoves (install_steps old) old new

-- A step of the installer that was refused made no device call, or tried the one that it had ahead
abbrev pub TriesAhead : WalState → WalState → Type 0
TriesAhead old new =
    (new ≡ old) ⊎ ((ahead : Installing) × (IsAhead old ahead × TriesDueCall (install_call old.ring.label old.log ahead) old.ring.disk new.ring.disk))

-- The blocks to be installed are planned, where nothing is being installed
pub record Plans (old new : WalState) : Type 0 where
  pub same : new ≡ record old { installing = new.installing }
  pub some : 0 < install_steps new
  pub begun : install_steps old ≡ 0 → (old.log.start < old.log.logged) × (install_steps new ≡ distinct_blocks (logged_updates old) + 3)
  pub ahead : IsAhead old new.installing
  pub stays : 0 < install_steps old → new ≡ old

-- why a step of the installer is refused, and what is left
abbrev pub IsInstallRefusal : WalState → WalState → Refusal Unit → Type 0
IsInstallRefusal old new NoMemory =
    (install_steps old ≡ 0) × (new ≡ old) × (old.ring.faulted ≡ false) × (old.log.start < old.log.logged)
IsInstallRefusal old new (DeviceFailed cause) = (IsTrue old.ring.faulted ⊎ HasFailed old.ring.disk new.ring.disk) × Fails old new
IsInstallRefusal old new other = ⊥

-- the answers of a step of the installer, and their effects
abbrev pub InstallAnswers : WalState → InstallStep → WalState → Type 0
InstallAnswers old InstallIdle new = IsInstallIdle old × (new ≡ old)
InstallAnswers old InstallPut new = Installs old new × (0 < install_steps new)
InstallAnswers old (Freed upto) new = Installs old new × (old.installing ≡ install_sync upto)

-- The log begins and ends where an image of the disk says
pub record HasBoundsIn (image : List Bytes) (w : WalState) : Type 0 where
  pub start : w.log.start ≡ start_in image
  pub end : w.log.logged ≡ end_in image

-- Nothing is in flight, the tail is empty, and no device call failed: the next position is the one
-- after the last cut, and below 2^62
pub record IsAtRest (w : WalState) : Type 0 where
  pub fine : w.ring.faulted ≡ false
  pub logging : log_steps w ≡ 0
  pub installing : install_steps w ≡ 0
  pub tail : tail_length w ≡ 0
  pub cut : w.log.logged ≡ w.log.cut
  pub next : next_position w.log ≡ w.log.cut
  pub small : next_position w.log < 2 ^ 62
