-- The steps of the core: their effects, and why they are refused.
use Rattle.std.specs.Prelude.{ℕ, ◌≡◌, ◌⊎◌, ◌<◌, ◌≤◌, ◌+◌, ◌++◌, ◌∷◌, [], IsTrue, true, false}
use Rattle.journal_world.specs.declared.address.Addr.{Addr}
use Rattle.journal_world.specs.declared.refusal.Refusal.{Refusal}
use Rattle.journal_world.specs.declared.refusal.Refusal.TheVariants.{NoMemory, BadAddress, DeviceFailed, Stale, Closed}
use Rattle.journal_world.specs.Addresses.{is_valid, Shape}
use Rattle.journal_disk.specs.Disks.{HasFailed}
use Rattle.journal_world.specs.Histories.{count, floor, commits_of, is_fenced}
use Rattle.journal_world.specs.Histories.Entry.{stable}
use Rattle.journal_wal.specs.Wal.{log_steps, install_steps, free_positions, with_room, TriesDueCall, TriesAhead, log_call, EndsGroup, LogsOn, InstallAnswers as WalInstalls}
use Rattle.journal_wal.specs.Groups.{FitsGroup, TakesGroup}
use Rattle.journal_objlog.specs.ObjectLogs.{KeepsMaps}
use Rattle.journal_history.specs.Tokens.{SessionState}
use Rattle.journal_wal.specs.declared.step.InstallStep.{InstallStep}
use Rattle.journal_parts.specs.declared.step.LogStep.{LogStep}
use Rattle.journal_parts.specs.declared.step.LogStep.TheVariants.{Idle, Cut, Put, Logged, Marked}
use Rattle.journal_memory.specs.declared.refusal_number.RefusalNumber.TheVariants.{J6, J13}
use Rattle.journal_memory.specs.Causes.{CauseState, IsUnexplained}
use Rattle.journal_memory.specs.Transactions.{TransactionState}
use Rattle.journal_memory.specs.Ledgers.{IsBehind, IsNumberRefusal, IsStaleRefusal, IsMarkRefusal}
use Rattle.journal_memory.specs.Outsets.{IsEndRefusal as IsEndOf, MayRead as MayReadFrom}
use Rattle.journal_parts.specs.CoreStates.{CoreState, is_faulted, IsRunning, disk_of, Crashes, tail_length, start_of, end_of, with_wal}
use Rattle.journal_parts.specs.CoreParts.{outset}

-- The logger

-- A step of the group in flight was made, and its cycle goes on
pub record GoesOnLogging (old new : CoreState) : Type 0 where
  pub group : LogsOn old.objects.wal new.objects.wal
  pub others : new ≡ with_wal old new.objects.wal

-- The cycle of the group in flight ended
pub record EndsCycle (old new : CoreState) : Type 0 where
  pub group : EndsGroup old.objects.wal new.objects.wal
  pub others : new ≡ record (with_wal old new.objects.wal) { logged = old.cut }

-- The last group is marked, and the log has a place for the tail
pub record HasTailRoom (c : CoreState) : Type 0 where
  pub marked : c.cut ≤ floor c.history
  pub fits : FitsGroup c.objects.wal (tail_length c.objects)

-- The tail was cut into a group, once the last one was marked
pub record CutsGroup (old new : CoreState) : Type 0 where
  pub place : HasTailRoom old
  pub group : TakesGroup old.objects.wal old.objects.tail new.objects.wal
  pub others : new ≡ record old { objects = record { wal = new.objects.wal; tail = [] }; cut = count old.history }

-- It was marked that n commits are stable, as they may be, and nothing else
pub record Marks (n : ℕ) (old new : CoreState) : Type 0 where
  pub rises : floor old.history ≤ n
  pub made : n ≤ count old.history
  pub marked : new ≡ record old { history = old.history ++ stable n ∷ []; cut = n; logged = n }

-- A group whose cycle ended is not marked yet
abbrev pub HasLogged : CoreState → Type 0
HasLogged c = floor c.history < c.cut

-- Nothing awaits logging, and not all commits are marked: the others wrote nothing
pub record HasUnmarked (c : CoreState) : Type 0 where
  pub marked : c.cut ≤ floor c.history
  pub tail : tail_length c.objects ≡ 0
  pub more : floor c.history < count c.history

-- The logger has nothing to do: no group is in flight or unmarked, the tail is empty and all
-- commits are marked, or the tail has no place in the log
pub record IsLogIdle (c : CoreState) : Type 0 where
  pub steps : log_steps c.objects.wal ≡ 0
  pub marked : c.cut ≤ floor c.history
  pub tail : ((tail_length c.objects ≡ 0) × (count c.history ≤ floor c.history)) ⊎ (free_positions c.objects.wal < tail_length c.objects)

-- n commits were marked: those of the group whose cycle ended, or where nothing awaits logging all
pub record MarksDue (n : ℕ) (old new : CoreState) : Type 0 where
  pub steps : log_steps old.objects.wal ≡ 0
  pub marks : Marks n old new
  pub due : ((n ≡ old.cut) × HasLogged old) ⊎ ((n ≡ count old.history) × HasUnmarked old)

-- The answers of a step of the logger, and their effects
abbrev pub LogAnswers : CoreState → LogStep → CoreState → Type 0
LogAnswers old Idle new = IsLogIdle old × (new ≡ old)
LogAnswers old Cut new = CutsGroup old new
LogAnswers old Put new = GoesOnLogging old new
LogAnswers old Logged new = EndsCycle old new
LogAnswers old (Marked n) new = MarksDue n old new

-- Why steps are refused

-- J13: it was stopped, and is left as it is
pub record IsStopped (old new : CoreState) (cause : CauseState) : Type 0 where
  pub unexplained : IsUnexplained J13 cause
  pub closed : old.closed ≡ true
  pub same : new ≡ old

-- J6: it was not stopped, and the device failed before, or the step came so far and the device
-- failed in it
pub record IsDeviceRefusal (reached : Type 0) (old new : CoreState) (cause : CauseState) : Type 0 where
  pub unexplained : IsUnexplained J6 cause
  pub not_closed : old.closed ≡ false
  pub fault : IsTrue (is_faulted old) ⊎ (reached × HasFailed (disk_of old) (disk_of new))
  pub faulted : is_faulted new ≡ true
  pub others : new ≡ record old { objects = new.objects }

-- the log on the disk has other room in memory, and nothing else changed
abbrev pub IsRoomed : CoreState → CoreState → Type 0
IsRoomed old new = new ≡ with_wal old (with_room old.objects.wal new.objects.wal.log.room)

-- A refused step of the logger or of the installer leaves the maps and the log in memory as they
-- were, but for its room
pub record LeavesLog (old new : CoreState) : Type 0 where
  pub log : new.objects.wal.log ≡ record old.objects.wal.log { room = new.objects.wal.log.room }
  pub maps : IsTrue (disk_of old).honest → KeepsMaps old.objects.wal new.objects.wal
  pub others : new ≡ with_wal old new.objects.wal

-- It made no device call, or tried the one of the logger that is due
abbrev pub TriesToLog : CoreState → CoreState → Type 0
TriesToLog old new = (new ≡ old) ⊎ TriesDueCall (log_call old.objects.wal) (disk_of old) (disk_of new)

-- It made none, or tried the one that the installer has ahead
abbrev pub TriesToInstall : CoreState → CoreState → Type 0
TriesToInstall old new = TriesAhead old.objects.wal new.objects.wal

-- why a step of the logger is refused, and what is left: a mark is, the device failed, or memory
-- for a group is refused
abbrev pub IsLogRefusal : CoreState → CoreState → Refusal CauseState → Type 0
IsLogRefusal old new (Closed cause) = IsStopped old new cause
IsLogRefusal old new (DeviceFailed cause) = IsDeviceRefusal (Unit {0}) old new cause
IsLogRefusal old new NoMemory = IsRunning old × HasTailRoom old × IsRoomed old new
IsLogRefusal old new refusal =
    IsRunning old × (log_steps old.objects.wal ≡ 0) × (HasLogged old ⊎ HasUnmarked old) × IsMarkRefusal old.history refusal × (new ≡ old)

-- the answers of a step of the installer, and their effects
abbrev pub InstallAnswers : CoreState → InstallStep → CoreState → Type 0
InstallAnswers old step new = WalInstalls old.objects.wal step new.objects.wal × (new ≡ with_wal old new.objects.wal)

-- why the installer's step is refused: J13, J6, or J1 where it plans
abbrev pub IsInstallRefusal : CoreState → CoreState → Refusal CauseState → Type 0
IsInstallRefusal old new (Closed cause) = IsStopped old new cause
IsInstallRefusal old new NoMemory =
    IsRunning old × (install_steps old.objects.wal ≡ 0) × (start_of old.objects < end_of old.objects) × (new ≡ old)
IsInstallRefusal old new (DeviceFailed cause) = IsDeviceRefusal (Unit {0}) old new cause
IsInstallRefusal old new other = ⊥

-- why blocks are not fetched: the device failed
abbrev pub IsFetchRefusal : CoreState → CoreState → Refusal CauseState → Type 0
IsFetchRefusal old new (DeviceFailed cause) = IsDeviceRefusal (Unit {0}) old new cause
IsFetchRefusal old new other = ⊥

-- Nothing but memory and the device can refuse the read
abbrev pub MayRead : Shape → CoreState → TransactionState → Addr → Type 0
MayRead layout c t a = MayReadFrom layout (outset c) t a

-- why an object is not read: the first of these that holds, then a new J6
abbrev pub IsReadRefusal : Shape → CoreState → TransactionState → Addr → CoreState → Refusal CauseState → Type 0
IsReadRefusal layout old t addr new (Closed cause) = IsStopped old new cause
IsReadRefusal layout old t addr new (DeviceFailed cause) = IsDeviceRefusal (MayRead layout old t addr) old new cause
IsReadRefusal layout old t addr new BadAddress = IsRunning old × (is_valid layout addr ≡ false)
IsReadRefusal layout old t addr new (Stale cause) =
    IsRunning old × IsTrue (is_valid layout addr) × IsBehind old.history t cause × (new ≡ old)
IsReadRefusal layout old t addr new other = ⊥

-- A session of a number that no session had before, and that the history has no commit and no fence
-- of. It has seen the whole history
pub record BeginsSession (old : CoreState) (session : SessionState) (new : CoreState) : Type 0 where
  pub is : session ≡ record { number = old.next; mine = old.history; seen = old.history }
  pub fresh : commits_of old.next old.history ≡ []
  pub unfenced : is_fenced old.next old.history ≡ false
  pub others : new ≡ record old { next = old.next + 1 }

-- why there is no further session
abbrev pub IsSessionRefusal : CoreState → Refusal CauseState → Type 0
IsSessionRefusal c why = IsNumberRefusal c.next why

-- It was stopped, and nothing else was done
pub record Stops (old new : CoreState) : Type 0 where
  pub closed : new ≡ record old { closed = true }
  pub crash : Crashes old new

-- why it goes on no more: it was stopped, or a device call failed before
abbrev pub IsEndRefusal : CoreState → Refusal CauseState → Type 0
IsEndRefusal c why = IsEndOf (outset c) why

-- why a session is not shown the history
abbrev pub IsShowRefusal : CoreState → Refusal CauseState → Type 0
IsShowRefusal c why = IsStaleRefusal c.history why
