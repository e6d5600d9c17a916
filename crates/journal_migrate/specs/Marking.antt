-- The steps that make one commit stable.
use Rattle.std.specs.Prelude.{ℕ, ◌≡◌, ◌⊎◌, ◌<◌, ◌+◌, ◌^◌, ◌==◌, nat_lt, if◌then◌else◌, ◌++◌, ◌∷◌, [], length}
use Rattle.journal_world.specs.declared.refusal.Refusal.{Refusal}
use Rattle.journal_world.specs.declared.refusal.Refusal.TheVariants.{NoMemory, DeviceFailed, Stale}
use Rattle.journal_world.specs.Histories.{count, floor}
use Rattle.journal_world.specs.Histories.Entry.{stable}
use Rattle.journal_disk.specs.Disks.{HasFailed}
use Rattle.journal_wal.specs.Wal.{WalState, Installing, install_none, install_homes, install_start, install_sync, install_spent, log_steps, install_steps, free_positions, distinct_blocks, logged_updates}
use Rattle.journal_memory.specs.declared.refusal_number.RefusalNumber.TheVariants.{J6}
use Rattle.journal_memory.specs.Causes.{CauseState, IsUnexplained}
use Rattle.journal_memory.specs.Ledgers.{IsStale}
use Rattle.journal_parts.specs.CoreStates.{CoreState, IsRunning, disk_of, tail_length}

-- up to where is installed, or this where nothing is
abbrev pub upto_of : Installing → ℕ → ℕ
upto_of (install_homes upto plan) other = upto
upto_of (install_start upto) other = upto
upto_of (install_sync upto) other = upto
upto_of install_none other = other
upto_of install_spent other = other

-- How many steps of the installer are left until the log has a place for the tail, where it has
-- none
abbrev pub steps_to_place : WalState → ℕ → ℕ
steps_to_place w tail =
    if nat_lt (free_positions w) tail then
    (if install_steps w == 0 then distinct_blocks (logged_updates w) + 3 else install_steps w)
    else 0

-- and how many of both until the commit is marked, at most: that of the tail is cut, put on the
-- disk in four steps, and marked
abbrev pub steps_to_mark : CoreState → ℕ
steps_to_mark c =
    if tail_length c.objects == 0 then log_steps c.objects.wal + 1
    else 6 + steps_to_place c.objects.wal (tail_length c.objects)

-- The one block that it wrote is in the tail, and all that is logged is installed
pub record AwaitsCut (c : CoreState) : Type 0 where
  pub one : tail_length c.objects ≡ 1
  pub rest : log_steps c.objects.wal ≡ 0
  pub whole : upto_of c.objects.wal.installing c.objects.wal.log.logged ≡ c.objects.wal.log.logged

-- The history has just one commit that is not marked, and nothing else awaits logging
pub record AwaitsMark (c : CoreState) : Type 0 where
  pub running : IsRunning c
  pub one : count c.history ≡ floor c.history + 1
  pub short : length c.history + 1 < 2 ^ 62
  pub stage : (tail_length c.objects ≡ 0) ⊎ AwaitsCut c

-- The commit was marked
abbrev pub AddsMark : CoreState → CoreState → Type 0
AddsMark old new = new.history ≡ old.history ++ stable (count old.history) ∷ []

-- It is not marked yet, and fewer steps are left
pub record ComesNearer (old new : CoreState) : Type 0 where
  pub awaits : AwaitsMark new
  pub history : new.history ≡ old.history
  pub nearer : steps_to_mark new < steps_to_mark old

-- Why a core that runs refuses: memory is refused, the device failed meanwhile, or the history is
-- longer than the core's
abbrev pub IsRunningRefusal : CoreState → CoreState → Refusal CauseState → Type 0
IsRunningRefusal old new NoMemory = Unit {0}
IsRunningRefusal old new (DeviceFailed cause) = HasFailed (disk_of old) (disk_of new) × IsUnexplained J6 cause
IsRunningRefusal old new (Stale cause) = IsStale old.history cause
IsRunningRefusal old new other = ⊥
