-- The effect of a migration, and why it is refused.
use Rattle.std.specs.Prelude.{ℕ, ◌≡◌, ◌≢◌, ◌⊎◌, ◌≤◌, ◌+◌, ◌^◌, IsTrue, List, []}
use Rattle.journal_world.specs.declared.refusal.Refusal.{Refusal}
use Rattle.journal_world.specs.declared.refusal.Refusal.TheVariants.{NoMemory, DeviceFailed, Stale, Worn}
use Rattle.journal_world.specs.Histories.{Entry}
use Rattle.journal_disk.specs.Disks.{DiskState, HasFailed}
use Rattle.journal_disk.specs.Images.{reading}
use Rattle.journal_circ.specs.Log.{end_in}
use Rattle.journal_inode.specs.declared.version.FormatVersion.TheVariants.{Two}
use Rattle.journal_memory.specs.declared.refusal_number.RefusalNumber.TheVariants.{J6, J9, J11}
use Rattle.journal_memory.specs.Causes.{CauseState, IsUnexplained, IsExplained}
use Rattle.journal_parts.specs.Openings.{IsInRange, IsOpenRefusal, OnlyReadsDisk}
use Rattle.journal_filestore.specs.Files.{Files}
use Rattle.journal_migrate.specs.Either.{HasEitherFiles}
use Rattle.journal_migrate.specs.Holding.{HoldsFilesOf, HoldsFiles}

-- Sound files of either version were on the disk, and they are on it in version 2, whatever a crash
-- leaves
pub record IsMigrated (old new : DiskState) : Type 0 where
  pub sound : (files : Files) × HoldsFiles files old
  pub same : (files : Files) → HoldsFiles files old → HoldsFilesOf Two files new

-- where sound files of either version were on the disk, they still are, in one of the two, whatever
-- a crash leaves
abbrev pub KeepsFiles : DiskState → DiskState → Type 0
KeepsFiles old new = (files : Files) → HoldsFiles files old → HoldsFiles files new

-- where the disk was of version 2, nothing happened to it
abbrev pub KeepsVersionTwo : DiskState → DiskState → Type 0
KeepsVersionTwo old new = (files : Files) → HoldsFilesOf Two files old → new.past ≡ old.past

-- The disk was opened: sound files of either version are on it, and its log ends at this position
pub record WasOpened (disk : DiskState) (end : ℕ) : Type 0 where
  pub range : IsInRange disk
  pub sound : IsTrue disk.honest → (files : Files) × HoldsFiles files disk
  pub ends : IsTrue disk.honest → end ≡ end_in (reading disk.past)

-- why a disk is not migrated that was opened, and whose log ends at this position: memory is
-- refused, the device failed meanwhile, the book has a longer history, or the positions of the log
-- are used up
abbrev pub IsUpgradeRefusal : ℕ → DiskState → DiskState → Refusal CauseState → Type 0
IsUpgradeRefusal end old new NoMemory = Unit {0}
IsUpgradeRefusal end old new (DeviceFailed cause) = HasFailed old new × IsUnexplained J6 cause
IsUpgradeRefusal end old new (Stale cause) = (front : List Entry) × IsExplained J9 front cause × (front ≢ [])
IsUpgradeRefusal end old new (Worn cause) = (2 ^ 62 ≤ end + 1) × IsUnexplained J11 cause
IsUpgradeRefusal end old new other = ⊥

-- why a disk is not migrated: it is not opened, and nothing was written, or it was opened
abbrev pub IsMigrateRefusal : DiskState → DiskState → Refusal CauseState → Type 0
IsMigrateRefusal old new why =
    (IsOpenRefusal HasEitherFiles old new why × OnlyReadsDisk old new)
    ⊎ ((end : ℕ) × WasOpened old end × IsUpgradeRefusal end old new why)
