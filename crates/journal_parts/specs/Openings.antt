-- What a disk is opened with, and why it is not opened.
use Rattle.std.specs.Prelude.{◌≡◌, ◌≢◌, ◌⊎◌, ◌≤◌, IsTrue, List, []}
use Rattle.journal_world.specs.declared.refusal.Refusal.{Refusal}
use Rattle.journal_world.specs.declared.refusal.Refusal.TheVariants.{NoMemory, DeviceFailed, BadLog, BadSuper, Stale}
use Rattle.journal_world.specs.declared.layout.TheConstants.{MIN_BLOCKS, MAX_BLOCKS}
use Rattle.journal_world.specs.Addresses.{Shape}
use Rattle.journal_world.specs.Files.{files}
use Rattle.journal_world.specs.Maps.{Map}
use Rattle.journal_world.specs.Histories.{Entry}
use Rattle.journal_disk.specs.Disks.{DiskState, Keeps, HasFailed}
use Rattle.journal_disk.specs.Images.{EveryImage, reading}
use Rattle.journal_circ.specs.Log.{IsWellFormed}
use Rattle.journal_objlog.specs.Maps.{OpensAs}
use Rattle.journal_memory.specs.declared.refusal_number.RefusalNumber.TheVariants.{J6, J9}
use Rattle.journal_memory.specs.Causes.{CauseState, IsUnexplained, IsExplained}

-- the disk is opened with this map: each image of it opens as the map
abbrev pub HoldsMap : DiskState → Map → Type 0
HoldsMap disk m = EveryImage disk.past (OpensAs m)

-- The number of blocks is one that a disk with files may have
abbrev pub IsInRange : DiskState → Type 0
IsInRange disk = (MIN_BLOCKS ≤ disk.past.size) × (disk.past.size ≤ MAX_BLOCKS)

-- The disk has as many blocks as the layout
abbrev pub HasSize : Shape → DiskState → Type 0
HasSize layout disk = disk.past.size ≡ layout.blocks

-- The log's headers on the disk are well formed
abbrev pub HasWellFormedLog : DiskState → Type 0
HasWellFormedLog disk = IsWellFormed (reading disk.past)

-- Why a disk is not opened by a layout. The number of blocks comes first, then the log, the rule
-- and the book; J1 and J6 come as they are met
abbrev pub IsLayoutRefusal : (Map → Type 0) → Shape → DiskState → DiskState → Refusal CauseState → Type 0
IsLayoutRefusal rule layout old new BadSuper =
    (HasSize layout old → ⊥)
    ⊎ (HasSize layout old × (IsTrue old.honest → (m : Map) × (m.layout ≡ layout) × HoldsMap old m × (rule m → ⊥)))
IsLayoutRefusal rule layout old new BadLog = HasSize layout old × (IsTrue old.honest → HasWellFormedLog old → ⊥)
IsLayoutRefusal rule layout old new (Stale cause) =
    HasSize layout old
    × (IsTrue old.honest → (m : Map) × (m.layout ≡ layout) × HoldsMap old m × rule m)
    × ((front : List Entry) × IsExplained J9 front cause × (front ≢ []))
IsLayoutRefusal rule layout old new NoMemory = HasSize layout old
IsLayoutRefusal rule layout old new (DeviceFailed cause) = HasSize layout old × HasFailed old new × IsUnexplained J6 cause
IsLayoutRefusal rule layout old new other = ⊥

-- Why a disk is not opened by the layout of files, of as many blocks as it has
abbrev pub IsOpenRefusal : (Map → Type 0) → DiskState → DiskState → Refusal CauseState → Type 0
IsOpenRefusal rule old new BadSuper =
    (IsInRange old → ⊥)
    ⊎ (IsInRange old × (IsTrue old.honest → (m : Map) × (m.layout ≡ files old.past.size) × HoldsMap old m × (rule m → ⊥)))
IsOpenRefusal rule old new BadLog = IsInRange old × (IsTrue old.honest → HasWellFormedLog old → ⊥)
IsOpenRefusal rule old new (Stale cause) =
    IsInRange old
    × (IsTrue old.honest → (m : Map) × (m.layout ≡ files old.past.size) × HoldsMap old m × rule m)
    × ((front : List Entry) × IsExplained J9 front cause × (front ≢ []))
IsOpenRefusal rule old new NoMemory = IsInRange old
IsOpenRefusal rule old new (DeviceFailed cause) = IsInRange old × HasFailed old new × IsUnexplained J6 cause
IsOpenRefusal rule old new other = ⊥

-- A disk that is not opened is handed back as it was
pub record OnlyReadsDisk (old new : DiskState) : Type 0 where
  pub keeps : Keeps old new
  pub past : IsTrue old.honest → new.past ≡ old.past
