-- A journal that threads share, as contracts see it, and why it refuses calls that belong to no
-- transaction.
use Rattle.std.specs.Prelude.{◌≡◌, false, IsTrue, List, [], ◌∷◌}
use mathlib.Core.List.{IsPrefix}
use Rattle.journal_world.specs.declared.refusal.Refusal.{Refusal}
use Rattle.journal_world.specs.declared.refusal.Refusal.TheVariants.{NoMemory, BadAddress, DeviceFailed, Stale, Worn, Closed}
use Rattle.journal_world.specs.Addresses.{Shape}
use Rattle.journal_world.specs.Maps.{Map, are_objects}
use Rattle.journal_world.specs.Histories.{Entry, opened, is_trusted, IsLegal}
use Rattle.journal_world.specs.Histories.Entry.{opening}
use Rattle.journal_disk.specs.Disks.{DiskState}
use Rattle.journal_disk.specs.Images.{EveryImage}
use Rattle.journal_history.specs.Soundness.{IsSound}
use Rattle.journal_memory.specs.declared.refusal_number.RefusalNumber.{RefusalNumber}
use Rattle.journal_memory.specs.declared.refusal_number.RefusalNumber.TheVariants.{J6, J9, J11, J13}
use Rattle.journal_memory.specs.declared.bit_scan.BitScan.{BitScan}
use Rattle.journal_memory.specs.Bits.{is_scan}
use Rattle.journal_memory.specs.Causes.{CauseState, IsUnexplained, IsExplained}
use Rattle.journal_parts.specs.Openings.{HoldsMap, HasSize}
use Rattle.journal_parts.specs.Cores.{Leaves}

-- A journal, by what is known of it outside its lock
pub record JournalState : Type 0 where
  -- the history when it was opened, with which all begins that is seen of it later
  pub start : List Entry

-- The history begins with the map that the disk holds by this layout, of which the rule holds
pub record BeginsWith (rule : Map → Type 0) (layout : Shape) (disk : DiskState) (history : List Entry) : Type 0 where
  pub map : Map
  pub size : HasSize layout disk
  pub on_disk : map.layout ≡ layout
  pub objects : IsTrue (are_objects map.layout map.pairs)
  pub holds : IsTrue disk.honest → HoldsMap disk map
  pub ruled : IsTrue disk.honest → rule map
  pub start : history ≡ opening map disk.honest ∷ []

-- Each image that a crash may leave of the disk opens as the map after some first commits of a
-- history that goes on from this one, no fewer than its greatest mark
pub record LeavesFront (start : List Entry) (disk : DiskState) : Type 0 where
  pub front : List Entry
  pub later : IsPrefix start front
  pub images : IsTrue disk.honest → EveryImage disk.past (Leaves front)

-- The facts of a history that was seen, under the mount's rule, on a disk of this layout
pub record IsKnown (rule : Map → Type 0) (layout : Shape) (history : List Entry) : Type 0 where
  pub on_disk : (opened history).layout ≡ layout
  -- where the disk was honest and settled when it was opened, the rule holds of the opened map, and
  -- the history is legal
  pub ruled : IsTrue (is_trusted history) → rule (opened history)
  pub legal : IsTrue (is_trusted history) → IsLegal rule history
  -- and what holds whatever the disk does
  pub sound : IsSound rule history

-- A cause of the refusal of this number that shows a history
abbrev pub IsShown : RefusalNumber → CauseState → Type 0
IsShown number cause = (history : List Entry) × IsExplained number history cause

-- why there is no further session
abbrev pub IsSessionRefusal : Refusal CauseState → Type 0
IsSessionRefusal (Worn cause) = IsUnexplained J11 cause
IsSessionRefusal other = ⊥

-- why no bits of a block are answered
abbrev pub IsScanRefusal : Shape → BitScan → Refusal CauseState → Type 0
IsScanRefusal layout s (Closed cause) = IsUnexplained J13 cause
IsScanRefusal layout s (DeviceFailed cause) = IsUnexplained J6 cause
IsScanRefusal layout s BadAddress = is_scan layout s ≡ false
IsScanRefusal layout s (Stale cause) = IsTrue (is_scan layout s) × IsShown J9 cause
IsScanRefusal layout s NoMemory = IsTrue (is_scan layout s)
IsScanRefusal layout s other = ⊥

-- why a session is not fenced
abbrev pub IsFenceRefusal : Refusal CauseState → Type 0
IsFenceRefusal (Closed cause) = IsUnexplained J13 cause
IsFenceRefusal NoMemory = Unit {0}
IsFenceRefusal (DeviceFailed cause) = IsUnexplained J6 cause
IsFenceRefusal (Stale cause) = IsShown J9 cause
IsFenceRefusal (Worn cause) = IsUnexplained J11 cause
IsFenceRefusal other = ⊥

-- why a step of the logger is refused
abbrev pub IsLogRefusal : Refusal CauseState → Type 0
IsLogRefusal (Closed cause) = IsUnexplained J13 cause
IsLogRefusal NoMemory = Unit {0}
IsLogRefusal (DeviceFailed cause) = IsUnexplained J6 cause
IsLogRefusal (Stale cause) = IsShown J9 cause
IsLogRefusal (Worn cause) = IsUnexplained J11 cause
IsLogRefusal other = ⊥

-- why one of the installer is
abbrev pub IsInstallRefusal : Refusal CauseState → Type 0
IsInstallRefusal (Closed cause) = IsUnexplained J13 cause
IsInstallRefusal NoMemory = Unit {0}
IsInstallRefusal (DeviceFailed cause) = IsUnexplained J6 cause
IsInstallRefusal other = ⊥

-- why blocks are not fetched
abbrev pub IsFetchRefusal : Refusal CauseState → Type 0
IsFetchRefusal NoMemory = Unit {0}
IsFetchRefusal (DeviceFailed cause) = IsUnexplained J6 cause
IsFetchRefusal other = ⊥

-- why a journal is not closed
abbrev pub IsCloseRefusal : Refusal CauseState → Type 0
IsCloseRefusal (Stale cause) = IsShown J9 cause
IsCloseRefusal other = ⊥

-- why no image of the disk is made
abbrev pub IsImageRefusal : Refusal CauseState → Type 0
IsImageRefusal NoMemory = Unit {0}
IsImageRefusal other = IsCloseRefusal other
