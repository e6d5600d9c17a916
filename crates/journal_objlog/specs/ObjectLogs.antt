-- An object log as contracts see it: the map now, the two that a crash may leave, and these maps
-- after each call.
use Rattle.std.specs.Prelude.{ℕ, ◌≡◌, ◌⊎◌, Bool, true, false, IsTrue, List}
use Rattle.journal_world.specs.declared.refusal.Refusal.{Refusal}
use Rattle.journal_world.specs.declared.refusal.Refusal.TheVariants.{DeviceFailed}
use Rattle.journal_world.specs.Addresses.{Shape}
use Rattle.journal_world.specs.Maps.{Map, SameMap}
use Rattle.journal_block.specs.Block.{Bytes}
use Rattle.journal_disk.specs.Disks.{DiskState, Keeps, HasFailed}
use Rattle.journal_disk.specs.Images.{EveryImage}
use Rattle.journal_disk.specs.Moments.{LeavesOnly}
use Rattle.journal_wal.specs.Wal.{WalState, size_of, blocks_now, blocks_cut, blocks_logged}
use Rattle.journal_wal.specs.declared.step.GroupStep.{GroupStep}
use Rattle.journal_wal.specs.declared.step.GroupStep.TheVariants.{Idle, Put, Logged}
use Rattle.journal_tail.specs.Maps.{map_of}
use Rattle.journal_objlog.specs.Maps.{OpensAs}

-- a device call failed
abbrev pub is_faulted : WalState → Bool
is_faulted w = w.ring.faulted

-- the disk that the log lies on
abbrev pub disk_of : WalState → DiskState
disk_of w = w.ring.disk

-- where the log on the disk starts and ends, as last synced: positions
abbrev pub start_of : WalState → ℕ
start_of w = w.log.start

abbrev pub end_of : WalState → ℕ
end_of w = w.log.logged

-- all that was cut is logged
abbrev pub IsCutLogged : WalState → Type 0
IsCutLogged w = w.log.logged ≡ w.log.cut

-- A condition for each layout of a disk of this many blocks. A log has blocks, and knows no layout:
-- its clauses on maps hold for each by which its blocks may be read
abbrev pub EachLayout : ℕ → (Shape → Type 0) → Type 0
EachLayout blocks holds = (layout : Shape) → layout.blocks ≡ blocks → holds layout

-- by a layout, the map with all overwrites
abbrev pub map_now : Shape → WalState → Map
map_now layout w = map_of layout (blocks_now w)

-- the map at the last cut
abbrev pub map_cut : Shape → WalState → Map
map_cut layout w = map_of layout (blocks_cut w)

-- the map at the cut of the last group whose cycle ended
abbrev pub map_logged : Shape → WalState → Map
map_logged layout w = map_of layout (blocks_logged w)

-- An image that a crash may leave opens as the map of the last group whose cycle ended, or as that
-- of the last cut
abbrev pub MayOpenAs : Shape → WalState → List Bytes → Type 0
MayOpenAs layout w image = OpensAs (map_logged layout w) image ⊎ OpensAs (map_cut layout w) image

-- The map now, and the two that a crash may leave, are as before
pub record KeepsMaps (old new : WalState) : Type 0 where
  pub now : EachLayout (size_of old) (λ layout. SameMap (map_now layout new) (map_now layout old))
  pub cut : EachLayout (size_of old) (λ layout. SameMap (map_cut layout new) (map_cut layout old))
  pub logged : EachLayout (size_of old) (λ layout. SameMap (map_logged layout new) (map_logged layout old))

-- The clause of each call on the disk: at every moment of it an image opens as one of the two maps
-- that a crash might have left before, and at its end as one of those that it may leave now
pub record Crashes (old new : WalState) : Type 0 where
  pub keeps : Keeps (disk_of old) (disk_of new)
  pub moments : IsTrue (disk_of old).honest → EachLayout (size_of old) (λ layout. LeavesOnly (disk_of old).past (disk_of new).past (MayOpenAs layout old))
  pub images : IsTrue (disk_of new).honest → EachLayout (size_of new) (λ layout. EveryImage (disk_of new).past (MayOpenAs layout new))

-- The disk was read, with or without a fault, and there may be other room in memory: all else is as
-- before, and it is faulted only where it was or the device failed
pub record OnlyReads (old new : WalState) : Type 0 where
  pub same : new ≡ record old {
    ring = record old.ring { disk = new.ring.disk; faulted = new.ring.faulted };
    log = record old.log { room = new.log.room };
  }
  pub keeps : Keeps (disk_of old) (disk_of new)
  pub past : IsTrue (disk_of old).honest → (disk_of new).past ≡ (disk_of old).past
  pub fault : IsTrue (is_faulted new) → IsTrue (is_faulted old) ⊎ HasFailed (disk_of old) (disk_of new)
  -- a fault lasts
  pub stays : IsTrue (is_faulted old) → IsTrue (is_faulted new)

-- J6 leaves the log faulted, and no other refusal does
abbrev pub IsLeft : WalState → Refusal Unit → Type 0
IsLeft new (DeviceFailed cause) = is_faulted new ≡ true
IsLeft new other = is_faulted new ≡ false

-- The cycle of the group in flight ended: only the map at its cut is left by a crash
pub record EndsMap (old new : WalState) : Type 0 where
  pub now : EachLayout (size_of old) (λ layout. SameMap (map_now layout new) (map_now layout old))
  pub cut : EachLayout (size_of old) (λ layout. SameMap (map_cut layout new) (map_cut layout old))
  pub logged : EachLayout (size_of old) (λ layout. SameMap (map_logged layout new) (map_cut layout old))

-- the maps after a step of the logger
abbrev pub LogsMaps : WalState → GroupStep → WalState → Type 0
LogsMaps old Idle new = KeepsMaps old new
LogsMaps old Put new = KeepsMaps old new
LogsMaps old Logged new = EndsMap old new
