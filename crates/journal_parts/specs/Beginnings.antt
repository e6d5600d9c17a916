-- What a mount begins with.
use Rattle.std.specs.Prelude.{◌≡◌, IsTrue, [], ◌∷◌}
use Rattle.journal_world.specs.Addresses.{Shape}
use Rattle.journal_world.specs.Maps.{Map, are_objects}
use Rattle.journal_world.specs.Histories.Entry.{opening}
use Rattle.journal_disk.specs.Disks.{DiskState, Keeps}
use Rattle.journal_disk.specs.Images.{EveryImage, reading}
use Rattle.journal_wal.specs.Wal.{IsAtRest as AtRest, HasBoundsIn}
use Rattle.journal_objlog.specs.Maps.{OpensAs}
use Rattle.journal_parts.specs.CoreStates.{CoreState, disk_of, IsRunning}

-- The log begins and ends where the disk tells
abbrev pub HasBoundsOf : DiskState → CoreState → Type 0
HasBoundsOf disk c = HasBoundsIn (reading disk.past) c.objects.wal

-- A mount of a disk begins: the disk has as many blocks as the layout, and each image of it opens
-- as the map. The history is the opening, and the disk was only read
pub record Begins (rule : Map → Type 0) (layout : Shape) (disk : DiskState) (new : CoreState) : Type 0 where
  pub map : Map
  pub size : disk.past.size ≡ layout.blocks
  pub on_disk : map.layout ≡ layout
  pub objects : IsTrue (are_objects map.layout map.pairs)
  pub holds : IsTrue disk.honest → EveryImage disk.past (OpensAs map)
  pub ruled : IsTrue disk.honest → rule map
  pub history : new.history ≡ opening map disk.honest ∷ []
  pub keeps : Keeps disk (disk_of new)
  pub past : IsTrue disk.honest → (disk_of new).past ≡ disk.past
  pub rest : AtRest new.objects.wal
  pub tail : new.objects.tail ≡ []
  pub cut : new.cut ≡ 0
  pub logged : new.logged ≡ 0
  pub next : new.next ≡ 0
  pub running : IsRunning new
