-- Every moment from one state of a disk to a later one, as those of a call.
use Rattle.std.specs.Prelude.{◌≡◌, List, ◌++◌}
use Rattle.journal_block.specs.Block.{Bytes}
use Rattle.journal_disk.specs.Disks.{DiskEvent, Past}
use Rattle.journal_disk.specs.Images.{EveryImage}

-- The later past is the earlier one with what happened since
pub record Extends (earlier later : Past) : Type 0 where
  pub since : List DiskEvent
  pub grown : later ≡ record earlier { events = since ++ earlier.events }

-- At each moment from the old past to the new one, those two included, every image has Q
pub record LeavesOnly (old new : Past) (Q : List Bytes → Type 0) : Type 0 where
  pub extends : Extends old new
  pub each : (moment : Past) → Extends old moment → Extends moment new → EveryImage moment Q
