-- What a crash may leave of the disk that a core lies on, by the history of its mount.
use Rattle.std.specs.Prelude.{ℕ, ◌≤◌, List}
use Rattle.journal_world.specs.Maps.{Map, SameMap}
use Rattle.journal_world.specs.Histories.{Entry, count, floor, at}
use Rattle.journal_block.specs.Block.{Bytes}
use Rattle.journal_objlog.specs.Maps.{OpensAs}

-- The image opens as the map after so many commits, no fewer than the greatest mark
pub record Leaves (history : List Entry) (image : List Bytes) : Type 0 where
  pub commits : ℕ
  pub marked : floor history ≤ commits
  pub made : commits ≤ count history
  pub map : Map
  pub opens : OpensAs map image
  pub same : SameMap map (at history commits)
