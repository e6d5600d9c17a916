-- The maps after a group that was cut elsewhere is taken.
use Rattle.std.specs.Prelude.{List}
use Rattle.journal_world.specs.Maps.{SameMap}
use Rattle.journal_block.specs.declared.update.Update.{Update}
use Rattle.journal_block.specs.Updates.{with_updates}
use Rattle.journal_wal.specs.Wal.{WalState, size_of, blocks_now}
use Rattle.journal_tail.specs.Maps.{map_of}
use Rattle.journal_objlog.specs.ObjectLogs.{EachLayout, map_now, map_cut, map_logged}

-- The map at the cut, which is the map now, is the map with the group's blocks. The logged map
-- stays
pub record TakesMap (old : WalState) (group : List Update) (new : WalState) : Type 0 where
  pub now : EachLayout (size_of old) (λ layout. SameMap (map_now layout new) (map_of layout (with_updates (blocks_now old) group)))
  pub cut : EachLayout (size_of old) (λ layout. SameMap (map_cut layout new) (map_of layout (with_updates (blocks_now old) group)))
  pub logged : EachLayout (size_of old) (λ layout. SameMap (map_logged layout new) (map_logged layout old))
