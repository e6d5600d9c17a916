use Rattle.std.proofs.Common.{◌++◌}
use Rattle.std.specs.Vec.Iter.{into_iter_items}
use Rattle.journal_tail.proofs.Kept.{home_first}
use Rattle.journal_tail.proofs.block_cache.BlockCache.keep_all.Goals as goal

pub loop-update-preserved : goal.loop-update-preserved
loop-update-preserved c =
    home_first (c.args.self.now ++ c.args.updates.items) c.loop-update.self c.keep.new.self (into_iter_items c.loop-update.update-iterator) c.in-Some.update
    (into_iter_items c.next.new.self) c.loop-update.invariant c.in-Some.ensures.steps.0 c.keep.ensures
