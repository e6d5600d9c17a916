use Rattle.std.proofs.Common.{◌++◌}
use Rattle.std.specs.Vec.Iter.{into_iter_items}
use Rattle.journal_tail.specs.Tails.{MakesNoOther}
use Rattle.journal_tail.proofs.block_cache.BlockCache.keep_all.Given as goal

-- what is kept so far, and what is left, make no other than all of it
abbrev pub invariant-loop-update : goal.invariant-loop-update
invariant-loop-update l = MakesNoOther (l.fn.self ++ l.fn.updates.items) (l.self ++ into_iter_items l.update-iterator)
