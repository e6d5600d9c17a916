use Rattle.std.proofs.Common.{◌≡◌, ◌++◌, false, List}
use Rattle.std.specs.Slice.Iter.{iter_rest}
use Rattle.std.specs.Iterator.Adapters.{rev_source}
use Rattle.journal_block.specs.declared.update.Update.{Update}
use Rattle.journal_block.specs.Updates.{updates_block}
use Rattle.journal_tail.proofs.read.newest.Given as goal

-- none of those that were passed is of the block
abbrev pub invariant-loop-update : goal.invariant-loop-update
invariant-loop-update l =
    (done : List Update) × ((l.updates ≡ iter_rest (rev_source l.update-iterator) ++ done) × (updates_block done l.block ≡ false))
