use Rattle.journal_filestore.proofs.Among.{rising_distinct}
use Rattle.journal_filestore.proofs.Gathering.{distinct_place}
use Rattle.journal_filestore.proofs.blocks.are_clear.Goals as goal

pub read_bit-requires-clause-unread : goal.read_bit-requires-clause-unread
read_bit-requires-clause-unread g c =
    λ has. c.loop-number.invariant.2 _ has (distinct_place c.args.numbers.now c.loop-number.number-index (rising_distinct c.args.numbers.now c.requires.rising) c.loop-number-test.true)
