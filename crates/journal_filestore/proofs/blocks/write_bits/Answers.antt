use Rattle.std.proofs.Common.{arith}
use Rattle.journal_filestore.proofs.Gathering.{bits_more, bits_whole}
use Rattle.journal_filestore.proofs.blocks.write_bits.Goals as goal

pub loop-number-preserved : goal.loop-number-preserved
loop-number-preserved g c =
    bits_more _ _ _ _ _ c.args.numbers.now c.loop-number.number-index c.loop-number-test.true c.loop-number.invariant c.in_ok-write_bit.ensures.writes

pub returns-clause-writes : goal.returns-clause-writes
returns-clause-writes g c = bits_whole _ _ _ _ c.args.numbers.now c.loop-number.number-index (omega (arith, c.loop-number-test.false)) c.loop-number.invariant
