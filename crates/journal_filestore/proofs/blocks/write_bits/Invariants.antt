use Rattle.std.proofs.Common.{cond, take}
use Rattle.journal_filestore.specs.Doing.{WritesEach, bits_written}
use Rattle.journal_filestore.proofs.blocks.write_bits.Given as goal

abbrev pub invariant-loop-number : goal.invariant-loop-number
invariant-loop-number g l = WritesEach g.J.Naming.layout l.fn.txn l.txn (bits_written (cond l.is_set 1 0) (take l.number-index l.numbers))
