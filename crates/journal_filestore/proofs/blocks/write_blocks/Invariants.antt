use Rattle.std.proofs.Common.{take}
use Rattle.journal_filestore.specs.Doing.{WritesEach, blocks_written}
use Rattle.journal_filestore.proofs.blocks.write_blocks.Given as goal

abbrev pub invariant-loop-j : goal.invariant-loop-j
invariant-loop-j g l = WritesEach g.J.Naming.layout l.fn.txn l.txn (blocks_written (take l.j l.numbers) l.bytes)
