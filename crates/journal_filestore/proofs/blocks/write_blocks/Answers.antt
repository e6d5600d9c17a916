use Rattle.std.proofs.Common.{refl, arith}
use Rattle.journal_filestore.proofs.Gathering.{blocks_more, blocks_whole}
use Rattle.journal_filestore.proofs.blocks.write_blocks.Goals as goal

pub loop-j-preserved : goal.loop-j-preserved
loop-j-preserved g c =
    blocks_more _ _ _ _ c.args.numbers.now c.args.bytes.now _ c.loop-j.j (omega (arith, c.loop-j-test.true)) refl c.loop-j.invariant c.in_ok-write_block.ensures.writes

pub returns-clause-writes : goal.returns-clause-writes
returns-clause-writes g c = blocks_whole _ _ _ c.args.numbers.now c.args.bytes.now c.loop-j.j (omega (arith, c.loop-j-test.false)) c.loop-j.invariant
