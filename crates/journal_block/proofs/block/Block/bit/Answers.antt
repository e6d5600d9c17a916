use Rattle.std.proofs.Common.{rules}
use Rattle.journal_block.proofs.Bits.{bit_of-read}
use Rattle.journal_block.proofs.block.Block.bit.Goals as goal

pub returns : goal.returns
returns c = bit_of-read c.args.self.now c.args.i c.index.result.now (search rules) (search rules)
