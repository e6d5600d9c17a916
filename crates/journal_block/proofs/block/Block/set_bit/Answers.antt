use Rattle.std.proofs.Common.{rules}
use Rattle.journal_block.proofs.Bits.{set-with_bit, bit_of-set, bit_of-set_other}
use Rattle.journal_block.proofs.block.Block.set_bit.Goals as goal

pub returns-clause-contents : goal.returns-clause-contents
returns-clause-contents c =
    rw (← c.self.view_is) (set-with_bit c.self.inside.bytes.items c.args.i c.index.result.now _ c.args.value (search rules) c.index.ensures (search rules) c.byte_with_bit.ensures)

pub returns-clause-bit : goal.returns-clause-bit
returns-clause-bit c =
    bit_of-set c.self.inside.bytes.items c.args.i c.index.result.now _ c.args.value (search rules) c.index.ensures (search rules) c.byte_with_bit.ensures

pub returns-clause-others : goal.returns-clause-others
returns-clause-others c =
    rw (← c.self.view_is) (bit_of-set_other c.self.inside.bytes.items c.args.i c.index.result.now _ c.args.value (search rules) c.index.ensures (search rules) c.byte_with_bit.ensures)
