use Rattle.std.proofs.Common.{rules}
use Rattle.journal_block.proofs.Bits.{byte_with_bit-set, byte_with_bit-clear}
use Rattle.journal_block.proofs.block.byte_with_bit.Goals as goal

pub returns-then-value : goal.returns-then-value
returns-then-value c = rw c.if-value.true (byte_with_bit-set c.args.byte c.args.k (search rules) c.requires)

pub returns-else-value : goal.returns-else-value
returns-else-value c = rw c.if-value.false (byte_with_bit-clear c.args.byte c.args.k (search rules) c.requires)
