use Rattle.std.proofs.Common.{rules}
use Rattle.journal_block.specs.Block.{u64_at}
use Rattle.journal_block.proofs.block.Block.get_u64.Goals as goal

pub returns : goal.returns
unfolding u64_at
returns c = search rules
