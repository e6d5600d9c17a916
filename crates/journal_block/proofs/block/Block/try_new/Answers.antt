use Rattle.std.proofs.Common.{rules}
use Rattle.journal_world.specs.Addresses.{zeros_of}
use Rattle.journal_block.proofs.block.Block.try_new.Goals as goal

pub returns-clause-contents : goal.returns-clause-contents
unfolding zeros_of
returns-clause-contents g c = search rules
