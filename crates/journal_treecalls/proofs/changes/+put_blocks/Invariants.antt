use Rattle.std.proofs.Common.{length}
use Rattle.journal_treecalls.proofs.changes.+put_blocks.Given as goal

abbrev pub decreases-put_blocks : goal.decreases-put_blocks
decreases-put_blocks g l = length l.some.now
