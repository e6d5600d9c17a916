use Rattle.journal_treecalls.proofs.BlockNumbers.{numbers-read}
use Rattle.journal_treecalls.proofs.seats.block_numbers.Goals as goal

pub returns-clause-learns : goal.returns-clause-learns
returns-clause-learns g c = numbers-read _ _ c.args.directory.now c.in_ok-levels.levels c.in_ok-levels.ensures.learns
