use Rattle.journal_treecalls.proofs.BlockNumbers.{levels-none, levels-some}
use Rattle.journal_treecalls.proofs.seats.levels_of.Goals as goal

pub returns-then-number-eq0-clause-learns : goal.returns-then-number-eq0-clause-learns
returns-then-number-eq0-clause-learns g c = levels-none _ _ c.args.directory.now c.in_ok-number.number c.in_ok-number.ensures.learns c.if-number-eq0.true

pub returns-clause-learns : goal.returns-clause-learns
returns-clause-learns g c = levels-some _ _ _ c.args.directory.now c.in_ok-number.number c.in_ok-levels.levels c.in_ok-number.ensures.learns c.if-number-eq0.false c.in_ok-levels.ensures.learns
