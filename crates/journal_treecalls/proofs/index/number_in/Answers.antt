use Rattle.journal_treecalls.proofs.Numbers.{number-none, number-some}
use Rattle.journal_treecalls.proofs.index.number_in.Goals as goal

pub returns-then-block-eq0-clause-learns : goal.returns-then-block-eq0-clause-learns
returns-then-block-eq0-clause-learns g c = number-none _ c.args.block c.args.k c.if-block-eq0.true

pub returns-clause-learns : goal.returns-clause-learns
returns-clause-learns g c = number-some _ _ c.args.block c.args.k c.number_at.result c.in_ok-numbers.numbers c.bytes.result.now c.in_ok-numbers.ensures.learns c.bytes.ensures c.if-block-eq0.false c.number_at.ensures
