use Rattle.journal_treecalls.proofs.Learned.{IfOk-like, above-none, above-some}
use Rattle.journal_treecalls.proofs.search.find_above.Goals as goal

pub returns-then-number-eq0-clause-learns : goal.returns-then-number-eq0-clause-learns
returns-then-number-eq0-clause-learns g c = above-none _ _ c.args.directory.now c.args.tag c.in_ok-number.number c.args.name.now c.in_ok-number.ensures.learns c.if-number-eq0.true

pub returns-clause-learns : goal.returns-clause-learns
returns-clause-learns g c = IfOk-like c.find_in_levels.result _ _ (λ o k.
    above-some _ _ c.args.directory.now c.args.tag c.in_ok-number.number c.args.name.now c.in_ok-number.ensures.learns _ _ c.in_ok-numbers.numbers c.bytes.result.now o
    c.if-number-eq0.false c.bytes.ensures c.in_ok-numbers.ensures.learns k) c.find_in_levels.ensures.learns
