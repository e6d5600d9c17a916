use Rattle.journal_treecalls.proofs.Learned.{IfOk-like}
use Rattle.journal_treecalls.proofs.Rooming.{place-level}
use Rattle.journal_treecalls.proofs.room.empty_above.Goals as goal

pub returns-clause-learns : goal.returns-clause-learns
returns-clause-learns g c = IfOk-like c.empty_in_levels.result _ _ (λ o k.
    place-level _ _ _ _ c.args.directory.now c.args.tag c.in_ok-number.number c.in_ok-numbers.numbers c.bytes.result.now o
    c.in_ok-number.ensures.learns c.if-number-eq0.false c.bytes.ensures c.in_ok-numbers.ensures.learns k) c.empty_in_levels.ensures.learns
