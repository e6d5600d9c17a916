use Rattle.journal_treecalls.proofs.Taking.{place-had, place-new}
use Rattle.journal_treecalls.proofs.reach.take_place.Goals as goal

pub returns-then-number-ne0-clause-learns : goal.returns-then-number-ne0-clause-learns
returns-then-number-ne0-clause-learns g c = place-had c.args.reach c.args.numbers.now c.args.spare.now c.args.m c.args.at c.reach_place-place.result c.number.result c.reach_place-place.ensures c.number.ensures _ c.if-number-ne0.true

pub returns-in-Some-clause-learns : goal.returns-in-Some-clause-learns
returns-in-Some-clause-learns g c = place-new c.args.reach c.args.numbers.now c.args.spare.now c.args.m c.args.at c.reach_place-place.result c.number.result c.reach_place-place.ensures c.number.ensures _ c.in-Some.found c.set_number.ensures.set _ _ _ c.if-number-ne0.false c.in-Some.is c.in_ok-next_spare.ensures.learns
