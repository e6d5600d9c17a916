use Rattle.journal_treecalls.proofs.Taking.{spare-next}
use Rattle.journal_treecalls.proofs.reach.next_spare.Goals as goal

pub returns-in-Some-clause-learns : goal.returns-in-Some-clause-learns
returns-in-Some-clause-learns g c = spare-next _ _ _ c.args.spare.now c.args.from c.loop-at.at c.in-Some.block _ c.loop-at.invariant.low c.in-Some.is c.loop-at.invariant.same c.in_ok-block.ensures.learns
