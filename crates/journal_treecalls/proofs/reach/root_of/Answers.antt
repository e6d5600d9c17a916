use Rattle.journal_treecalls.proofs.Taking.{root-read, root-long-some}
use Rattle.journal_treecalls.proofs.reach.root_of.Goals as goal

pub returns-clause-learns : goal.returns-clause-learns
returns-clause-learns g c = root-read _ _ c.args.head.now c.args.reach _ _ c.in_ok-root.ensures c.in_ok-copy_block.ensures.long c.in_ok-copy_block.ensures.learns

pub returns-clause-long : goal.returns-clause-long
returns-clause-long g c = root-long-some c.args.reach _ _ c.if-reach-eq0.false c.in_ok-root.ensures c.in_ok-copy_block.ensures.long
