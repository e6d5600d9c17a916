use Rattle.journal_treecalls.proofs.Renames.{goal-none, goal-some}
use Rattle.journal_treecalls.proofs.renaming.way_to.Goals as goal

pub returns-in-None-clause-learns : goal.returns-in-None-clause-learns
returns-in-None-clause-learns g c = goal-none _ _ c.args.caller.now c.args.source c.args.goal _ c.in_ok-node.ensures.learns c.in-None.is

pub returns-in-Some-clause-learns : goal.returns-in-Some-clause-learns
returns-in-Some-clause-learns g c = goal-some _ _ c.args.caller.now c.args.source c.args.goal _ c.in-Some.inode c.way_of.result c.in_ok-node.ensures.learns c.in-Some.is c.way_of.ensures
