use Rattle.journal_treecalls.proofs.Learned.{IfOk-like}
use Rattle.journal_treecalls.proofs.Renames.{source-none, source-some}
use Rattle.journal_treecalls.proofs.renaming.find_way.Goals as goal

pub returns-in-None-clause-learns : goal.returns-in-None-clause-learns
returns-in-None-clause-learns g c = source-none _ _ c.args.caller.now c.args.source c.args.goal _ c.in_ok-node.ensures.learns c.in-None.is

pub returns-in-Some-clause-learns : goal.returns-in-Some-clause-learns
returns-in-Some-clause-learns g c = IfOk-like c.way_to.result _ _ (λ way k. source-some _ _ _ c.args.caller.now c.args.source c.args.goal _ c.in-Some.inode way c.in_ok-node.ensures.learns c.in-Some.is k) c.way_to.ensures.learns
