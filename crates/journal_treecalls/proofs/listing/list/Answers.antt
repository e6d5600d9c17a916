use Rattle.journal_treecalls.proofs.Learned.{IfOk-like}
use Rattle.journal_treecalls.proofs.Lining.{list-none, list-some}
use Rattle.journal_treecalls.proofs.listing.list.Goals as goal

pub returns-in-None-clause-learns : goal.returns-in-None-clause-learns
returns-in-None-clause-learns g c = list-none _ _ c.args.caller.now c.args.handle c.args.cookie c.args.room _ c.in_ok-node.ensures.learns c.in-None.is

pub returns-in-Some-clause-learns : goal.returns-in-Some-clause-learns
returns-in-Some-clause-learns g c = IfOk-like c.list_node.result _ _ (λ reply k. list-some _ _ _ c.args.caller.now c.args.handle c.args.cookie c.args.room _ c.in-Some.target reply c.in_ok-node.ensures.learns c.in-Some.is k) c.list_node.ensures.learns
