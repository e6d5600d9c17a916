use Rattle.journal_treecalls.proofs.Learned.{IfOk-like}
use Rattle.journal_treecalls.proofs.Portioning.{read-none, read-some}
use Rattle.journal_treecalls.proofs.portion.read.Goals as goal

pub returns-in-None-clause-does : goal.returns-in-None-clause-does
returns-in-None-clause-does g c = λ now. read-none _ _ _ (g.T.TreeDisk.are_sound c.node.new.disk) _ c.in_ok-node.ensures.first c.args.handle c.args.caller.now c.args.offset c.args.count now _ c.in_ok-node.ensures.learns c.in-None.is (λ V m. m)

pub returns-in-Some-clause-does : goal.returns-in-Some-clause-does
returns-in-Some-clause-does g c = IfOk-like c.read_node.result _ _ (λ reply k now. read-some _ _ _ (g.T.TreeDisk.are_sound c.read_node.new.disk) _ c.read_node.ensures.first c.args.handle c.args.caller.now c.args.offset c.args.count now _ c.in_ok-node.ensures.learns c.in-Some.target reply c.in-Some.is k) c.read_node.ensures.learns
