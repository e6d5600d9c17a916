use Rattle.journal_treecalls.proofs.Learned.{IfOk-like}
use Rattle.journal_treecalls.proofs.Linked.{link-gone, link-there}
use Rattle.journal_treecalls.proofs.symlinks.readlink.Goals as goal

pub returns-in-None-clause-does : goal.returns-in-None-clause-does
returns-in-None-clause-does g c = λ caller now. link-gone _ _ _ (g.T.TreeDisk.are_sound c.node.new.disk) _ c.in_ok-node.ensures.first c.args.handle caller now _ c.in_ok-node.ensures.learns c.in-None.is (λ V m. m)

pub returns-in-Some-clause-does : goal.returns-in-Some-clause-does
returns-in-Some-clause-does g c = IfOk-like c.read_link.result _ _ (λ reply k caller now. link-there _ _ _ (g.T.TreeDisk.are_sound c.read_link.new.disk) _ c.read_link.ensures.first c.args.handle caller now _ c.in_ok-node.ensures.learns c.in-Some.target reply c.in-Some.is k) c.read_link.ensures.learns
