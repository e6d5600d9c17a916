use Rattle.journal_treecalls.proofs.Learned.{IfOk-like}
use Rattle.journal_treecalls.proofs.Refusing.{link-none, link-some}
use Rattle.journal_treecalls.proofs.refusals.link.Goals as goal

pub returns-in-None-clause-does : goal.returns-in-None-clause-does
returns-in-None-clause-does g c = λ now. link-none _ _ _ _ c.in_ok-node.ensures.first (g.T.TreeDisk.are_sound c.node.new.disk) c.args.caller.now c.args.handle c.args.directory c.args.name.now now _ c.in_ok-node.ensures.learns c.in-None.is (λ V m. m)

pub returns-in-Some-clause-does : goal.returns-in-Some-clause-does
returns-in-Some-clause-does g c = IfOk-like c.refuse_making.result _ _ (λ status k now. link-some _ _ _ _ c.refuse_making.ensures.first (g.T.TreeDisk.are_sound c.refuse_making.new.disk) c.args.caller.now c.args.handle c.args.directory c.args.name.now now _ c.in_ok-node.ensures.learns _ status c.in-Some.is k) c.refuse_making.ensures.learns
