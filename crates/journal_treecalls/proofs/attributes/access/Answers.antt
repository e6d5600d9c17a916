use Rattle.journal_treecalls.proofs.Learned.{access-none, access-some}
use Rattle.journal_treecalls.proofs.attributes.access.Goals as goal

pub returns-in-None-clause-does : goal.returns-in-None-clause-does
returns-in-None-clause-does g c = λ now. access-none _ _ c.args.handle _ c.in_ok-node.ensures.learns _ c.in_ok-node.ensures.first (g.T.TreeDisk.are_sound c.node.new.disk) c.args.caller.now now c.args.asked c.in-None.is

pub returns-in-Some-clause-does : goal.returns-in-Some-clause-does
returns-in-Some-clause-does g c = λ now. access-some _ _ c.args.handle _ c.in_ok-node.ensures.learns _ c.in_ok-node.ensures.first (g.T.TreeDisk.are_sound c.node.new.disk) c.args.caller.now now c.args.asked c.in-Some.target c.access_reply.result c.in-Some.is c.access_reply.ensures
