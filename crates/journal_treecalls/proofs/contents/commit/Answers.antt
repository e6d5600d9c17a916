use Rattle.journal_treecalls.proofs.Telling.{commit-none, commit-some}
use Rattle.journal_treecalls.proofs.contents.commit.Goals as goal

pub returns-in-None-clause-does : goal.returns-in-None-clause-does
returns-in-None-clause-does g c = λ caller now. commit-none _ _ c.args.handle _ c.in_ok-node.ensures.learns _ c.in_ok-node.ensures.first (g.T.TreeDisk.are_sound c.node.new.disk) caller now c.in-None.is

pub returns-in-Some-clause-does : goal.returns-in-Some-clause-does
returns-in-Some-clause-does g c = λ caller now. commit-some _ _ c.args.handle _ c.in_ok-node.ensures.learns _ c.in_ok-node.ensures.first (g.T.TreeDisk.are_sound c.node.new.disk) caller now c.in-Some.target c.committed_of.result c.in-Some.is c.committed_of.ensures
