use Rattle.journal_treecalls.proofs.Telling.{fsinfo-none, fsinfo-some}
use Rattle.journal_treecalls.proofs.facts.fsinfo.Goals as goal

pub returns-in-None-clause-does : goal.returns-in-None-clause-does
returns-in-None-clause-does g c = λ caller now. fsinfo-none _ _ c.args.handle _ c.in_ok-node.ensures.learns _ c.in_ok-node.ensures.first (g.T.TreeDisk.are_sound c.node.new.disk) caller now c.in-None.is

pub returns-in-Some-clause-does : goal.returns-in-Some-clause-does
returns-in-Some-clause-does g c = λ caller now. fsinfo-some _ _ c.args.handle _ c.in_ok-node.ensures.learns _ c.in_ok-node.ensures.first (g.T.TreeDisk.are_sound c.node.new.disk) caller now c.in-Some.target c.facts_of.result c.in-Some.is c.facts_of.ensures
