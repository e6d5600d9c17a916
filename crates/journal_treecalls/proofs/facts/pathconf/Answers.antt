use Rattle.journal_treecalls.proofs.Telling.{pathconf-none, pathconf-some}
use Rattle.journal_treecalls.proofs.facts.pathconf.Goals as goal

pub returns-in-None-clause-does : goal.returns-in-None-clause-does
returns-in-None-clause-does g c = λ caller now. pathconf-none _ _ c.args.handle _ c.in_ok-node.ensures.learns _ c.in_ok-node.ensures.first (g.T.TreeDisk.are_sound c.node.new.disk) caller now c.in-None.is

pub returns-in-Some-clause-does : goal.returns-in-Some-clause-does
returns-in-Some-clause-does g c = λ caller now. pathconf-some _ _ c.args.handle _ c.in_ok-node.ensures.learns _ c.in_ok-node.ensures.first (g.T.TreeDisk.are_sound c.node.new.disk) caller now c.in-Some.target c.name_facts_of.result c.in-Some.is c.name_facts_of.ensures
