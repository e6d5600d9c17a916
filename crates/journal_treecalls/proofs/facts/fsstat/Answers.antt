use Rattle.journal_treecalls.proofs.Telling.{fsstat-none, fsstat-some}
use Rattle.journal_treecalls.proofs.facts.fsstat.Goals as goal

pub returns-in-None-clause-does : goal.returns-in-None-clause-does
returns-in-None-clause-does g c = λ caller now. fsstat-none _ _ c.args.handle _ c.in_ok-node.ensures.learns _ c.in_ok-node.ensures.first (g.T.TreeDisk.are_sound c.node.new.disk) caller now c.data_blocks-blocks.result c.numbers-numbers.result c.args.free c.data_blocks-blocks.ensures.is c.numbers-numbers.ensures c.in-None.is

pub returns-in-Some-clause-does : goal.returns-in-Some-clause-does
returns-in-Some-clause-does g c = λ caller now. fsstat-some _ _ c.args.handle _ c.in_ok-node.ensures.learns _ c.in_ok-node.ensures.first (g.T.TreeDisk.are_sound c.node.new.disk) caller now c.data_blocks-blocks.result c.numbers-numbers.result c.args.free c.data_blocks-blocks.ensures.is c.numbers-numbers.ensures c.in-Some.target c.told.result c.space_of.result c.in-Some.is c.told.ensures c.space_of.ensures
