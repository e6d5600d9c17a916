use Rattle.journal_treecalls.proofs.Learned.{IfOk-like}
use Rattle.journal_treecalls.proofs.Learning.{none-few}
use Rattle.journal_treecalls.proofs.Setters.{setattr-none, setattr-some}
use Rattle.journal_treecalls.proofs.setting.setattr.Goals as goal

pub returns-in-None-clause-does : goal.returns-in-None-clause-does
returns-in-None-clause-does g c = setattr-none _ _ _ (g.T.TreeDisk.are_sound c.node.new.disk) _ c.args.handle c.args.caller.now c.args.settings c.args.guard c.args.now _ c.in_ok-node.ensures.learns c.in_ok-node.ensures.first c.in-None.is (λ V m. m)

pub returns-in-Some-clause-does : goal.returns-in-Some-clause-does
returns-in-Some-clause-does g c = IfOk-like c.set_node.result _ _ (λ reply k. setattr-some _ _ _ (g.T.TreeDisk.are_sound c.set_node.new.disk) _ c.args.handle c.args.caller.now c.args.settings c.args.guard c.args.now _ c.in_ok-node.ensures.learns c.in-Some.target c.in-Some.is c.are_asked.ensures c.are_words.ensures c.requires.time reply k) c.set_node.ensures.sets

pub returns-in-None-clause-few : goal.returns-in-None-clause-few
returns-in-None-clause-few g c = none-few _ 3 c.in_ok-node.ensures.first
