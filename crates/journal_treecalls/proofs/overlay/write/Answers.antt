use Rattle.journal_treecalls.proofs.Learned.{IfOk-like}
use Rattle.journal_treecalls.proofs.Writes.{write-none, write-some}
use Rattle.journal_treecalls.proofs.Learning.{none-few}
use Rattle.journal_treecalls.proofs.overlay.write.Goals as goal

pub returns-in-None-clause-does : goal.returns-in-None-clause-does
returns-in-None-clause-does g c = write-none _ _ _ (g.T.TreeDisk.are_sound c.node.new.disk) _ c.args.handle c.args.caller.now c.args.data.now.offset c.args.data.now.count c.args.data.now.bytes.now c.args.now _ c.in_ok-node.ensures.learns c.in_ok-node.ensures.first c.in-None.is (λ V m. m)

pub returns-in-Some-clause-does : goal.returns-in-Some-clause-does
returns-in-Some-clause-does g c = IfOk-like c.write_node.result _ _ (λ reply k. write-some _ _ _ (g.T.TreeDisk.are_sound c.write_node.new.disk) _ c.args.handle c.args.caller.now c.args.data.now.offset c.args.data.now.count c.args.data.now.bytes.now c.args.now _ c.in_ok-node.ensures.learns c.in-Some.target c.in-Some.is c.are_words.ensures c.requires.time reply k) c.write_node.ensures.writes

pub returns-in-None-clause-few : goal.returns-in-None-clause-few
returns-in-None-clause-few g c = none-few _ _ c.in_ok-node.ensures.first
