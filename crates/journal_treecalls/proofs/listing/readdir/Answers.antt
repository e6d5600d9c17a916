use Rattle.journal_treecalls.proofs.Learned.{IfOk-like}
use Rattle.journal_treecalls.proofs.Directing.{readdir-does}
use Rattle.journal_treecalls.proofs.listing.readdir.Goals as goal

pub returns-clause-does : goal.returns-clause-does
returns-clause-does g c = IfOk-like c.list.result _ _ (λ reply l now. readdir-does _ _ (g.T.TreeDisk.are_sound c.list.new.disk) _ c.list.ensures.first c.args.handle c.args.caller.now c.args.cookie now reply c.args.most c.less_frame.result c.less_frame.ensures l) c.list.ensures.learns
