use Rattle.journal_treecalls.proofs.Learned.{IfOk-like}
use Rattle.journal_treecalls.proofs.Refusing.{mknod-does}
use Rattle.journal_treecalls.proofs.refusals.mknod.Goals as goal

pub returns-clause-does : goal.returns-clause-does
returns-clause-does g c = IfOk-like c.refuse_making.result _ _ (λ status k now. mknod-does _ _ _ c.refuse_making.ensures.first (g.T.TreeDisk.are_sound c.refuse_making.new.disk) c.args.caller.now c.args.directory c.args.name.now now status k) c.refuse_making.ensures.learns
