use Rattle.journal_objlog.proofs.Refusing.{still}
use Rattle.journal_objlog.proofs.object_log.ObjectLog.admitted_by.Goals as goal

pub returns-then-is_faulted-clause-crash : goal.returns-then-is_faulted-clause-crash
returns-then-is_faulted-clause-crash g c = still c.args.self.log c.is_faulted.ensures.images
