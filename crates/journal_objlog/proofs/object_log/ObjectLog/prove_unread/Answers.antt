use Rattle.journal_objlog.proofs.Readings.{read_nothing}
use Rattle.journal_objlog.proofs.object_log.ObjectLog.prove_unread.Goals as goal

pub returns : goal.returns
returns g c = read_nothing c.args.self.now.log c.is_faulted-faulted.ensures.images
