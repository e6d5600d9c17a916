use Rattle.journal_filestore.proofs.Ending.{IsDone-paid, IsFault-unpaid}
use Rattle.journal_filestore.proofs.store.FileStore.run.Goals as goal

pub returns-in-Ok-waited-clause-answered : goal.returns-in-Ok-waited-clause-answered
returns-in-Ok-waited-clause-answered g c =
    IsDone-paid (g.O.Operation.case c.args.operation.now) c.args.session.now c.run_no_wait.new.session c.wait_for-waited.new.session c.wait_for-waited.ensures.session c.seen-seen.ensures.sound.ruled _ c.in-Ok.done
    c.in-Ok.ensures.answered c.in-Ok-waited.ensures.paid (c.in-Ok-waited.ensures.exact c.in-Ok.ensures.answered.exact)

pub returns-in-Err-waited-clause-answered : goal.returns-in-Err-waited-clause-answered
returns-in-Err-waited-clause-answered g c =
    IsFault-unpaid (g.O.Operation.case c.args.operation.now) c.args.session.now c.run_no_wait.new.session c.wait_for-waited.new.session c.wait_for-waited.ensures.session c.seen-seen.ensures.sound.ruled _ c.in-Ok.done c.in-Err-waited.why
    c.in-Ok.ensures.answered c.in-Err-waited.ensures.owes
