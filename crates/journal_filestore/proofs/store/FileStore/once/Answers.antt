use Rattle.std.proofs.Common.{Ok, subst}
use Rattle.journal_filestore.specs.Done.{IsAnsweredNoWait}
use Rattle.journal_filestore.proofs.Ending.{IsCommittedBy-ended, IsSoon-later}
use Rattle.journal_filestore.proofs.store.FileStore.once.Goals as goal

pub returns-in-Ok-end-clause-answered : goal.returns-in-Ok-end-clause-answered
returns-in-Ok-end-clause-answered g c =
    subst (λ w. IsAnsweredNoWait g.V.Version.VERSION w (g.O.Operation.case c.args.operation.now) c.args.session.now c.end.new.session (Ok (record { answer = c.in-Ok.answer; wait = c.in-Ok-end.wait }))) c.waits.ensures
    (IsSoon-later g.V.Version.VERSION (g.O.Operation.case c.args.operation.now) c.args.session.now c.begin-txn.new.session c.end.new.session c.begin-txn.ensures.session c.waits.result (Ok (record { answer = c.in-Ok.answer; wait = c.in-Ok-end.wait }))
    (IsCommittedBy-ended (g.O.Operation.case c.args.operation.now) c.in-Ok.answer g.J.Naming.layout c.attempt.new.txn c.waits.result c.is_awaited-waits.result c.begin-txn.new.session c.end.new.session c.in-Ok-end.ensures.ended.receipt c.in-Ok-end.wait
    c.is_awaited-waits.ensures.success c.is_awaited-waits.ensures.waits c.in-Ok-end.ensures.ended.owes c.in-Ok-end.ensures.ended.committed c.in-Ok.ensures.does))
