use Rattle.journal_protocol.specs.Moments.{time_of}
use Rattle.journal_treewire.specs.Requests.{request_of}
use Rattle.journal_treeserver.specs.CodeViews.{served_as}
use Rattle.journal_treeserver.proofs.Copies.{not_begun_lost}
use Rattle.journal_treeserver.proofs.Holding.{on_err}
use Rattle.journal_treeserver.proofs.server.TreeServer.answer_once.Goals as goal

pub returns-in_err-again-clause-lost : goal.returns-in_err-again-clause-lost
returns-in_err-again-clause-lost g c =
    on_err _ (not_begun_lost (served_as c.args.self.now.store.now.cut c.args.self.now.export) (time_of c.args.moment) c.args.sent.now.xid c.args.caller (request_of c.args.requested.now) c.args.session.now)
