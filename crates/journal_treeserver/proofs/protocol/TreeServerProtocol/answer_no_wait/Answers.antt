use Rattle.journal_rpc.specs.CallViews.{message_of}
use Rattle.journal_protocol.specs.Moments.{time_of}
use Rattle.journal_treeserver.specs.CodeViews.{served_as}
use Rattle.journal_treeserver.proofs.Holding.{is_held}
use Rattle.journal_treeserver.proofs.protocol.TreeServerProtocol.answer_no_wait.Goals as goal

pub returns-in-Ok-clause-held : goal.returns-in-Ok-clause-held
returns-in-Ok-clause-held g c =
    let S = served_as c.args.self.now.store.now.cut c.args.self.now.export in
    let call = message_of c.in-Some.call in
    let now = time_of c.now.result in
    let held = c.in-Ok.ensures.held in (
      call,
      held.text,
      c.in-Some.ensures.reading,
      held.written,
      record { moment = now; told = c.now.ensures; held = is_held S now call c.args.session.now c.answer.new.session c.in-Ok.held c.args.writer.now c.answer.new.writer held },
    )

pub returns-in-Err-clause-lost : goal.returns-in-Err-clause-lost
returns-in-Err-clause-lost g c = (message_of c.in-Some.call, time_of c.now.result, c.in-Some.ensures.reading, c.now.ensures, c.in-Err.ensures.lost)
