use Rattle.std.proofs.Common.{sym, subst, Option, false}
use Rattle.journal_history.specs.Tokens.{CommitPlace}
use Rattle.journal_nfs3.specs.Answers.{pending_wait_for}
use Rattle.journal_nfs3.specs.Served.{awaiting, marked}
use Rattle.journal_rpc.specs.CallViews.{message_of}
use Rattle.journal_protocol.specs.declared.held_reply.HeldWait.{HeldWait}
use Rattle.journal_protocol.specs.Protocols.{IsHeldReply}
use Rattle.journal_server.specs.declared.file_protocol.AwaitedCall.{AwaitedCall}
use Rattle.journal_server.specs.FileProtocols.{service_by, replaced_by}
use Rattle.journal_server.proofs.Holding.{commits_of, holds_file}
use Rattle.journal_server.proofs.file_protocol.FilesOfProtocol.answer_no_wait.Goals as goal

pub returns-in-Ok-clause-held : goal.returns-in-Ok-clause-held
returns-in-Ok-clause-held g c =
    let answers = g.P.FileProtocol.answers c.args.self.now.protocol.now in
    let call = message_of c.in-Some.call in
    let old = c.args.session.now in
    let new = c.answer_no_wait.new.session in
    let at = c.moment_of-moment.ensures.moment in
    let told = c.in-Ok.ensures.answered in
    let held = subst (λ (wait : Option (HeldWait AwaitedCall CommitPlace)). IsHeldReply (service_by answers) (replaced_by answers) commits_of at.0 call old new (record { wait = wait; ends = false }) told.0) (sym c.held_wait.ensures.held)
    (holds_file answers (g.met.P.FileProtocol.lawful c.args.self.now.protocol.now) at.0 call old new c.in-Ok.wait told.0 (at.2 (awaiting (pending_wait_for c.in-Ok.wait)) old new told.0 told.2) c.in-Ok.ensures.awaited) in
    (call, told.0, c.in-Some.ensures.reading, told.1, record { moment = at.0; told = at.1; held = held })

pub returns-in-Err-clause-lost : goal.returns-in-Err-clause-lost
returns-in-Err-clause-lost g c =
    let at = c.moment_of-moment.ensures.moment in
    let old = c.args.session.now in
    let new = c.answer_no_wait.new.session in (
      message_of c.in-Some.call,
      at.0,
      c.in-Some.ensures.reading,
      at.1,
      λ history.
          let lost = c.in-Err.ensures.lost history in
          (lost.0, at.2 (marked history) old new lost.0 lost.1),
    )
