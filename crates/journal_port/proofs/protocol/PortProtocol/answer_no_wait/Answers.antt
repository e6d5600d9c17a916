use Rattle.std.proofs.Common.{refl}
use Rattle.journal_records.specs.Answers.{answer, told_of}
use Rattle.journal_records.specs.Frames.{framed}
use Rattle.journal_port.specs.Answers.{offer}
use Rattle.journal_port.proofs.Settling.{by_any, holds_found}
use Rattle.journal_port.proofs.protocol.PortProtocol.answer_no_wait.Goals as goal

pub returns-in-Ok-clause-held : goal.returns-in-Ok-clause-held
returns-in-Ok-clause-held g c =
    let some = g.met.K.Clock.some_moment c.args._clock.now in
    let told = c.in-Ok.ensures in (
      c.args.bytes.now,
      told.0,
      refl,
      told.1,
      record {
        moment = some.0;
        told = some.1;
        held = holds_found g.J.Naming.layout (offer c.args.self.now.terms (g.C.Counting.tells c.args.self.now.counting.now)) some.0 c.args.bytes.now c.args.session.now c.reply-told.new.session c.in-Ok.soon told.0 c.reply-told.result
            (c.read_request.result, c.read_request.ensures, c.reply-told.ensures) told.2;
      },
    )

pub returns-in-Err-NoMemory-clause-lost : goal.returns-in-Err-NoMemory-clause-lost
returns-in-Err-NoMemory-clause-lost g c =
    let some = g.met.K.Clock.some_moment c.args._clock.now in (
      c.args.bytes.now,
      some.0,
      refl,
      some.1,
      λ history. (
        framed (answer.spelling (told_of c.reply-told.result)),
        (c.reply-told.result, by_any g.J.Naming.layout (offer c.args.self.now.terms (g.C.Counting.tells c.args.self.now.counting.now)) history c.args.bytes.now c.args.session.now c.reply-told.new.session c.reply-told.result (c.read_request.result, c.read_request.ensures, c.reply-told.ensures), refl),
      ),
    )

pub returns-clause-lost : goal.returns-clause-lost
returns-clause-lost g c =
    let some = g.met.K.Clock.some_moment c.args._clock.now in (
      c.args.bytes.now,
      some.0,
      refl,
      some.1,
      λ history. (
        framed (answer.spelling (told_of c.reply-told.result)),
        (c.reply-told.result, by_any g.J.Naming.layout (offer c.args.self.now.terms (g.C.Counting.tells c.args.self.now.counting.now)) history c.args.bytes.now c.args.session.now c.reply-told.new.session c.reply-told.result (c.read_request.result, c.read_request.ensures, c.reply-told.ensures), refl),
      ),
    )
