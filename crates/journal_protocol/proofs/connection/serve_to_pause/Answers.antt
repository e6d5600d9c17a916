use Rattle.std.proofs.Common.{Option, subst}
use Rattle.journal_protocol.specs.declared.connection.End.{End}
use Rattle.journal_protocol.specs.Serving.{ServesTo}
use Rattle.journal_protocol.proofs.connection.serve_to_pause.Goals as goal

pub returns-in-Ok-Some-clause-served : goal.returns-in-Ok-Some-clause-served
returns-in-Ok-Some-clause-served g c = λ start h. (
  g.P.Protocol.seen c.answer_to_pause.new.session,
  c.fence-fenced.ensures.extends,
  subst (λ (o : Option End). ServesTo (g.P.Protocol.service c.args.answerer.now.protocol.now) (g.C.Clock.tells c.args.answerer.now.clock.now) o start (g.R.Read.remaining c.answer_to_pause.new.reader) (g.W.Write.contents c.answer_to_pause.new.writer) (g.P.Protocol.seen c.answer_to_pause.new.session) c.answer_to_pause.new.answered) c.in-Ok-Some.field-0-is
      (c.in-Ok-Some.ensures.served start h),
)

pub returns-in-Err-clause-given_up : goal.returns-in-Err-clause-given_up
returns-in-Err-clause-given_up g c = λ start h. (g.P.Protocol.seen c.answer_to_pause.new.session, c.fence.ensures.extends, c.in-Err.ensures.given_up start h)
