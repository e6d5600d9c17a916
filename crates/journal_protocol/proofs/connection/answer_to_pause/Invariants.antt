use Rattle.std.proofs.Common.{◌≡◌, ◌≢◌, [], length}
use Rattle.journal_rpc.specs.declared.part.Part.TheVariants.{TooLong}
use Rattle.journal_protocol.specs.Output.{going}
use Rattle.journal_protocol.specs.Serving.{Start, SoFar, Pauses}
use Rattle.journal_protocol.proofs.connection.answer_to_pause.Given as goal

abbrev pub invariant-loop : goal.invariant-loop
invariant-loop g l =
    ((start : Start)
    → Pauses (g.P.Protocol.service l.answerer.protocol.now) (g.C.Clock.tells l.answerer.clock.now) start (g.R.Read.remaining l.fn.reader) (g.W.Write.contents l.fn.writer) (g.P.Protocol.seen l.fn.session) l.fn.answered
    → SoFar (g.P.Protocol.service l.answerer.protocol.now) (g.C.Clock.tells l.answerer.clock.now) start (g.R.Read.remaining l.reader) (g.W.Write.contents l.writer) [] l.records (going (g.P.Protocol.seen l.session)) l.answered)
    × ((l.records.records ≡ []) × (l.records.part ≢ TooLong))
    × (length l.buffer ≡ length l.fn.buffer)
