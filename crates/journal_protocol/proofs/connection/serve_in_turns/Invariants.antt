use Rattle.std.proofs.Common.{◌≡◌, length}
use Rattle.journal_protocol.specs.Serving.{starts, Pauses}
use Rattle.journal_protocol.proofs.connection.serve_in_turns.Given as goal

abbrev pub invariant-loop : goal.invariant-loop
invariant-loop g l =
    Pauses (g.P.Protocol.service l.answerer.protocol.now) (g.C.Clock.tells l.answerer.clock.now) (starts (g.R.Read.remaining l.fn.reader) (g.W.Write.contents l.fn.writer) (g.P.Protocol.seen l.fn.session) 0)
    (g.R.Read.remaining l.reader) (g.W.Write.contents l.writer) (g.P.Protocol.seen l.session) l.answered
    × (length l.buffer ≡ length l.fn.buffer)
