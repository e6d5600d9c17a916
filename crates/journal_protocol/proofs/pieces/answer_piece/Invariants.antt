use Rattle.std.proofs.Common.{◌≡◌, ◌≢◌, [], List, ℕ, Option, length}
use Rattle.journal_rpc.specs.declared.part.Part.TheVariants.{TooLong}
use Rattle.journal_protocol.specs.Output.{going}
use Rattle.journal_protocol.specs.Serving.{Start, SoFar}
use Rattle.journal_protocol.proofs.pieces.answer_piece.Given as goal

abbrev pub invariant-loop-piece : goal.invariant-loop-piece
invariant-loop-piece g l =
    ((start : Start) (left : Option (List ℕ))
    → SoFar (g.P.Protocol.service l.answerer.protocol.now) (g.C.Clock.tells l.answerer.clock.now) start left (g.W.Write.contents l.fn.writer) l.fn.piece l.fn.records (going (g.P.Protocol.seen l.fn.session)) l.fn.answered
    → SoFar (g.P.Protocol.service l.answerer.protocol.now) (g.C.Clock.tells l.answerer.clock.now) start left (g.W.Write.contents l.writer) l.piece.rest.now l.records (going (g.P.Protocol.seen l.session)) l.answered)
    × (l.records.records ≡ []) × (l.records.part ≢ TooLong)

abbrev pub decreases-loop-piece : goal.decreases-loop-piece
decreases-loop-piece g l = length l.piece.rest.now
