use Rattle.std.proofs.Common.{◌≡◌, ◌≢◌, ◌<◌, ◌≤◌, [], length}
use Rattle.journal_rpc.specs.declared.part.Part.TheVariants.{TooLong}
use Rattle.journal_protocol.specs.declared.replying.Outcome.TheVariants.{GoesOn}
use Rattle.journal_protocol.specs.Output.{going}
use Rattle.journal_protocol.specs.ReplyBatches.{IsHeld, IsInOrder, doing}
use Rattle.journal_protocol.specs.Sending.{Turned}
use Rattle.journal_protocol.proofs.replying.answer_turn.Given as goal

abbrev pub invariant-loop-batch : goal.invariant-loop-batch
invariant-loop-batch g l = record {
  answered : Turned (g.P.Protocol.service l.answerer.protocol.now).reads (IsHeld (g.P.Protocol.service l.answerer.protocol.now) (g.P.Protocol.replaces l.answerer.protocol.now) g.P.Receipt.Counted.commits (g.C.Clock.tells l.answerer.clock.now)) GoesOn
      l.fn.piece.rest.now l.piece.rest.now l.fn.records l.records (doing (going (g.P.Protocol.seen l.fn.session)) l.batch.replies.items) (doing (going (g.P.Protocol.seen l.session)) []) l.batch.bytes l.fn.answered l.answered;
  none : l.records.records ≡ [];
  short : l.records.part ≢ TooLong;
  in_order : IsInOrder g.P.Receipt.Counted.commits l.batch;
  some : 0 < length l.piece.rest.now;
  within : length l.piece.rest.now ≤ length l.fn.piece.rest.now;
}

abbrev pub decreases-loop-batch : goal.decreases-loop-batch
decreases-loop-batch g l = length l.piece.rest.now
