use Rattle.std.proofs.Common.{Option, ◌≡◌, [], List, ℕ, sym, subst, ◌∙◌}
use Rattle.std.proofs.lemmas.Bool.{eqb-true}
use Rattle.std.proofs.lemmas.List.{nil_from_length}
use Rattle.journal_rpc.proofs.Streams.{on_err}
use Rattle.journal_protocol.specs.Output.{going}
use Rattle.journal_protocol.specs.Serving.{Start, SoFar, GivenUp}
use Rattle.journal_protocol.proofs.Serving.{turn_loses, turn_breaks, turn_goes_on, turn_ends_bad, turn_ends_stopped}
use Rattle.journal_protocol.proofs.pieces.answer_piece.Goals as goal

pub loop-piece-init : goal.loop-piece-init
loop-piece-init g c = (λ start left h. h, c.requires.none, c.requires.short)

pub returns-in_err-outcome-clause-given_up : goal.returns-in_err-outcome-clause-given_up
returns-in_err-outcome-clause-given_up g c =
    let lost : (start : Start) (left : Option (List ℕ)) → SoFar (g.P.Protocol.service c.args.answerer.now.protocol.now) (g.C.Clock.tells c.args.answerer.now.clock.now) start left (g.W.Write.contents c.args.writer.now) c.args.piece.now c.args.records.now (going (g.P.Protocol.seen c.args.session.now)) c.args.answered.now
    → GivenUp (g.P.Protocol.service c.args.answerer.now.protocol.now) (g.C.Clock.tells c.args.answerer.now.clock.now) start left (g.W.Write.contents c.loop-piece.writer) (g.P.Protocol.seen c.answer_turn.new.session) = λ start left h.
    turn_loses _ _ (g.met.P.Protocol.lawful c.args.answerer.now.protocol.now) start left _ _ _ _ _ (c.loop-piece.invariant.0 start left h) _ (c.in_err-outcome.ensures.lost _) in
    on_err _ _ lost

pub returns-in_err-send_batch-clause-given_up : goal.returns-in_err-send_batch-clause-given_up
returns-in_err-send_batch-clause-given_up g c =
    let lost : (start : Start) (left : Option (List ℕ)) → SoFar (g.P.Protocol.service c.args.answerer.now.protocol.now) (g.C.Clock.tells c.args.answerer.now.clock.now) start left (g.W.Write.contents c.args.writer.now) c.args.piece.now c.args.records.now (going (g.P.Protocol.seen c.args.session.now)) c.args.answered.now
    → GivenUp (g.P.Protocol.service c.args.answerer.now.protocol.now) (g.C.Clock.tells c.args.answerer.now.clock.now) start left (g.W.Write.contents c.send_batch.new.writer) (g.P.Protocol.seen c.send_batch.new.session) = λ start left h.
    turn_breaks _ _ (g.met.P.Protocol.lawful c.args.answerer.now.protocol.now) _ _ start left _ _ _ c.in_ok-outcome.outcome _ _ _ _ _ _ _ _ c.in_ok-outcome.ensures.answered c.send_batch.ensures.extends c.send_batch.ensures.quiet (c.loop-piece.invariant.0 start left h) _ c.in_err-send_batch.ensures.in_part in
    on_err _ _ lost

pub returns-in-Bad-clause-sent : goal.returns-in-Bad-clause-sent
returns-in-Bad-clause-sent g c = λ start left h.
    turn_ends_bad _ _ (g.met.P.Protocol.lawful c.args.answerer.now.protocol.now) _ _ start left _ _ _ c.in_ok-outcome.outcome _ _ _ _ _ _ _ _ c.in_ok-outcome.ensures.answered c.send_batch.ensures.extends c.send_batch.ensures.quiet (c.loop-piece.invariant.0 start left h) _ c.in_ok-send_batch.ensures.sent c.in-Bad.is

pub returns-in-Ended-clause-sent : goal.returns-in-Ended-clause-sent
returns-in-Ended-clause-sent g c = λ start left h.
    turn_ends_stopped _ _ (g.met.P.Protocol.lawful c.args.answerer.now.protocol.now) _ _ start left _ _ _ c.in_ok-outcome.outcome _ _ _ _ _ _ _ _ c.in_ok-outcome.ensures.answered c.send_batch.ensures.extends c.send_batch.ensures.quiet (c.loop-piece.invariant.0 start left h) _ c.in_ok-send_batch.ensures.sent c.in-Ended.is

pub loop-piece-preserved : goal.loop-piece-preserved
loop-piece-preserved g c = (
  λ start left h.
      turn_goes_on _ _ (g.met.P.Protocol.lawful c.args.answerer.now.protocol.now) _ _ start left _ _ _ c.in_ok-outcome.outcome _ _ _ _ _ _ _ _ c.in_ok-outcome.ensures.answered c.send_batch.ensures.extends c.send_batch.ensures.quiet (c.loop-piece.invariant.0 start left h) _ c.in_ok-send_batch.ensures.sent c.in-GoesOn.is c.in_ok-outcome.ensures.none,
  c.in_ok-outcome.ensures.none,
  c.in_ok-outcome.ensures.short c.in-GoesOn.is,
)

pub loop-piece-smaller : goal.loop-piece-smaller
loop-piece-smaller g c = c.in_ok-outcome.ensures.shorter

pub returns-clause-sent : goal.returns-clause-sent
returns-clause-sent g c = λ start left h.
    let none : c.loop-piece.piece.rest.now ≡ [] = nil_from_length c.loop-piece.piece.rest.now (eqb-true _ _ (sym c.is_empty.ensures ∙ c.loop-piece-test.false)) in
    subst (λ (p : List ℕ). SoFar (g.P.Protocol.service c.args.answerer.now.protocol.now) (g.C.Clock.tells c.args.answerer.now.clock.now) start left (g.W.Write.contents c.loop-piece.writer) p c.loop-piece.records (going (g.P.Protocol.seen c.loop-piece.session)) c.loop-piece.answered) none (c.loop-piece.invariant.0 start left h)

pub returns-clause-short : goal.returns-clause-short
returns-clause-short g c = λ is. (c.loop-piece.invariant.1, c.loop-piece.invariant.2)
