use Rattle.std.proofs.Common.{◌≡◌, [], List, ℕ, take, refl, sym, ap, subst, ◌∙◌}
use Rattle.journal_rpc.specs.declared.part.Part.{Part}
use Rattle.journal_rpc.specs.declared.part.Part.TheVariants as part
use Rattle.journal_rpc.specs.Stream.{Stream, fresh}
use Rattle.journal_rpc.proofs.Streams.{on_err}
use Rattle.journal_protocol.specs.declared.replying.Outcome.TheVariants.{GoesOn, Bad, Ended}
use Rattle.journal_protocol.specs.Output.{going}
use Rattle.journal_protocol.specs.Serving.{Start, SoFar, Pauses, GivenUp}
use Rattle.journal_protocol.proofs.Serving.{Keeps-Consumes, on_stream, reads_piece, pauses_here, gives_up, ends_quiet, comes_to}
use Rattle.journal_protocol.proofs.connection.answer_to_pause.Goals as goal

pub loop-init : goal.loop-init
loop-init g c =
    let is : c.new-records.result ≡ fresh (g.P.Protocol.service c.args.answerer.now.protocol.now).marking = c.new-records.ensures ∙ ap fresh c.marking-marking.ensures in (
      λ start h. on_stream _ _ start _ _ [] _ c.new-records.result _ _ (sym is) h,
      (ap (λ (t : Stream). t.records) is, λ long. let p : c.new-records.result.part ≡ part.Start = ap (λ (t : Stream). t.part) is in absurd cc),
      refl,
    )

pub returns-then-is_to_pause-clause-served : goal.returns-then-is_to_pause-clause-served
returns-then-is_to_pause-clause-served g c = λ start h. pauses_here _ _ start _ _ _ _ _ c.loop.invariant.1.0 (c.is_to_pause.ensures.between c.if-is_to_pause.true) (c.loop.invariant.0 start h)

pub loop-preserved-in-Err-NotYet : goal.loop-preserved-in-Err-NotYet
loop-preserved-in-Err-NotYet g c =
    (λ start h. reads_piece _ _ start _ _ _ [] _ _ _ (Keeps-Consumes _ _ c.in-Err-NotYet.ensures.failed) (c.loop.invariant.0 start h), c.loop.invariant.1, c.read_piece.auto.buffer ∙ c.loop.invariant.2)

pub returns-in-Err-Failed-clause-given_up : goal.returns-in-Err-Failed-clause-given_up
returns-in-Err-Failed-clause-given_up g c = λ start h.
    gives_up _ _ (g.met.P.Protocol.lawful c.args.answerer.now.protocol.now) start _ _ _ _ _ _ (reads_piece _ _ start _ _ _ [] _ _ _ (Keeps-Consumes _ _ c.in-Err-Failed.ensures.failed) (c.loop.invariant.0 start h))

pub returns-then-count-eq0-clause-served : goal.returns-then-count-eq0-clause-served
returns-then-count-eq0-clause-served g c = λ start h.
    let read = c.in-Ok.ensures in
    let none : take c.in-Ok.count c.read_piece.new.buffer ≡ [] = ap (λ (k : ℕ). take k c.read_piece.new.buffer) c.if-count-eq0.true in
    ends_quiet _ _ start _ _ _ _ _ _ c.end_of.ensures.end (read.at_end c.if-count-eq0.true) c.loop.invariant.1.0 c.loop.invariant.1.1
    (subst (λ (p : List ℕ). SoFar (g.P.Protocol.service c.args.answerer.now.protocol.now) (g.C.Clock.tells c.args.answerer.now.clock.now) start (g.R.Read.remaining c.read_piece.new.reader) (g.W.Write.contents c.loop.writer) p c.loop.records (going (g.P.Protocol.seen c.loop.session)) c.loop.answered) none
    (reads_piece _ _ start _ _ _ _ _ _ _ read.piece (c.loop.invariant.0 start h)))

pub answer_piece-requires : goal.answer_piece-requires
answer_piece-requires g c = record { none = c.loop.invariant.1.0; short = c.loop.invariant.1.1 }

pub returns-in_err-outcome-clause-given_up : goal.returns-in_err-outcome-clause-given_up
returns-in_err-outcome-clause-given_up g c =
    let lost : (start : Start) → Pauses (g.P.Protocol.service c.args.answerer.now.protocol.now) (g.C.Clock.tells c.args.answerer.now.clock.now) start (g.R.Read.remaining c.args.reader.now) (g.W.Write.contents c.args.writer.now) (g.P.Protocol.seen c.args.session.now) c.args.answered.now
    → GivenUp (g.P.Protocol.service c.args.answerer.now.protocol.now) (g.C.Clock.tells c.args.answerer.now.clock.now) start (g.R.Read.remaining c.read_piece.new.reader) (g.W.Write.contents c.answer_piece.new.writer) (g.P.Protocol.seen c.answer_piece.new.session) = λ start h. c.in_err-outcome.ensures.given_up start _ (reads_piece _ _ start _ _ _ _ _ _ _ c.in-Ok.ensures.piece (c.loop.invariant.0 start h)) in
    on_err _ _ lost

pub returns-in-Bad-clause-served : goal.returns-in-Bad-clause-served
returns-in-Bad-clause-served g c = λ start h.
    comes_to _ _ c.in_ok-outcome.outcome Bad start _ _ [] _ _ _ c.in-Bad.is (c.in_ok-outcome.ensures.sent start _ (reads_piece _ _ start _ _ _ _ _ _ _ c.in-Ok.ensures.piece (c.loop.invariant.0 start h)))

pub returns-in-Ended-clause-served : goal.returns-in-Ended-clause-served
returns-in-Ended-clause-served g c = λ start h.
    comes_to _ _ c.in_ok-outcome.outcome Ended start _ _ [] _ _ _ c.in-Ended.is (c.in_ok-outcome.ensures.sent start _ (reads_piece _ _ start _ _ _ _ _ _ _ c.in-Ok.ensures.piece (c.loop.invariant.0 start h)))

pub loop-preserved : goal.loop-preserved
loop-preserved g c = (
  λ start h. comes_to _ _ c.in_ok-outcome.outcome GoesOn start _ _ [] _ _ _ c.in-GoesOn.is (c.in_ok-outcome.ensures.sent start _ (reads_piece _ _ start _ _ _ _ _ _ _ c.in-Ok.ensures.piece (c.loop.invariant.0 start h))),
  c.in_ok-outcome.ensures.short c.in-GoesOn.is,
  c.read_piece.auto.buffer ∙ c.loop.invariant.2,
)
