use Rattle.std.proofs.Common.{List, arith}
use Rattle.journal_world.specs.Histories.{Entry}
use Rattle.journal_rpc.proofs.Streams.{on_err}
use Rattle.journal_protocol.specs.declared.replying.Outcome.TheVariants.{GoesOn, Bad, Ended}
use Rattle.journal_protocol.specs.Output.{IsReplyBy}
use Rattle.journal_protocol.specs.Sending.{Lost}
use Rattle.journal_protocol.proofs.Turning.{some_left, turn_begins, turn_next, turn_lost}
use Rattle.journal_protocol.proofs.replying.answer_turn.Goals as goal

pub loop-batch-init : goal.loop-batch-init
loop-batch-init g c = record {
  answered = turn_begins _ _ _ _ _ _ _ c.clear.new.self _ c.requires.none c.clear.ensures.replies c.clear.ensures.bytes;
  none = c.requires.none;
  short = c.requires.short;
  in_order = c.clear.ensures.in_order;
  some = c.requires.some;
  within = omega arith;
}

pub returns-in_err-answer_next-clause-lost : goal.returns-in_err-answer_next-clause-lost
returns-in_err-answer_next-clause-lost g c =
    let s = g.P.Protocol.service c.args.answerer.now.protocol.now in
    let replaces = g.P.Protocol.replaces c.args.answerer.now.protocol.now in
    let commits = g.P.Receipt.Counted.commits in
    let tells = g.C.Clock.tells c.args.answerer.now.clock.now in
    let i = c.loop-batch.invariant in
    let lost : (history : List Entry) → Lost s.reads (IsReplyBy s.does tells history) c.args.piece.now.rest.now c.args.records.now (g.P.Protocol.seen c.args.session.now) (g.P.Protocol.seen c.answer_next.new.session) = λ history.
    turn_lost s replaces commits tells _ _ _ _ _ _ c.loop-batch.batch _ _ i.answered i.none (g.met.P.Protocol.lawful c.args.answerer.now.protocol.now) (g.met.P.Protocol.refusable c.args.answerer.now.protocol.now) history _ i.in_order.fits (c.in_err-answer_next.ensures.lost history) in
    on_err _ _ lost

pub returns-in-Bad-clause-answered : goal.returns-in-Bad-clause-answered
returns-in-Bad-clause-answered g c =
    let s = g.P.Protocol.service c.args.answerer.now.protocol.now in
    let replaces = g.P.Protocol.replaces c.args.answerer.now.protocol.now in
    let commits = g.P.Receipt.Counted.commits in
    let tells = g.C.Clock.tells c.args.answerer.now.clock.now in
    let i = c.loop-batch.invariant in
    turn_next s replaces commits tells _ _ _ _ _ _ c.loop-batch.batch _ _ i.answered i.none c.in_ok-answer_next.field-0 Bad _ _ _ _ _ c.in-Bad.is c.in_ok-answer_next.ensures.answered

pub returns-in-Ended-clause-answered : goal.returns-in-Ended-clause-answered
returns-in-Ended-clause-answered g c =
    let s = g.P.Protocol.service c.args.answerer.now.protocol.now in
    let replaces = g.P.Protocol.replaces c.args.answerer.now.protocol.now in
    let commits = g.P.Receipt.Counted.commits in
    let tells = g.C.Clock.tells c.args.answerer.now.clock.now in
    let i = c.loop-batch.invariant in
    turn_next s replaces commits tells _ _ _ _ _ _ c.loop-batch.batch _ _ i.answered i.none c.in_ok-answer_next.field-0 Ended _ _ _ _ _ c.in-Ended.is c.in_ok-answer_next.ensures.answered

pub returns-then-is_empty-clause-answered : goal.returns-then-is_empty-clause-answered
returns-then-is_empty-clause-answered g c =
    let s = g.P.Protocol.service c.args.answerer.now.protocol.now in
    let replaces = g.P.Protocol.replaces c.args.answerer.now.protocol.now in
    let commits = g.P.Receipt.Counted.commits in
    let tells = g.C.Clock.tells c.args.answerer.now.clock.now in
    let i = c.loop-batch.invariant in
    turn_next s replaces commits tells _ _ _ _ _ _ c.loop-batch.batch _ _ i.answered i.none c.in_ok-answer_next.field-0 GoesOn _ _ _ _ _ c.in-GoesOn.is c.in_ok-answer_next.ensures.answered

pub loop-batch-preserved : goal.loop-batch-preserved
loop-batch-preserved g c =
    let s = g.P.Protocol.service c.args.answerer.now.protocol.now in
    let replaces = g.P.Protocol.replaces c.args.answerer.now.protocol.now in
    let commits = g.P.Receipt.Counted.commits in
    let tells = g.C.Clock.tells c.args.answerer.now.clock.now in
    let i = c.loop-batch.invariant in
    record {
      answered = turn_next s replaces commits tells _ _ _ _ _ _ c.loop-batch.batch _ _ i.answered i.none c.in_ok-answer_next.field-0 GoesOn _ _ _ _ _ c.in-GoesOn.is c.in_ok-answer_next.ensures.answered;
      none = c.in_ok-answer_next.ensures.none;
      short = c.in_ok-answer_next.ensures.short c.in-GoesOn.is;
      in_order = c.in_ok-answer_next.ensures.in_order;
      some = some_left c.answer_next.new.piece.rest.now c.is_empty.result c.is_empty.ensures c.if-is_empty.false;
      within = omega (arith, c.in_ok-answer_next.ensures.shorter, i.within);
    }
