use Rattle.std.proofs.Common.{◌∙◌, ap, length, take, drop, arith}
use Rattle.journal_rpc.proofs.Streams.{on_err, on_err_then, on_ok_then}
use Rattle.journal_protocol.proofs.Sends.{order_fits, breaks_before, sends_unwaited, waited_whole, waited_part, refused_whole, refused_part}
use Rattle.journal_protocol.proofs.reply_batch.send_batch.Goals as goal

pub split_at-requires : goal.split_at-requires
split_at-requires g c = let fits = order_fits g.P.Receipt.Counted.commits c.args.batch.now c.requires in omega (arith, fits, ap length c.as_bytes.ensures)

pub returns-in_err-send-clause-in_part : goal.returns-in_err-send-clause-in_part
returns-in_err-send-clause-in_part g c =
    on_err _ _ (breaks_before (g.P.Protocol.replaces c.args.answerer.now.protocol.now) g.P.Receipt.Counted.commits (g.met.P.Protocol.refusable c.args.answerer.now.protocol.now) c.args.batch.now c.requires _ (c.split_at.ensures.front ∙ ap (take c.args.batch.now.free) c.as_bytes.ensures) _ _ _ c.in_err-send.ensures.failed)

pub returns-in_default-clause-sent : goal.returns-in_default-clause-sent
returns-in_default-clause-sent g c =
    sends_unwaited (g.P.Protocol.replaces c.args.answerer.now.protocol.now) g.P.Receipt.Counted.commits (g.met.P.Protocol.refusable c.args.answerer.now.protocol.now) c.args.batch.now c.requires _ (c.split_at.ensures.front ∙ ap (take c.args.batch.now.free) c.as_bytes.ensures) _ _ _ c.in_default.is c.in_ok-send.ensures.whole

pub returns-in-Ok-clause-sent : goal.returns-in-Ok-clause-sent
returns-in-Ok-clause-sent g c =
    on_ok_then _ _ c.send-in-Ok.ensures.whole
    (waited_whole (g.P.Protocol.replaces c.args.answerer.now.protocol.now) g.P.Receipt.Counted.commits (g.met.P.Protocol.refusable c.args.answerer.now.protocol.now) c.args.batch.now c.requires _ (c.split_at.ensures.front ∙ ap (take c.args.batch.now.free) c.as_bytes.ensures) (g.P.Protocol.seen c.wait_stable.new.session).seen _ _ _ c.in_ok-send.ensures.whole
    c.in-Some.receipt c.in-Some.is c.in-Ok.ensures.stable _ (c.split_at.ensures.back ∙ ap (drop c.args.batch.now.free) c.as_bytes.ensures))

pub returns-in-Ok-clause-in_part : goal.returns-in-Ok-clause-in_part
returns-in-Ok-clause-in_part g c =
    on_err_then _ _ c.send-in-Ok.ensures.failed
    (waited_part (g.P.Protocol.replaces c.args.answerer.now.protocol.now) g.P.Receipt.Counted.commits (g.met.P.Protocol.refusable c.args.answerer.now.protocol.now) c.args.batch.now c.requires _ (c.split_at.ensures.front ∙ ap (take c.args.batch.now.free) c.as_bytes.ensures) (g.P.Protocol.seen c.wait_stable.new.session).seen _ _ _ c.in_ok-send.ensures.whole
    c.in-Some.receipt c.in-Some.is c.in-Ok.ensures.stable _ (c.split_at.ensures.back ∙ ap (drop c.args.batch.now.free) c.as_bytes.ensures))

pub returns-in-Err-clause-sent : goal.returns-in-Err-clause-sent
returns-in-Err-clause-sent g c =
    on_ok_then _ _ c.send_refused.ensures.sent
    (refused_whole (g.P.Protocol.replaces c.args.answerer.now.protocol.now) g.P.Receipt.Counted.commits (g.met.P.Protocol.refusable c.args.answerer.now.protocol.now) c.args.batch.now c.requires _ (c.split_at.ensures.front ∙ ap (take c.args.batch.now.free) c.as_bytes.ensures) _ _ _ _ c.in_ok-send.ensures.whole)

pub returns-in-Err-clause-in_part : goal.returns-in-Err-clause-in_part
returns-in-Err-clause-in_part g c =
    on_err_then _ _ c.send_refused.ensures.in_part
    (refused_part (g.P.Protocol.replaces c.args.answerer.now.protocol.now) g.P.Receipt.Counted.commits (g.met.P.Protocol.refusable c.args.answerer.now.protocol.now) c.args.batch.now c.requires _ (c.split_at.ensures.front ∙ ap (take c.args.batch.now.free) c.as_bytes.ensures) _ _ _ _ c.in_ok-send.ensures.whole)
