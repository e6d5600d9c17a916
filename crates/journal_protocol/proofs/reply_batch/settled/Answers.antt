use Rattle.std.proofs.Common.{sym}
use Rattle.journal_protocol.proofs.Settling.{none_of_none, tells_one, told_all}
use Rattle.journal_protocol.proofs.reply_batch.settled.Goals as goal

pub loop-held-preserved : goal.loop-held-preserved
loop-held-preserved g c =
    tells_one (g.P.Protocol.replaces c.args.answerer.now.protocol.now) c.args.batch.now.replies.items c.args.batch.now.bytes (g.P.Protocol.seen c.args.session.now) (g.P.Protocol.seen c.loop-held.session) (g.P.Protocol.seen c.append_reply.new.session) c.in-Some.held.now c.loop-held.replies.now c.in-Some.others.now c.loop-held.bytes.now _ _ c.loop-held.told c.append_reply.new.told
    c.in-Some.ensures.cases.0 c.split_at.ensures.front c.split_at.ensures.back c.in_ok-append_reply.ensures.extends c.in_ok-append_reply.ensures.settles c.loop-held.invariant

pub returns-clause-settles : goal.returns-clause-settles
returns-clause-settles g c =
    told_all (g.P.Protocol.replaces c.args.answerer.now.protocol.now) _ _ (g.P.Protocol.seen c.loop-held.session) c.loop-held.replies.now c.loop-held.bytes.now c.loop-held.told (none_of_none c.loop-held.replies.now (sym c.in_default.ensures.cases)) c.loop-held.invariant.0 c.loop-held.invariant.2
