use Rattle.journal_protocol.proofs.Settling.{told_same, told_refusal}
use Rattle.journal_protocol.proofs.reply_batch.append_reply.Goals as goal

pub returns-then-is_stable-clause-settles : goal.returns-then-is_stable-clause-settles
returns-then-is_stable-clause-settles g c =
    told_same (g.P.Protocol.replaces c.args.answerer.now.protocol.now) _ _ _ c.in-Some.wait _ _ _ c.in-Some.is (c.is_stable.ensures.stable c.if-is_stable.true) c.raw-then-is_stable.ensures.ok

pub returns-clause-settles : goal.returns-clause-settles
returns-clause-settles g c = told_refusal (g.P.Protocol.replaces c.args.answerer.now.protocol.now) _ _ _ c.in-Some.wait _ _ _ c.in-Some.is c.refused_reply.ensures.in_place
