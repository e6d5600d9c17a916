use Rattle.journal_nfs3.proofs.Pendings.{on_err, settled_no_wait, waited_no_wait, unsure_lost, unsure_told}
use Rattle.journal_nfs3.proofs.replying.answer.Goals as goal

pub returns-in_err-wait-clause-lost : goal.returns-in_err-wait-clause-lost
returns-in_err-wait-clause-lost g c = on_err _ (c.in_err-wait.ensures.lost c.answer_no_wait.new.session.seen)

pub returns-in-None-clause-answered : goal.returns-in-None-clause-answered
returns-in-None-clause-answered g c = settled_no_wait _ _ _ _ _ _ _ _ _ c.in_ok-wait.wait c.in_ok-wait.ensures.answered _ c.new-reply.ensures c.into_bytes.ensures c.in-None.is

pub returns-in-Ok-clause-answered : goal.returns-in-Ok-clause-answered
returns-in-Ok-clause-answered g c =
    waited_no_wait _ _ _ _ _ _ _ _ _ c.in_ok-wait.wait c.in_ok-wait.ensures.answered _ c.in-Some.awaited c.in-Some.is c.in-Ok.ensures.session c.seen-seen.ensures.sound.ruled
    _ c.new-reply.ensures c.into_bytes-in-Ok.ensures c.in-Ok._note.count c.in-Ok.ensures.stable.covers c.in-Ok.ensures.stable.marked c.in-Ok.ensures.exact

pub returns-clause-answered : goal.returns-clause-answered
returns-clause-answered g c =
    unsure_told _ _ _ _ _ _ _ _ _ c.in_ok-wait.wait c.in_ok-wait.ensures.answered _ c.in-Some.awaited c.in-Some.is c.in-Err.ensures.session c.seen-seen.ensures.sound.ruled c.in-Err.why
    _ _ _ c.clear.ensures c.in_ok-refused_reply-in-Err.ensures.text c.into_bytes-in-Err.ensures

pub returns-in_err-refused_reply-in-Err-clause-lost : goal.returns-in_err-refused_reply-in-Err-clause-lost
returns-in_err-refused_reply-in-Err-clause-lost g c =
    unsure_lost _ _ _ _ _ _ _ _ _ c.in_ok-wait.wait c.in_ok-wait.ensures.answered _ c.in-Some.awaited c.in-Some.is c.in-Err.ensures.session c.seen-seen.ensures.sound.ruled c.in-Err.why _
