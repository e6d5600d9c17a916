use Rattle.std.proofs.Common.{◌++◌, List, ℕ, ap, ◌∙◌}
use Rattle.journal_nfs3.specs.Answers.{outcome_seen}
use Rattle.journal_nfs3.proofs.Pendings.{answers_no_wait, sent_seen, loses, on_err}
use Rattle.journal_nfs3.proofs.replying.answer_no_wait.Goals as goal

pub returns-clause-answered : goal.returns-clause-answered
returns-clause-answered g c =
    answers_no_wait _ _ _ c.args.call.now.xid _ _ _ (outcome_seen c.run_no_wait-value.result.value) c.run_no_wait-value.result.wait c.args.writer.now _ _ c.run_no_wait-value.ensures.comes
    (c.in_ok-write_reply.ensures ∙ ap (λ (t : List ℕ). c.args.writer.now ++ t) (sent_seen c.args.call.now.xid c.run_no_wait-value.result.value)) c.awaited.ensures

pub returns-in_err-write_reply-clause-lost : goal.returns-in_err-write_reply-clause-lost
returns-in_err-write_reply-clause-lost g c = on_err _ (loses _ _ _ _ _ _ _ (outcome_seen c.run_no_wait-value.result.value) c.run_no_wait-value.result.wait c.run_no_wait-value.ensures.comes)
