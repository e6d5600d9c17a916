use Rattle.std.proofs.Common.{◌++◌, List, ℕ, Option, ap, refl, ◌∙◌}
use Rattle.journal_nfs3_wire.specs.declared.procedure.Procedure.{Procedure}
use Rattle.journal_nfs3.proofs.Pendings.{on_err}
use Rattle.journal_rpc.specs.CallViews.{message_of}
use Rattle.journal_mount3.specs.CodeViews.{texts_of, wait_of}
use Rattle.journal_mount3.proofs.Answering.{answers_no_wait, awaits, sent_seen, loses}
use Rattle.journal_mount3.proofs.replying.answer_no_wait.Goals as goal

pub returns-clause-answered : goal.returns-clause-answered
returns-clause-answered g c = (
  _,
  c.in_ok-write_reply.ensures ∙ ap (λ (t : List ℕ). c.args.writer.now ++ t) (sent_seen c.args.call.now.xid c.run_no_wait-value.result.value),
  answers_no_wait _ _ _ _ (message_of c.args.call.now) _ _ c.run_no_wait-value.result.value c.run_no_wait-value.result.wait _ _ c.run_no_wait-value.ensures.comes c.run_no_wait-value.ensures.wait
      refl (c.awaited.ensures ∙ ap (λ (p : Option Procedure). wait_of p c.run_no_wait-value.result.wait) c.procedure_of.ensures),
)

pub returns-clause-awaited : goal.returns-clause-awaited
returns-clause-awaited g c = awaits (message_of c.args.call.now) c.run_no_wait-value.result.value c.run_no_wait-value.result.wait _ c.run_no_wait-value.ensures.wait (c.awaited.ensures ∙ ap (λ (p : Option Procedure). wait_of p c.run_no_wait-value.result.wait) c.procedure_of.ensures)

pub returns-in_err-write_reply-clause-lost : goal.returns-in_err-write_reply-clause-lost
returns-in_err-write_reply-clause-lost g c =
    on_err _ (loses _ _ _ _ (message_of c.args.call.now) _ _ (texts_of c.run_no_wait-value.result.value) c.run_no_wait-value.result.wait c.run_no_wait-value.ensures.comes)
