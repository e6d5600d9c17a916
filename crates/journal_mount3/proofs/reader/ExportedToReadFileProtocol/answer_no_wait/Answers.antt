use Rattle.std.proofs.Common.{◌≡◌, Bool, true, false, List, Result, Ok, refl, sym, ap, subst, ◌∙◌}
use Rattle.std.proofs.lemmas.Result.{IfOk-weaker, on_err_weaker}
use Rattle.journal_rpc.specs.declared.replies.CallRefused.{CallRefused}
use Rattle.journal_rpc.specs.CallViews.{asked_of, message_of}
use Rattle.journal_filestore.specs.Handles.{time_of}
use Rattle.journal_file_types.specs.declared.pending_wait.PendingWait.TheVariants.{Nothing}
use Rattle.journal_nfs3.specs.Served.{awaiting}
use Rattle.journal_nfs3.specs.Answers.{pending_wait_for}
use Rattle.journal_nfs3.proofs.Pendings.{on_err}
use Rattle.journal_mount3.specs.Calls.{Requested, asks}
use Rattle.journal_mount3.specs.Readers.{is_denied, reading_of}
use Rattle.journal_mount3.proofs.Denying.{denies, grants, reads, loses_denied, loses_granted, loses_read}
use Rattle.journal_mount3.proofs.reader.ExportedToReadFileProtocol.answer_no_wait.Goals as goal

pub returns-then-is_denied-clause-answered : goal.returns-then-is_denied-clause-answered
returns-then-is_denied-clause-answered g c =
    let denied = ap is_denied (sym c.decide-requested.ensures) ∙ sym c.is_denied.ensures ∙ c.if-is_denied.true in
    (_, c.in_ok-deny.ensures, denies g.V.Version.VERSION c.args.self.now.exported.layout.blocks c.args.self.now.exported.verifier.0 (time_of c.args.moment) (message_of c.args.call.now) _ _ (awaiting Nothing) _ denied refl refl refl)

pub returns-in_err-deny-clause-lost : goal.returns-in_err-deny-clause-lost
returns-in_err-deny-clause-lost g c =
    let denied = ap is_denied (sym c.decide-requested.ensures) ∙ sym c.is_denied.ensures ∙ c.if-is_denied.true in
    on_err _ (loses_denied g.V.Version.VERSION c.args.self.now.exported.layout.blocks c.args.self.now.exported.verifier.0 (time_of c.args.moment) (message_of c.args.call.now) _ _ denied refl)

pub returns-in_ok-grant-in-Some-clause-answered : goal.returns-in_ok-grant-in-Some-clause-answered
returns-in_ok-grant-in-Some-clause-answered g c =
    let access = sym c.in-Some.ensures.access ∙ c.decide-requested.ensures in
    let h = rw c.at-now.ensures at c.in_ok-grant-in-Some.ensures.granted in
    (_, h.2, grants g.V.Version.VERSION c.args.self.now.exported.layout.blocks c.args.self.now.exported.verifier.0 (time_of c.args.moment) (message_of c.args.call.now) _ _ (awaiting Nothing) _ h.0 _ _ access refl h.1 refl)

pub returns-in_err-grant-in-Some-clause-lost : goal.returns-in_err-grant-in-Some-clause-lost
returns-in_err-grant-in-Some-clause-lost g c =
    let access = sym c.in-Some.ensures.access ∙ c.decide-requested.ensures in
    let h = rw c.at-now.ensures at c.in_err-grant-in-Some.ensures.lost in
    on_err _ (loses_granted g.V.Version.VERSION c.args.self.now.exported.layout.blocks c.args.self.now.exported.verifier.0 (time_of c.args.moment) (message_of c.args.call.now) _ _ h.0 _ _ access h.1)

pub returns-in-None-clause-answered : goal.returns-in-None-clause-answered
returns-in-None-clause-answered g c =
    let plain = ap is_denied (sym c.decide-requested.ensures) ∙ sym c.is_denied.ensures ∙ c.if-is_denied.false in
    let other = subst (λ (r : Result Requested CallRefused). reading_of r ≡ r) c.decide-requested.ensures c.in-None.ensures.other in
    IfOk-weaker c.answer_no_wait.result _ _
    (λ wait a. (a.0, a.1, reads g.V.Version.VERSION c.args.self.now.exported.layout.blocks c.args.self.now.exported.verifier.0 (time_of c.args.moment) (message_of c.args.call.now) _ _ (awaiting (pending_wait_for wait)) _ plain other a.2))
    c.answer_no_wait.ensures.answered

pub returns-in-None-clause-lost : goal.returns-in-None-clause-lost
returns-in-None-clause-lost g c =
    let plain = ap is_denied (sym c.decide-requested.ensures) ∙ sym c.is_denied.ensures ∙ c.if-is_denied.false in
    let other = subst (λ (r : Result Requested CallRefused). reading_of r ≡ r) c.decide-requested.ensures c.in-None.ensures.other in
    on_err_weaker c.answer_no_wait.result
    (λ lost. loses_read g.V.Version.VERSION c.args.self.now.exported.layout.blocks c.args.self.now.exported.verifier.0 (time_of c.args.moment) (message_of c.args.call.now) _ _ plain other lost)
    c.answer_no_wait.ensures.lost
