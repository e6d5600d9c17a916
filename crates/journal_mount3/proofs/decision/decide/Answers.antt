use Rattle.std.proofs.Common.{◌∙◌, sym}
use Rattle.std.proofs.lemmas.Result.{err_from_is_err_and}
use Rattle.journal_rpc.specs.CallViews.{asked_of}
use Rattle.journal_mount3.proofs.Deciding.{asks_of_mount, asks_of_files, refused_by_mount, refused_by_files}
use Rattle.journal_mount3.proofs.decision.decide.Goals as goal

pub returns-in-Ok : goal.returns-in-Ok
returns-in-Ok c = c.decide_files.ensures ∙ sym (asks_of_files (asked_of c.args.call.now.asked) _ _ c.in-Ok.ensures.cases)

pub returns-in_err-request-in-ProgramUnavailable : goal.returns-in_err-request-in-ProgramUnavailable
returns-in_err-request-in-ProgramUnavailable c = let p = err_from_is_err_and c.from_residual.result c.from_residual.ensures.1 in rw (p.1, p.2) (refused_by_mount (asked_of c.args.call.now.asked) _ (rw c.in-ProgramUnavailable.is at c.in-Err.ensures.cases) c.in_err-request-in-ProgramUnavailable.ensures.cases)

pub returns-in_ok-request-in-ProgramUnavailable : goal.returns-in_ok-request-in-ProgramUnavailable
returns-in_ok-request-in-ProgramUnavailable c = c.decide_mount.ensures ∙ sym (asks_of_mount (asked_of c.args.call.now.asked) _ _ c.in_ok-request-in-ProgramUnavailable.ensures.cases)

pub returns-in_default : goal.returns-in_default
returns-in_default c = refused_by_files (asked_of c.args.call.now.asked) _ c.in-Err.ensures.cases c.in_default.not-ProgramUnavailable
