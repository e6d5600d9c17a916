use Rattle.std.proofs.Common.{ap, refl}
use Rattle.journal_rpc.specs.CallViews.{asked_of}
use Rattle.journal_rpc.proofs.calls.Call.request.Goals as goal

pub returns-then-asked_program-program-clause-cases : goal.returns-then-asked_program-program-clause-cases
returns-then-asked_program-program-clause-cases c = let p = c.in-Procedure in (p.asked_program, p.asked_version, p.procedure, p.arguments.now, ap asked_of p.is, c.if-asked_program-program.true)

pub returns-then-asked_version-version-clause-cases : goal.returns-then-asked_version-version-clause-cases
returns-then-asked_version-version-clause-cases c =
    let p = c.in-Procedure in
    (p.asked_version, p.procedure, p.arguments.now, rw (← c.if-asked_program-program.false) (ap asked_of p.is), c.if-asked_version-version.true, refl)
