use Rattle.std.proofs.Common.{sym, subst}
use Rattle.journal_attempts.specs.Refusals.{IsAttemptEnd}
use Rattle.journal_attempts.proofs.Refusing.{read-refused}
use Rattle.journal_attempts.proofs.access.read.Goals as goal

pub returns-in-Err-clause-refusal : goal.returns-in-Err-clause-refusal
returns-in-Err-clause-refusal g c = subst IsAttemptEnd (sym c.at.ensures) (read-refused g.J.Naming.layout c.args.txn.now c.args.addr _ c.in-Err.ensures.refusal)
