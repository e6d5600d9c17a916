use Rattle.std.proofs.Common.{sym, subst}
use Rattle.journal_attempts.specs.Refusals.{IsAttemptEnd}
use Rattle.journal_attempts.proofs.Refusing.{overwrite-refused}
use Rattle.journal_attempts.proofs.access.overwrite.Goals as goal

pub returns-in-Err-clause-refusal : goal.returns-in-Err-clause-refusal
returns-in-Err-clause-refusal g c = subst IsAttemptEnd (sym c.at.ensures) (overwrite-refused g.J.Naming.layout c.args.txn.now c.args.addr c.args.bytes.now _ c.requires.kind c.in-Err.ensures.refusal)
