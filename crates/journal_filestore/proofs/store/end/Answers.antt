use Rattle.std.proofs.Common.{arith}
use Rattle.journal_twophase.specs.Transactions.{core_of}
use Rattle.journal_attempts.proofs.Refusing.{commit-refused}
use Rattle.journal_filestore.proofs.store.end.Goals as goal

pub returns-in-Err-clause-refusal : goal.returns-in-Err-clause-refusal
returns-in-Err-clause-refusal g c = commit-refused ⊥ (core_of c.args.txn) c.args.session.now _ (λ more. omega (arith, more, c.requires.few)) c.in-Err.ensures.refusal
