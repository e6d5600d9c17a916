use Rattle.std.proofs.lemmas.Result.{IfErr-weaker}
use Rattle.journal_twophase.specs.Transactions.{core_of}
use Rattle.journal_attempts.proofs.Refusing.{commit-refused}
use Rattle.journal_treefs.proofs.transaction.JournalTransaction.commit.Goals as goal

pub returns-clause-refusal : goal.returns-clause-refusal
returns-clause-refusal g c = IfErr-weaker c.commit.result _ _ (λ why. commit-refused _ (core_of c.args.self.txn) c.args.session.now why (λ more. more)) c.commit.ensures.refusal
