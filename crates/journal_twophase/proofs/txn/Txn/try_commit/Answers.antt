use Rattle.std.proofs.Common.{List, sym, subst}
use Rattle.journal_lockmap.specs.Numbers.{HeldState}
use Rattle.journal_twophase.specs.Transactions.{KeepsHeld}
use Rattle.journal_twophase.proofs.Committing.{since_begin}
use Rattle.journal_twophase.proofs.txn.Txn.try_commit.Goals as goal

pub returns-clause-committed : goal.returns-clause-committed
returns-clause-committed g c =
    rw (← c.self.view_is) (since_begin g.R.MapRule.statement g.J.Naming.layout c.self.inside.began c.self.inside.transaction c.args.session.now c.commit-answer.new.session c.commit-answer.result
    c.self.invariant.0 c.commit-answer.ensures.committed)

pub returns-clause-refusal : goal.returns-clause-refusal
returns-clause-refusal g c = rw (← c.self.view_is) c.commit-answer.ensures.refusal

pub commit-answer-requires-clause-held : goal.commit-answer-requires-clause-held
commit-answer-requires-clause-held g c =
    subst (λ (l : List HeldState). KeepsHeld g.J.Naming.layout l c.self.inside.transaction) (sym c.deref_mut.ensures.value) c.self.invariant.1
