use Rattle.std.proofs.Common.{List, Result, IfOk, sym, subst}
use Rattle.journal_world.specs.declared.refusal.Refusal.{Refusal}
use Rattle.journal_history.specs.Tokens.{CommitPlace}
use Rattle.journal_lockmap.specs.Numbers.{HeldState}
use Rattle.journal_memory.specs.Causes.{CauseState}
use Rattle.journal_twophase.specs.Transactions.{KeepsHeld}
use Rattle.journal_twophase.specs.Commits.{IsCommitted}
use Rattle.journal_twophase.proofs.Committing.{waited, unsure}
use Rattle.journal_twophase.proofs.txn.Txn.commit_wait.Goals as goal

pub commit_under-memory-requires-clause-held : goal.commit_under-memory-requires-clause-held
commit_under-memory-requires-clause-held g c =
    subst (λ (l : List HeldState). KeepsHeld g.J.Naming.layout l c.self.inside.transaction) (sym c.deref_mut.ensures.value) c.self.invariant.1

pub returns-in-Ok-clause-committed : goal.returns-in-Ok-clause-committed
returns-in-Ok-clause-committed g c =
    let t = c.self.inside.transaction in
    let s = c.args.session.now in
    let mid = c.commit_under-memory.new.session in
    let done : IsCommitted g.R.MapRule.statement g.J.Naming.layout t.seen t s mid c.in-Ok.receipt =
    subst (λ (answer : Result CommitPlace (Refusal CauseState)). IfOk answer (IsCommitted g.R.MapRule.statement g.J.Naming.layout t.seen t s mid)) c.in-Ok.is c.commit_under-memory.ensures.committed in
    let waits = c.await_mark.ensures in
    rw (← c.self.view_is) (waited g.R.MapRule.statement g.J.Naming.layout c.self.inside.began t s mid c.await_mark.new.session c.in-Ok.receipt c.await_mark.result
    c.self.invariant.0 done waits.session (waits.keeps done.exact) waits.known waits.receipt)

pub returns-in-Ok-clause-fault : goal.returns-in-Ok-clause-fault
returns-in-Ok-clause-fault g c =
    let t = c.self.inside.transaction in
    let s = c.args.session.now in
    let mid = c.commit_under-memory.new.session in
    let done : IsCommitted g.R.MapRule.statement g.J.Naming.layout t.seen t s mid c.in-Ok.receipt =
    subst (λ (answer : Result CommitPlace (Refusal CauseState)). IfOk answer (IsCommitted g.R.MapRule.statement g.J.Naming.layout t.seen t s mid)) c.in-Ok.is c.commit_under-memory.ensures.committed in
    let waits = c.await_mark.ensures in
    rw (← c.self.view_is) (unsure g.R.MapRule.statement g.J.Naming.layout c.self.inside.began t s mid c.await_mark.new.session c.in-Ok.receipt c.await_mark.result
    c.self.invariant.0 done waits.session (waits.keeps done.exact) waits.known waits.fault)
