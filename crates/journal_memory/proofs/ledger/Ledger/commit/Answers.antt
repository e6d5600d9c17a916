use Rattle.std.proofs.Common.{◌≡◌, ◌+◌, ℕ, set, sym, subst, ◌∙◌}
use Rattle.journal_history.specs.Counts.{HasCount}
use Rattle.journal_history.specs.Tokens.{made, next_transaction}
use Rattle.journal_memory.specs.Transactions.{TransactionState}
use Rattle.journal_lockmap.specs.Numbers.{HoldsSlots, CountsWrites}
use Rattle.journal_memory.specs.Ledgers.{LedgerState}
use Rattle.journal_memory.specs.Rules.{LeavesMapRule}
use Rattle.journal_memory.proofs.Counting.{ledger_committed, agree_with}
use Rattle.journal_memory.proofs.ledger.Ledger.commit.Goals as goal

pub commit-requires-clause-rule : goal.commit-requires-clause-rule
commit-requires-clause-rule g c = subst (λ (s : LedgerState). LeavesMapRule g.R.MapRule.statement s.history c.args.transaction.now) (sym c.self.view_is) c.requires.rule

pub count_writes-requires-clause-covered : goal.count_writes-requires-clause-covered
count_writes-requires-clause-covered g c = subst (λ (u : TransactionState). HoldsSlots g.J.Naming.layout c.args.held.now u.writes) (sym c.transaction.view_is) c.requires.covered

pub invariant_of-self-2 : goal.invariant_of-self-2
invariant_of-self-2 g c =
    let number : c.new-number.result ≡ c.args.session.now.number = c.new-number.ensures ∙ c.number.ensures in
    let t = next_transaction c.args.session.now c.args.transaction.now.reads c.args.transaction.now.writes in
    ledger_committed g.J.Naming.layout _ _ _ _ _ c.self.invariant c.commit.new.counts c.count_writes.new.self c.commit.new.self c.past-self-inside.result t c.new-number.result (made c.args.session.now)
    c.in-Ok.ensures.committed.added c.past-self-inside.ensures number
    (subst (λ (n : ℕ). HasCount c.self.inside.sessions n (made c.args.session.now)) (sym number) c.in-Ok.ensures.counted)
    (subst (λ (n : ℕ). c.commit.new.counts ≡ set c.self.inside.sessions n (made c.args.session.now + 1)) (sym number) c.in-Ok.ensures.counts)
    (subst (λ (u : TransactionState). CountsWrites g.J.Naming.layout u.writes c.self.inside.slots c.count_writes.new.self) c.transaction.view_is c.count_writes.ensures.counts)

pub returns-clause-agree : goal.returns-clause-agree
returns-clause-agree g c =
    agree_with g.J.Naming.layout c.count_writes.new.self c.commit.new.self c.count_writes.new.held (invariant_of-self-2 g c).counts.touched c.count_writes.ensures.agree
