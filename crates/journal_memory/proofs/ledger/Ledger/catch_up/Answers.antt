use Rattle.std.proofs.Common.{subst}
use mathlib.Core.List.{IsPrefix}
use Rattle.journal_memory.specs.Transactions.{TransactionState}
use Rattle.journal_memory.proofs.Committing.{has_seen, on_ok}
use Rattle.journal_memory.proofs.ledger.Ledger.catch_up.Goals as goal

pub returns-clause-seen : goal.returns-clause-seen
returns-clause-seen g c =
    on_ok c.show.result c.show.ensures.shown
    (λ whole. has_seen c.args.self.now.history c.args.transaction.now c.args.session.now c.observe.new.self c.see.new.self c.show.new.session c.observe.ensures c.see.ensures.extends
    (subst (λ (h : TransactionState). IsPrefix h.seen c.see.new.self.seen) c.transaction.view_is c.see.ensures.all)
    c.show.ensures.extends whole)
