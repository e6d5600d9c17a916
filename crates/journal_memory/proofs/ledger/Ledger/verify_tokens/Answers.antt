use Rattle.std.proofs.Common.{subst, arith}
use Rattle.journal_memory.specs.Ledgers.{LedgerState}
use Rattle.journal_memory.specs.SlotCounts.{AgreeWith}
use Rattle.journal_memory.proofs.Counting.{agree_with}
use Rattle.journal_memory.proofs.ledger.Ledger.verify_tokens.Goals as goal

pub returns-clause-agree : goal.returns-clause-agree
returns-clause-agree g c =
    subst (λ (s : LedgerState). AgreeWith g.J.Naming.layout s.history c.args.held.now) c.self.view_is
    (agree_with g.J.Naming.layout c.self.inside.slots c.self.inside.writer c.args.held.now c.self.invariant.counts.touched
    (λ k d low. c.verify_tokens.ensures.agree k d (omega arith) low))
