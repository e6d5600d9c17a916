use Rattle.std.proofs.Common.{ℕ, sym, subst}
use Rattle.journal_memory.specs.Ledgers.{IsLedger}
use Rattle.journal_memory.proofs.Counting.{ledger_joined}
use Rattle.journal_memory.proofs.ledger.Ledger.session.Goals as goal

pub invariant_of-self : goal.invariant_of-self
invariant_of-self g c =
    subst (λ (n : ℕ). IsLedger g.J.Naming.layout c.self.inside.fenced.runs c.session-session.new.counts c.self.inside.slots c.self.inside.lengths
    (record { history = c.self.inside.writer; cut = c.self.inside.cut; next = n; closed = c.self.inside.closed })) (sym c.following-self-inside.ensures)
    (ledger_joined g.J.Naming.layout _ _ _ _ _ c.self.invariant _ c.session-session.ensures.counts)
