use Rattle.std.proofs.Common.{sym, subst}
use Rattle.journal_memory.specs.Ledgers.{LedgerState}
use Rattle.journal_memory.specs.Volatiles.{IsVolatile}
use Rattle.journal_memory.proofs.volatile.Volatile.check_session.Goals as goal

pub invariant_of-self : goal.invariant_of-self
invariant_of-self g c =
    subst (λ (m : LedgerState). IsVolatile g.J.Naming.layout (record { ledger = m; tail = c.self.inside.tail; faulted = c.self.inside.faulted })) (sym c.check_session.ensures.same) c.self.invariant
