use Rattle.std.proofs.Common.{sym, subst}
use Rattle.journal_tail.specs.Tails.{TailState}
use Rattle.journal_memory.specs.Volatiles.{IsVolatile}
use Rattle.journal_memory.proofs.Staying.{kept_touched}
use Rattle.journal_memory.proofs.volatile.Volatile.touch_copy.Goals as goal

pub invariant_of-self : goal.invariant_of-self
invariant_of-self g c =
    subst (λ (t : TailState). IsVolatile g.J.Naming.layout (record { ledger = c.self.inside.ledger; tail = t; faulted = c.self.inside.faulted })) (sym c.touch.ensures.others)
    (kept_touched g.J.Naming.layout _ c.self.invariant c.touch.new.self.cache c.touch.ensures.same)
