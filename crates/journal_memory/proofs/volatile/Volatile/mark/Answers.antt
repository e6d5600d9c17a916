use Rattle.std.proofs.Common.{◌≤◌, ◌≡◌, ◌⊎◌, sym, subst}
use Rattle.journal_world.specs.Histories.{count}
use Rattle.journal_memory.specs.Volatiles.{VolatileState}
use Rattle.journal_memory.proofs.Staying.{kept_marked}
use Rattle.journal_memory.proofs.volatile.Volatile.mark.Goals as goal

pub invariant_of-self : goal.invariant_of-self
invariant_of-self g c =
    kept_marked g.J.Naming.layout _ c.self.invariant c.args.n c.mark.new.self c.mark.result
    (subst (λ (v : VolatileState). c.args.n ≤ count v.ledger.history) (sym c.self.view_is) c.requires.made)
    (subst (λ (v : VolatileState). (c.args.n ≡ v.ledger.cut) ⊎ (c.args.n ≡ count v.ledger.history)) (sym c.self.view_is) c.requires.due)
    c.mark.ensures.added c.mark.ensures.same
