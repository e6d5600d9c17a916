use Rattle.std.proofs.Common.{◌≡◌, ◌∙◌, ap, refl, sym, subst}
use Rattle.journal_world.specs.Histories.{count}
use Rattle.journal_tail.specs.Tails.{TailState, cut_after}
use Rattle.journal_memory.specs.Ledgers.{LedgerState}
use Rattle.journal_memory.specs.Volatiles.{IsVolatile}
use Rattle.journal_memory.proofs.Staying.{kept_cut}
use Rattle.journal_memory.proofs.Stepping.{of_ok}
use Rattle.journal_memory.proofs.volatile.Volatile.cut.Goals as goal

pub invariant_of-self-2 : goal.invariant_of-self-2
invariant_of-self-2 g c =
    let tail : c.cut.new.self ≡ cut_after c.self.inside.tail c.count.result =
    of_ok (λ _. c.cut.new.self ≡ cut_after c.self.inside.tail c.count.result) c.cut.result c.in_ok-group.group c.in_ok-group.group c.in_ok-group.ensures.only_ok refl c.cut.ensures.ok in
    subst (λ (m : LedgerState). IsVolatile g.J.Naming.layout (record { ledger = m; tail = c.cut.new.self; faulted = c.self.inside.faulted })) (sym c.note_cut.ensures)
    (subst (λ (t : TailState). IsVolatile g.J.Naming.layout (record { ledger = record c.self.inside.ledger { cut = count c.self.inside.ledger.history }; tail = t; faulted = c.self.inside.faulted }))
    (sym (tail ∙ ap (cut_after c.self.inside.tail) c.count.ensures))
    (kept_cut g.J.Naming.layout _ c.self.invariant))
