use Rattle.std.proofs.Common.{◌∙◌, refl}
use Rattle.journal_memory.proofs.Counting.{ledger_cut}
use Rattle.journal_memory.proofs.ledger.Ledger.note_cut.Goals as goal

pub invariant_of-self : goal.invariant_of-self
invariant_of-self g c =
    ledger_cut g.J.Naming.layout _ _ _ _ _ c.self.invariant (record { marked = c.self.inside.lengths.marked; cut = c.new-self-inside.result }) c.count-self-inside.result refl
    (c.new-self-inside.ensures ∙ c.len.ensures.length) c.count-self-inside.ensures
