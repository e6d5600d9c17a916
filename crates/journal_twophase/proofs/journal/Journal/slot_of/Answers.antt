use Rattle.std.proofs.Common.{◌<◌, ap, subst, ◌∙◌}
use Rattle.journal_world.specs.Addresses.{slot_of, Shape}
use Rattle.journal_twophase.proofs.journal.Journal.slot_of.Goals as goal

pub returns-clause-slot : goal.returns-clause-slot
returns-clause-slot g c = c.slot_of.ensures.slot ∙ ap (λ (layout : Shape). slot_of layout c.args.addr) c.self.invariant.0

pub returns-clause-in_range : goal.returns-clause-in_range
returns-clause-in_range g c = subst (λ (layout : Shape). c.slot_of.result < layout.slots) c.self.invariant.0 c.slot_of.ensures.in_range
