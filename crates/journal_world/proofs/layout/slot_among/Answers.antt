use Rattle.journal_world.proofs.Slots.{slot_folded}
use Rattle.journal_world.proofs.layout.slot_among.Goals as goal

pub returns-clause-slot : goal.returns-clause-slot
returns-clause-slot c = rw (c.from-slots.ensures, c.from.ensures, c.from-2.ensures) (slot_folded c.args.addr.block c.args.addr.off c.args.slots)
