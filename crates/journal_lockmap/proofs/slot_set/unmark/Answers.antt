use Rattle.journal_lockmap.proofs.Marking.{removed}
use Rattle.journal_lockmap.proofs.slot_set.unmark.Goals as goal

pub returns-clause-only : goal.returns-clause-only
returns-clause-only c = rw c.from-place.ensures (removed c.args.flags.now c.args.slot c.requires.in_range)
