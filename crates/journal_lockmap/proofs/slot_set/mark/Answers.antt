use Rattle.journal_lockmap.proofs.Marking.{inserted}
use Rattle.journal_lockmap.proofs.slot_set.mark.Goals as goal

pub returns-clause-only : goal.returns-clause-only
returns-clause-only c = rw c.from.ensures (inserted c.args.flags.now c.args.slot c.requires.in_range)
