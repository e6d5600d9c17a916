use Rattle.journal_world.specs.declared.layout.TheConstants.{SLOTS}
use Rattle.journal_lockmap.proofs.Marking.{none_in}
use Rattle.journal_lockmap.proofs.counts.SlotCounts.count_writes.Goals as goal

pub count_marked-requires-clause-none : goal.count_marked-requires-clause-none
count_marked-requires-clause-none g c = none_in SLOTS
