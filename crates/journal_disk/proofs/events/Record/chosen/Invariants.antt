use Rattle.journal_disk.proofs.Links.{Walks}
use Rattle.journal_disk.proofs.events.Record.chosen.Given as goal

abbrev pub invariant-loop-place : goal.invariant-loop-place
invariant-loop-place l = Walks l.self-inside.entries.items l.self-inside.synced l.self.events l.block l.number l.place

abbrev pub decreases-loop-place : goal.decreases-loop-place
decreases-loop-place l = l.place
