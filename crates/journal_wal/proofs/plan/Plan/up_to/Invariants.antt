use Rattle.std.proofs.Common.{◌≡◌, length}
use Rattle.journal_wal.specs.Wal.{distinct_blocks, IsPlanOf}
use Rattle.journal_wal.specs.States.{updates_to}
use Rattle.journal_wal.proofs.plan.Plan.up_to.Given as goal

abbrev pub invariant-loop-position : goal.invariant-loop-position
invariant-loop-position l =
    IsPlanOf (updates_to l.memory l.position) l.memory.start l.homes.entries
    × (length l.homes.entries ≡ distinct_blocks (updates_to l.memory l.position))
