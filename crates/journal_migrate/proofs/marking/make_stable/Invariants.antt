use Rattle.std.proofs.Common.{◌≡◌}
use Rattle.journal_disk.specs.Disks.{Keeps}
use Rattle.journal_parts.specs.CoreStates.{disk_of}
use Rattle.journal_migrate.specs.Marking.{AwaitsMark, steps_to_mark}
use Rattle.journal_migrate.proofs.marking.make_stable.Given as goal

-- the commit is not marked yet, and nothing else has come to the history
abbrev pub invariant-loop : goal.invariant-loop
invariant-loop g l = record {
  awaits : AwaitsMark l.core;
  history : l.core.history ≡ l.fn.core.history;
  keeps : Keeps (disk_of l.fn.core) (disk_of l.core);
}

abbrev pub decreases-loop : goal.decreases-loop
decreases-loop g l = steps_to_mark l.core
