use Rattle.std.proofs.Common.{◌≤◌}
use Rattle.journal_program.proofs.zeros.zero_by_tenths.Given as goal

-- the next part begins within the span
abbrev pub invariant-loop : goal.invariant-loop
invariant-loop g l = l.from ≤ l.end
