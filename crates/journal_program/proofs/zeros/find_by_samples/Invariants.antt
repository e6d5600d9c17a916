use Rattle.std.proofs.Common.{◌≤◌}
use Rattle.journal_program.proofs.zeros.find_by_samples.Given as goal

-- the block is one of the span
abbrev pub invariant-loop : goal.invariant-loop
invariant-loop l = l.block ≤ l.last
