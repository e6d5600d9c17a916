use Rattle.std.proofs.Common.{◌≤◌}
use Rattle.jnlfs.specs.declared.stopping.TheConstants.{ANSWER_BYTES}
use Rattle.jnlfs.proofs.stopping.ask.Given as goal

abbrev pub invariant-loop : goal.invariant-loop
invariant-loop l = l.size ≤ ANSWER_BYTES
