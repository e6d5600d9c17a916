use Rattle.std.proofs.Common.{◌≤◌}
use Rattle.journal_treecalls.specs.declared.walk.TheConstants.{AHEAD}
use Rattle.journal_treecalls.proofs.walk.next_numbers.Given as goal

-- no more numbers than have room
abbrev pub invariant-loop-at : goal.invariant-loop-at
invariant-loop-at l = l.count ≤ AHEAD
