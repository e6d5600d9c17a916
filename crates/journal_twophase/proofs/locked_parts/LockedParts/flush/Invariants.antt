use Rattle.std.proofs.Common.{◌≡◌}
use Rattle.journal_twophase.proofs.locked_parts.LockedParts.flush.Given as goal

abbrev pub invariant-loop : goal.invariant-loop
invariant-loop g l =
    (goal.iterator-loop g).can_next l.iterator' × (goal.iterator-loop g).is_finite l.iterator'
    × (l.session ≡ l.initial.session)
