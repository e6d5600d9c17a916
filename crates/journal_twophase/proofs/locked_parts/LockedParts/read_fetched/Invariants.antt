use Rattle.std.proofs.Common.{◌≡◌, length}
use Rattle.journal_twophase.proofs.locked_parts.LockedParts.read_fetched.Given as goal

abbrev pub invariant-loop : goal.invariant-loop
invariant-loop g l =
    (goal.iterator-loop g).can_next l.iterator' × (goal.iterator-loop g).is_finite l.iterator'
    × (length l.into.items ≡ length l.initial.into.items) × (l.held ≡ l.initial.held)
