use Rattle.journal_history.specs.Tokens.{OnlyExtends}
use Rattle.journal_twophase.proofs.locked_parts.LockedParts.copy_fetched.Given as goal

abbrev pub invariant-loop : goal.invariant-loop
invariant-loop g l =
    (goal.iterator-loop g).can_next l.iterator' × (goal.iterator-loop g).is_finite l.iterator'
    × OnlyExtends l.initial.session l.session
