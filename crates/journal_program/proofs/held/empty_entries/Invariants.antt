use Rattle.std.proofs.Common.{◌≡◌, ◌≤◌, length, vec_len, vec_capacity}
use Rattle.journal_world.specs.declared.layout.TheConstants.{FIRST_HOME}
use Rattle.journal_program.specs.Held.{HoldsNothing}
use Rattle.journal_program.proofs.held.empty_entries.Given as goal

abbrev pub invariant-loop : goal.invariant-loop
invariant-loop l =
    HoldsNothing l.entries.items × (length l.entries.items ≡ l.counter) × (vec_len l.entries ≡ l.counter)
    × (FIRST_HOME ≤ vec_capacity l.entries)
