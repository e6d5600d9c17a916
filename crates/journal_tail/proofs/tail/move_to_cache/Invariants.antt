use Rattle.std.proofs.Common.{◌≡◌, ◌≤◌, ◌-◌, ◌++◌}
use Rattle.journal_memlog.specs.Logs.{IsMemLog, trimmed}
use Rattle.journal_tail.specs.Tails.{MakesNoOther}
use Rattle.journal_tail.proofs.tail.move_to_cache.Given as goal

-- what is dropped so far and what is still to be dropped make the whole
abbrev pub invariant-loop-cache : goal.invariant-loop-cache
invariant-loop-cache l =
    IsMemLog l.memory × (l.memory.start ≤ l.upto) × (l.upto ≤ l.memory.logged) × (trimmed l.memory l.upto ≡ trimmed l.fn.memory l.upto)
    × MakesNoOther (l.fn.cache ++ l.fn.memory.updates) (l.cache ++ l.memory.updates)

abbrev pub decreases-loop-cache : goal.decreases-loop-cache
decreases-loop-cache l = l.upto - l.memory.start
