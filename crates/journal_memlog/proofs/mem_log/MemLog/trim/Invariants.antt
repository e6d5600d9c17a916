use Rattle.std.proofs.Common.{◌≡◌, ◌-◌, ◌≤◌}
use Rattle.journal_memlog.specs.Logs.{IsMemLog, trimmed}
use Rattle.journal_memlog.proofs.mem_log.MemLog.trim.Given as goal

-- what is dropped so far and what is still to be dropped make the whole trim
abbrev pub invariant-loop-self : goal.invariant-loop-self
invariant-loop-self l =
    IsMemLog l.self × (l.self.start ≤ l.upto) × (l.upto ≤ l.self.logged) × (trimmed l.self l.upto ≡ trimmed l.fn.self l.upto)

abbrev pub decreases-loop-self : goal.decreases-loop-self
decreases-loop-self l = l.upto - l.self.start
