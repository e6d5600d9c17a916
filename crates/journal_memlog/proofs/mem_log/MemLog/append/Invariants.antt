use Rattle.std.proofs.Common.{◌≡◌}
use Rattle.std.specs.Vec.Iter.{into_iter_items}
use Rattle.journal_memlog.specs.Logs.{IsMemLog, CanTake, appended}
use Rattle.journal_memlog.proofs.mem_log.MemLog.append.Given as goal

-- what is in the log so far and what is left make what all of it makes
abbrev pub invariant-loop-update : goal.invariant-loop-update
invariant-loop-update l =
    let left = into_iter_items l.update-iterator in
    IsMemLog l.self × CanTake l.self left × (appended l.self left ≡ appended l.fn.self l.fn.updates.items)
