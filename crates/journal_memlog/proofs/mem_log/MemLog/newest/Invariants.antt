use Rattle.journal_memlog.proofs.Indexed.{Walks}
use Rattle.journal_memlog.proofs.mem_log.MemLog.newest.Given as goal

abbrev pub invariant-loop-place : goal.invariant-loop-place
invariant-loop-place l = Walks l.self l.block l.place

abbrev pub decreases-loop-place : goal.decreases-loop-place
decreases-loop-place l = l.place
