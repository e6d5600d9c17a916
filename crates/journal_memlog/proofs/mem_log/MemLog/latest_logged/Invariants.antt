use Rattle.std.proofs.Common.{◌-◌}
use Rattle.journal_memlog.proofs.Before.{WalksBefore}
use Rattle.journal_memlog.proofs.mem_log.MemLog.latest_logged.Given as goal

abbrev pub invariant-loop-place : goal.invariant-loop-place
invariant-loop-place l = WalksBefore l.self l.block (l.self.logged - l.self.start) l.place

abbrev pub decreases-loop-place : goal.decreases-loop-place
decreases-loop-place l = l.place
