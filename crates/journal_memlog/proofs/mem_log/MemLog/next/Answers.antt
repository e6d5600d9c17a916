use Rattle.std.proofs.Common.{subst}
use Rattle.journal_memlog.specs.Logs.{IsMemLog}
use Rattle.journal_memlog.proofs.mem_log.MemLog.next.Goals as goal

pub returns-clause-sound : goal.returns-clause-sound
returns-clause-sound c = subst IsMemLog c.self.view_is c.self.invariant.sound
