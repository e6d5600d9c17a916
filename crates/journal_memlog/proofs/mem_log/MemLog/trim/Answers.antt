use Rattle.std.proofs.Common.{refl}
use Rattle.journal_memlog.proofs.mem_log.MemLog.trim.Goals as goal

pub loop-self-init : goal.loop-self-init
loop-self-init c = (c.next.ensures.sound, c.requires.from_start, c.requires.to_logged, refl)
