use Rattle.std.proofs.Common.{◌<◌, sym, subst}
use Rattle.journal_memlog.specs.Logs.{LogState}
use Rattle.journal_memlog.proofs.Entries.{indexed_popped}
use Rattle.journal_memlog.proofs.mem_log.MemLog.take_first.Goals as goal

pub invariant_of-self : goal.invariant_of-self
invariant_of-self c =
    indexed_popped _ _ _ _ _ c.self.inside.entries.items c.self.inside.heads.items c.self.invariant _ c.pop_front.ensures.rest
    (subst (λ (log : LogState). log.start < log.logged) (sym c.self.view_is) c.requires) _

pub returns-clause-sound : goal.returns-clause-sound
returns-clause-sound c = (invariant_of-self c).sound
