use Rattle.std.proofs.Common.{ℕ, sym, subst}
use Rattle.journal_circ.specs.StandsFor.{StandsFor}
use Rattle.journal_wal.specs.Wal.{blocks_now}
use Rattle.journal_objlog.specs.MapLaws.{opens}
use Rattle.journal_objlog.proofs.object_log.ObjectLog.open.Goals as goal

pub returns-clause-images : goal.returns-clause-images
returns-clause-images g c = λ honest layout size image is.
    opens layout (blocks_now c.in_ok-log.log) image
    (subst (λ (k : ℕ). StandsFor k (blocks_now c.in_ok-log.log) image) (sym size) (c.in_ok-log.ensures.images honest image is))
