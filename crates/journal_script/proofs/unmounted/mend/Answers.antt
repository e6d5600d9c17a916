use Rattle.std.proofs.Common.{refl}
use Rattle.journal_disk.specs.MemDisks.{state_of}
use Rattle.journal_script.proofs.Losing.{mend_refused, mended_reads}
use Rattle.journal_script.proofs.unmounted.mend.Goals as goal

pub returns-in-Err-clause-mended : goal.returns-in-Err-clause-mended
returns-in-Err-clause-mended c = (
  mend_refused (state_of c.args.disk) (state_of c.in-Err.field-0.disk) c.in-Err.field-0.refusal refl c.in-Err.ensures.refusal,
  mended_reads c.args.disk.past c.in-Err.field-0.disk.past c.crash.result _ c.requires.whole.1 (c.in-Err.ensures.rewritten refl) c.crash.ensures.image c.crash.ensures.disk,
)
