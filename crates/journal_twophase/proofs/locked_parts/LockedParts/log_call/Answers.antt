use Rattle.journal_twophase.proofs.Failing.{noted_refused}
use Rattle.journal_twophase.proofs.locked_parts.LockedParts.log_call.Goals as goal

pub returns : goal.returns
returns g c = noted_refused _ _ _ _ c.in-Err.ensures.event.refusal c.note_fault.ensures
