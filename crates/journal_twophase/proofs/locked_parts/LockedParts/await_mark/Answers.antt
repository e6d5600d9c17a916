use Rattle.journal_twophase.proofs.Knowing.{known}
use Rattle.journal_twophase.proofs.locked_parts.LockedParts.await_mark.Goals as goal

pub returns-in-Ok-clause-known : goal.returns-in-Ok-clause-known
returns-in-Ok-clause-known g c =
    known g.R.MapRule.statement g.J.Naming.layout c.wait_in-answer.new.session.seen c.seen-seen.ensures.on_disk c.seen-seen.ensures.sound c.seen-seen.ensures.legal

pub returns-in-Err-clause-known : goal.returns-in-Err-clause-known
returns-in-Err-clause-known g c =
    known g.R.MapRule.statement g.J.Naming.layout c.wait_in-answer.new.session.seen c.seen-seen.ensures.on_disk c.seen-seen.ensures.sound c.seen-seen.ensures.legal
