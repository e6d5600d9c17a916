use Rattle.std.proofs.Common.{inr}
use Rattle.journal_port.proofs.respond.stop.Goals as goal

pub returns-in-Err : goal.returns-in-Err
returns-in-Err g c = inr (c.if-not-may_stop.false, (c.make_stable.ensures.session, (c.in-Err.why, c.of.ensures, c.in-Err.ensures.refusal)))
