use Rattle.std.proofs.Common.{◌∙◌}
use Rattle.journal_port.proofs.Ending.{EndsAt-made}
use Rattle.journal_port.proofs.commit.end.Goals as goal

pub returns-in-Err : goal.returns-in-Err
returns-in-Err g c = (c.in-Err.ensures.session, (c.in-Err.why, c.of.ensures, c.in-Err.ensures.refusal, c.in-Err.ensures.fenced))

pub returns-then-waits : goal.returns-then-waits
returns-then-waits g c = (c.if-waits.true, EndsAt-made _ _ _ _ _ c.in-Ok.made _ _ c.in-Ok.ensures.committed c.place-place.ensures.place (c.get-commits.ensures ∙ c.count.ensures.count))

pub returns : goal.returns
returns g c = (c.if-waits.false, EndsAt-made _ _ _ _ _ c.in-Ok.made _ _ c.in-Ok.ensures.committed c.place-place.ensures.place (c.get-commits.ensures ∙ c.count.ensures.count))
