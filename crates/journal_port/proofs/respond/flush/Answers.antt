use Rattle.journal_port.proofs.respond.flush.Goals as goal

pub returns-in-Err : goal.returns-in-Err
returns-in-Err g c = (c.make_stable.ensures.session, (c.in-Err.why, c.of.ensures, c.in-Err.ensures.refusal))
