use Rattle.journal_port.proofs.scan.find_bits.Goals as goal

pub returns-in-Ok : goal.returns-in-Ok
returns-in-Ok g c = (c.scan.ensures.session, c.in-Ok.ensures.valid, c.in-Ok.ensures.order, c.in-Ok.ensures.found)

pub returns-in-Err : goal.returns-in-Err
returns-in-Err g c = (c.scan.ensures.session, (c.in-Err.why, c.of.ensures, c.in-Err.ensures.refusal))
