use Rattle.std.proofs.Common.{inl, refl}
use Rattle.journal_script.proofs.Losing.{ended_ready}
use Rattle.journal_script.proofs.lost.end.Goals as goal

pub returns-in-Ok-clause-ready : goal.returns-in-Ok-clause-ready
returns-in-Ok-clause-ready c = ended_ready c.args.ending c.in-Ok.numbers.items c.args.disk c.answer.result c.leave.result c.requires.to_mend c.leave.ensures c.answer.ensures

pub returns-in-Ok-clause-ended : goal.returns-in-Ok-clause-ended
returns-in-Ok-clause-ended c = inl (record { numbers = c.in-Ok.numbers; ending = c.args.ending }, c.in-Ok.ensures.chosen, refl, c.answer.ensures, c.leave.ensures)
