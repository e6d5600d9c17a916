use Rattle.journal_memory.proofs.Answering.{answers_wait}
use Rattle.journal_memory.proofs.volatile.Volatile.wait_step.Goals as goal

pub returns-clause-event : goal.returns-clause-event
returns-clause-event g c =
    let it = c.find_mark.ensures in
    answers_wait c.args.self.now c.args.session.now c.find_mark.new.session c.args.n c.find_mark.result it.answer it.goes_on it.shown it.exact it.extends it.refusal it.stays
