use Rattle.journal_memory.proofs.Answering.{answers_flush}
use Rattle.journal_memory.proofs.volatile.Volatile.flush_step.Goals as goal

pub returns-clause-event : goal.returns-clause-event
returns-clause-event g c =
    let it = c.find_marks.ensures in
    answers_flush c.args.self.now c.args.session.now c.find_marks.new.session c.find_marks.result it.answer it.goes_on it.shown it.exact it.stays it.extends it.refusal
