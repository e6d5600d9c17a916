use Rattle.std.proofs.Common.{rules}
use Rattle.journal_memory.proofs.Answering.{answers_show}
use Rattle.journal_memory.proofs.volatile.Volatile.show_step.Goals as goal

pub returns-clause-event : goal.returns-clause-event
returns-clause-event g c =
    answers_show c.args.self.now c.args.session.now c.show.new.session c.show.result (search rules) (search rules) (search rules)
