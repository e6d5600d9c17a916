use Rattle.std.proofs.Common.{rules}
use Rattle.journal_memory.proofs.Answering.{answers_session_in}
use Rattle.journal_memory.proofs.volatile.Volatile.session.Goals as goal

pub returns-clause-event : goal.returns-clause-event
returns-clause-event g c =
    answers_session_in g.J.Naming.layout c.args.self.now _ c.session.result (search rules) (search rules) (search rules) (search rules) (search rules) (search rules)
