use Rattle.journal_server.proofs.Steps.{forks}
use Rattle.journal_server.proofs.workers.cut.Goals as goal

pub another-requires-clause-rule : goal.another-requires-clause-rule
another-requires-clause-rule g c = forks _ _ c.requires.1
