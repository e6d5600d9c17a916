use Rattle.journal_server.proofs.Steps.{merges}
use Rattle.journal_server.proofs.workers.absorb.Goals as goal

pub absorb-requires-clause-rule : goal.absorb-requires-clause-rule
absorb-requires-clause-rule g c = merges _ _ _ _ c.requires.2
