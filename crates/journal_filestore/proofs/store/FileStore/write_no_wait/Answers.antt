use Rattle.journal_filestore.specs.Operations.Op.{answers_write}
use Rattle.journal_filestore.proofs.Ending.{IsSoon-like}
use Rattle.journal_filestore.proofs.store.FileStore.write_no_wait.Goals as goal

pub returns-clause-answered : goal.returns-clause-answered
returns-clause-answered g c = IsSoon-like _ _ _ (λ answer F F2 case. answers_write _ _ _ _ _ case.0 _ F F2 answer case.1) _ _ _ _ c.run_no_wait.ensures.answered
