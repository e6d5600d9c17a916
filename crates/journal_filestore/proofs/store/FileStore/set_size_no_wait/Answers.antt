use Rattle.journal_filestore.specs.Operations.Op.{answers_setattr}
use Rattle.journal_filestore.proofs.Ending.{IsSoon-like}
use Rattle.journal_filestore.proofs.store.FileStore.set_size_no_wait.Goals as goal

pub returns-clause-answered : goal.returns-clause-answered
returns-clause-answered g c = IsSoon-like _ _ _ (λ answer F F2 case. answers_setattr _ _ _ _ case.0 _ F F2 answer case.1) _ _ _ _ c.run_no_wait.ensures.answered
