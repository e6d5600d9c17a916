use Rattle.journal_filestore.specs.Operations.Op.{answers_create}
use Rattle.journal_filestore.proofs.Ending.{IsAnswered-like}
use Rattle.journal_filestore.proofs.store.FileStore.create.Goals as goal

pub returns-clause-answered : goal.returns-clause-answered
returns-clause-answered g c = IsAnswered-like _ _ _ (λ answer F F2 case. answers_create _ _ _ _ case.0 _ F F2 answer case.1) _ _ _ _ c.run.ensures.answered
