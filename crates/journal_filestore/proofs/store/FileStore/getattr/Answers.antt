use Rattle.journal_filestore.specs.Operations.Op.{answers_getattr}
use Rattle.journal_filestore.proofs.Ending.{IsAnswered-like}
use Rattle.journal_filestore.proofs.store.FileStore.getattr.Goals as goal

pub returns-clause-answered : goal.returns-clause-answered
returns-clause-answered g c = IsAnswered-like _ _ _ (λ answer F F2 case now. answers_getattr _ _ now F F2 answer case) _ _ _ _ c.run.ensures.answered
