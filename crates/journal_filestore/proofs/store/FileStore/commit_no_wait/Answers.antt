use Rattle.journal_filestore.specs.Operations.Op.{answers_commit}
use Rattle.journal_filestore.proofs.Ending.{IsSoon-like}
use Rattle.journal_filestore.proofs.store.FileStore.commit_no_wait.Goals as goal

pub returns-clause-answered : goal.returns-clause-answered
returns-clause-answered g c = IsSoon-like _ _ _ (λ answer F F2 case now. answers_commit _ _ now F F2 answer case) _ _ _ _ c.run_no_wait.ensures.answered
