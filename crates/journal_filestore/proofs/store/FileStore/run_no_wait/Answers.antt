use Rattle.journal_filestore.proofs.Ending.{IsSoon-later}
use Rattle.journal_filestore.proofs.store.FileStore.run_no_wait.Goals as goal

pub returns-in-Ok-clause-answered : goal.returns-in-Ok-clause-answered
returns-in-Ok-clause-answered g c = IsSoon-later _ _ _ _ _ c.loop.invariant _ _ c.in-Ok.ensures.answered

pub returns-in-Ok-once-clause-answered : goal.returns-in-Ok-once-clause-answered
returns-in-Ok-once-clause-answered g c = IsSoon-later _ _ _ _ _ c.loop.invariant _ _ c.in-Ok-once.ensures.answered
