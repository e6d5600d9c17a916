use Rattle.journal_attempts.proofs.Committing.{commit-later}
use Rattle.journal_treefs.proofs.store.TreeStore.run.Goals as goal

pub returns-in-Ok-clause-committed : goal.returns-in-Ok-clause-committed
returns-in-Ok-clause-committed g c = commit-later _ _ _ _ _ c.loop.invariant _ c.in-Ok.ensures.committed

pub returns-in-Ok-once-clause-committed : goal.returns-in-Ok-once-clause-committed
returns-in-Ok-once-clause-committed g c = commit-later _ _ _ _ _ c.loop.invariant _ c.in-Ok-once.ensures.committed
