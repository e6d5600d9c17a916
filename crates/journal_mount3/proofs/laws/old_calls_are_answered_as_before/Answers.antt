use Rattle.journal_mount3.proofs.Before.{answered_before, same_before}
use Rattle.journal_mount3.proofs.laws.old_calls_are_answered_as_before.Goals as goal

pub returns-clause-answered : goal.returns-clause-answered
returns-clause-answered c = answered_before

pub returns-clause-same : goal.returns-clause-same
returns-clause-same c = same_before
