use Rattle.journal_mount_wire.proofs.Short.{outcome_short}
use Rattle.journal_mount_wire.proofs.answering.answer.Goals as goal

pub returns-clause-short : goal.returns-clause-short
returns-clause-short c = rw c.new.ensures (outcome_short c.args.root.now c.outcome_of.result c.requires)
