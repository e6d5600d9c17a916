use Rattle.journal_tree.proofs.Keeping.{refusals-change-nothing}
use Rattle.journal_tree.proofs.law.refusals_change_nothing.Goals as goal

pub returns : goal.returns
returns c = refusals-change-nothing
