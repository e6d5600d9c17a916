use Rattle.journal_tree.proofs.Keeping.{keeps-fit}
use Rattle.journal_tree.proofs.law.calls_keep_bounds.Goals as goal

pub returns : goal.returns
returns c = keeps-fit
