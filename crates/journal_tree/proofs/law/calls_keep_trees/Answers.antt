use Rattle.journal_tree.proofs.Keeping.{keeps-trees}
use Rattle.journal_tree.proofs.law.calls_keep_trees.Goals as goal

pub returns : goal.returns
returns c = keeps-trees
