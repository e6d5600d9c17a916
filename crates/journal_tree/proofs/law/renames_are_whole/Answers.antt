use Rattle.journal_tree.proofs.Keeping.{renames-whole}
use Rattle.journal_tree.proofs.law.renames_are_whole.Goals as goal

pub returns : goal.returns
returns c = renames-whole
