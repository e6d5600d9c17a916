use Rattle.journal_tree.proofs.Keeping.{replies-are-true}
use Rattle.journal_tree.proofs.law.replies_are_true.Goals as goal

pub returns : goal.returns
returns c = replies-are-true
