use Rattle.journal_tree.proofs.Exclusive.{exclusive-makes}
use Rattle.journal_tree.proofs.law.exclusive_calls_make_one.Goals as goal

pub returns : goal.returns
returns c = exclusive-makes
