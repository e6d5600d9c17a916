use Rattle.journal_tree.proofs.Exclusive.{exclusive-again, exclusive-other}
use Rattle.journal_tree.proofs.law.exclusive_calls_come_again.Goals as goal

pub returns : goal.returns
returns c = record { same = exclusive-again; other = exclusive-other }
