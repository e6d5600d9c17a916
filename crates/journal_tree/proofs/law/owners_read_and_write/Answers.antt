use Rattle.journal_tree.proofs.Rightful.{owners-read-and-write}
use Rattle.journal_tree.proofs.law.owners_read_and_write.Goals as goal

pub returns : goal.returns
returns c = owners-read-and-write
