use Rattle.journal_treeobjects.proofs.Overwriting.{writes-show}
use Rattle.journal_treeobjects.proofs.law.writes_show_the_disk_after_them.Goals as goal

pub returns : goal.returns
returns c = writes-show
