use Rattle.journal_treeform.proofs.Outgrown.{grown-disks}
use Rattle.journal_treeform.proofs.law.grown_disks_keep_the_tree.Goals as goal

pub returns : goal.returns
returns c = grown-disks
