use Rattle.journal_treeobjects.proofs.Learning.{same-disks}
use Rattle.journal_treeobjects.proofs.tree_disk.TreeTransactionTreeDisk.put_owner.Goals as goal

pub returns-clause-same : goal.returns-clause-same
returns-clause-same g c = same-disks c.args.self.now c.put.new.self c.put.ensures.cut c.put.ensures.kept
