use Rattle.journal_treeobjects.proofs.Learning.{before}
use Rattle.journal_treeobjects.proofs.tree_disk.TreeTransactionTreeDisk.prefetch_inodes.Goals as goal

pub returns-clause-same : goal.returns-clause-same
returns-clause-same g c = before c.args.self.now c.prefetch.new.self c.prefetch.ensures
