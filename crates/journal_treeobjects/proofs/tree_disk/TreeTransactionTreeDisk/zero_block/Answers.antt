use Rattle.std.proofs.Common.{rules}
use Rattle.journal_treestore.specs.Views.{zero_block}
use Rattle.journal_treeobjects.proofs.tree_disk.TreeTransactionTreeDisk.zero_block.Goals as goal

pub returns-clause-zeros : goal.returns-clause-zeros
unfolding zero_block
returns-clause-zeros g c = search rules
