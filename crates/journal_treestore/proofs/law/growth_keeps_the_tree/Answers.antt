use Rattle.journal_treestore.proofs.Staying.{growth-keeps}
use Rattle.journal_treestore.proofs.law.growth_keeps_the_tree.Goals as goal

pub returns : goal.returns
returns c = growth-keeps
