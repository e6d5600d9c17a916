use Rattle.journal_treestore.proofs.Planting.{planting-shows}
use Rattle.journal_treestore.proofs.Filling.{filling-shows}
use Rattle.journal_treestore.proofs.Removing.{cutting-shows}
use Rattle.journal_treestore.proofs.Growing.{growing-shows, growing-stays-sound}
use Rattle.journal_treestore.proofs.law.writes_show_the_tree_after_them.Goals as goal

pub returns : goal.returns
returns c = record { planted = planting-shows; filled = filling-shows; cut = cutting-shows; grown = growing-shows; sound = growing-stays-sound }
