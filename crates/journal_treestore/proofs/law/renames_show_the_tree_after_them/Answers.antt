use Rattle.journal_treestore.proofs.Dropping.{dropping-shows, dropping-stays-sound}
use Rattle.journal_treestore.proofs.Renaming.{renaming-shows}
use Rattle.journal_treestore.proofs.Moving.{moving-shows}
use Rattle.journal_treestore.proofs.law.renames_show_the_tree_after_them.Goals as goal

pub returns : goal.returns
returns c = record { dropped = dropping-shows; sound = dropping-stays-sound; renamed = renaming-shows; moved = moving-shows }
