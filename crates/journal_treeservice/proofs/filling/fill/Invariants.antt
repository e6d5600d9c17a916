use Rattle.journal_treestore.specs.Places.{shape_of}
use Rattle.journal_treeservice.proofs.filling.fill.Given as goal

-- the book and the cell that were just opened, and how the disk is cut
abbrev pub ghosts-fill_mounted : goal.ghosts-fill_mounted
ghosts-fill_mounted g a = record { book = a.book.now; layout = shape_of a.cut; cell = a.cell }
