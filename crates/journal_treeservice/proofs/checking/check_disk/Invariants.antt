use Rattle.journal_treestore.specs.Places.{shape_of}
use Rattle.journal_treeservice.proofs.checking.check_disk.Given as goal

-- the book and the cell that were just opened, and how the disk is cut
abbrev pub ghosts-nodes_of : goal.ghosts-nodes_of
ghosts-nodes_of g a = record { book = a.book.now; layout = shape_of a.cut; cell = a.cell }
