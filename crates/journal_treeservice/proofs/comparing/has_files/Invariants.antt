use Rattle.journal_treestore.specs.Places.{shape_of}
use Rattle.journal_treeservice.proofs.comparing.has_files.Given as goal

-- the book and the cell that were just opened, and how the disk is cut
abbrev pub ghosts-compare_mounted : goal.ghosts-compare_mounted
ghosts-compare_mounted g a = record { book = a.book.now; layout = shape_of a.cut; cell = a.cell }
