use Rattle.journal_treestore.specs.Places.{shape_of}
use Rattle.journal_treeservice.proofs.serving.carry_out.Given as goal

-- the book and the cell that were just opened, and how the disk is cut
abbrev pub ghosts-serve_mounted : goal.ghosts-serve_mounted
ghosts-serve_mounted g a = record { book = a.book.now; layout = shape_of a.cut; cell = a.cell }

-- the same, where the disk is a mirror
abbrev pub ghosts-serve_mounted-2 : goal.ghosts-serve_mounted-2
ghosts-serve_mounted-2 g a = record { book = a.book.now; layout = shape_of a.cut; cell = a.cell }
