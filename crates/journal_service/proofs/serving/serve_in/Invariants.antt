use Rattle.journal_world.specs.Files.{files}
use Rattle.journal_service.proofs.serving.serve_in.Given as goal

-- the book and the cell that were just opened, and the disk's blocks
abbrev pub ghosts-serve_mounted : goal.ghosts-serve_mounted
ghosts-serve_mounted g a = record { book = a.book.now; layout = files a.disk.size; cell = a.cell }

-- the same, where the disk is a mirror
abbrev pub ghosts-serve_mounted-2 : goal.ghosts-serve_mounted-2
ghosts-serve_mounted-2 g a = record { book = a.book.now; layout = files a.disk.past.size; cell = a.cell }
