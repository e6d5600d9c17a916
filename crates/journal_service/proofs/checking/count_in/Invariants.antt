use Rattle.journal_world.specs.Files.{files}
use Rattle.journal_service.proofs.checking.count_in.Given as goal

-- the book and the cell that were just opened, and the disk's blocks
abbrev pub ghosts-files_of : goal.ghosts-files_of
ghosts-files_of g a = record { book = a.book.now; layout = files a.disk.size; cell = a.cell }
