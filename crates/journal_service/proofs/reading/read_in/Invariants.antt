use Rattle.journal_world.specs.Files.{files}
use Rattle.journal_service.proofs.reading.read_in.Given as goal

-- the book and the cell that were just opened, and the disk's blocks
abbrev pub ghosts-read_mounted : goal.ghosts-read_mounted
ghosts-read_mounted g a = record { book = a.book.now; layout = files a.disk.size; cell = a.cell }
