use Rattle.journal_world.specs.Files.{files}
use Rattle.journal_script.proofs.mounted.run.Given as goal

-- the book and the cell that were just opened, and the disk's blocks
abbrev pub ghosts-mount : goal.ghosts-mount
ghosts-mount g a = record { book = a.book.now; layout = files a.disk.past.size; cell = a.cell }
