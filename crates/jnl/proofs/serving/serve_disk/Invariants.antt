use Rattle.journal_world.specs.Files.{shape}
use Rattle.jnl.proofs.serving.serve_disk.Given as goal

-- the book and the cell that were just opened, and the layout of the disk
abbrev pub ghosts-serve_book : goal.ghosts-serve_book
ghosts-serve_book g a = record { book = a.book.now; layout = shape a.disk.layout; cell = a.cell }
