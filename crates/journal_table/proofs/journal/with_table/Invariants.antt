use Rattle.journal_world.specs.Files.{shape}
use Rattle.journal_table.proofs.journal.with_table.Given as goal

abbrev pub ghosts-with_book : goal.ghosts-with_book
ghosts-with_book g a = record { book = a.book.now; layout = shape a.table.layout; cell = a.cell }
