use Rattle.journal_world.specs.Files.{files}
use Rattle.journal_service.proofs.migrating.migrate_disk.Given as goal

-- the book and the cell that were just opened, and the disk's blocks
abbrev pub ghosts-migrated : goal.ghosts-migrated
ghosts-migrated g a = record { book = a.book.now; layout = files a.disk.size; cell = a.cell }
