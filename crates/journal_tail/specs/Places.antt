-- How many places writes take.
use Rattle.std.specs.Prelude.{List}
use Rattle.journal_world.specs.Maps.{Pair}
use Rattle.journal_tail.specs.Writes.{Base, written_blocks, fresh_blocks}
use Rattle.journal_tail.specs.declared.writes.Places.{Places}

-- the blocks of the writes, and those that are not in the tail
abbrev pub places_of : Base → List Pair → Places
places_of b writes = record { blocks = written_blocks writes; fresh = fresh_blocks b writes }
