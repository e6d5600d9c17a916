use Rattle.std.proofs.Common.{List}
use Rattle.std.specs.Iterator.Adapters.{rev_source}
use Rattle.journal_world.specs.Files.{shape}
use Rattle.journal_world.specs.Maps.{Pair}
use Rattle.journal_tail.proofs.InPlace.{IsStoring}
use Rattle.journal_tail.proofs.tail.Tail.store_standing.Given as goal

-- the writes that are done are stored
abbrev pub invariant-loop-addr : goal.invariant-loop-addr
invariant-loop-addr l =
    (done : List Pair) × IsStoring (shape l.layout) l.fn.self l.self l.writes (rev_source l.addr-iterator) done
