use Rattle.std.proofs.Common.{List}
use Rattle.std.specs.Iterator.Adapters.{rev_source}
use Rattle.journal_world.specs.Files.{shape}
use Rattle.journal_world.specs.Maps.{Pair}
use Rattle.journal_tail.specs.ObjectTails.{known_updates}
use Rattle.journal_tail.proofs.Missing.{IsListed}
use Rattle.journal_tail.proofs.tail.Tail.missing.Given as goal

-- the missing blocks of the writes that are done are listed
abbrev pub invariant-loop-addr : goal.invariant-loop-addr
invariant-loop-addr l =
    (done : List Pair) × IsListed (shape l.layout) (known_updates l.fetched l.self) l.writes (rev_source l.addr-iterator) done l.last l.blocks.items
