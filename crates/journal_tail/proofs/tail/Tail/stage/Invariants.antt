use Rattle.std.proofs.Common.{List}
use Rattle.std.specs.Iterator.Adapters.{rev_source}
use Rattle.journal_world.specs.Files.{shape}
use Rattle.journal_world.specs.Maps.{Pair}
use Rattle.journal_tail.specs.ObjectTails.{tail_base}
use Rattle.journal_tail.proofs.TailStaging.{IsTailStaging}
use Rattle.journal_tail.proofs.tail.Tail.stage.Given as goal

-- the writes that are done are staged
abbrev pub invariant-loop-addr : goal.invariant-loop-addr
invariant-loop-addr l =
    (done : List Pair) × IsTailStaging (tail_base (shape l.layout) l.fetched l.self) l.writes (rev_source l.addr-iterator) done l.updates
