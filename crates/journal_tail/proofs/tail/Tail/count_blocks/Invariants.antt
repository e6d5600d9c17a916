use Rattle.std.proofs.Common.{List}
use Rattle.std.specs.Iterator.Adapters.{rev_source}
use Rattle.journal_world.specs.declared.layout.TheConstants.{MAX_LAYOUT_BLOCKS}
use Rattle.journal_world.specs.Maps.{Pair}
use Rattle.journal_memlog.specs.Logs.{tail_of}
use Rattle.journal_tail.proofs.Counting.{IsCounted}
use Rattle.journal_tail.proofs.tail.Tail.count_blocks.Given as goal

-- the writes that are done are counted
abbrev pub invariant-loop-addr : goal.invariant-loop-addr
invariant-loop-addr l =
    (done : List Pair) × IsCounted (tail_of l.self.log) MAX_LAYOUT_BLOCKS l.writes (rev_source l.addr-iterator) done l.last l.blocks l.fresh
