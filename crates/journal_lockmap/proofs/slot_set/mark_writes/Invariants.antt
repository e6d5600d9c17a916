use Rattle.journal_world.specs.Files.{shape}
use Rattle.journal_lockmap.proofs.Marking.{AreMarkedBut}
use Rattle.journal_lockmap.proofs.slot_set.mark_writes.Given as goal

-- the writes that are not left are marked
abbrev pub invariant-loop-addr : goal.invariant-loop-addr
invariant-loop-addr l = AreMarkedBut (shape l.layout) l.writes l.addr-iterator l.flags
