use Rattle.journal_memlog.specs.Logs.{tail_of}
use Rattle.journal_world.specs.Files.{shape}
use Rattle.journal_tail.proofs.Passing.{IsPassing}
use Rattle.journal_tail.proofs.tail.Tail.are_in_tail.Given as goal

-- those that are not left were passed over
abbrev pub invariant-loop-addr : goal.invariant-loop-addr
invariant-loop-addr l = IsPassing (shape l.layout) (tail_of l.self.log) l.writes l.addr-iterator l.passed
