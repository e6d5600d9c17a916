use Rattle.std.proofs.Common.{length}
use Rattle.journal_tail.specs.Tails.{MakesNoOther, DropsCuts, known_blocks}
use Rattle.journal_tail.proofs.tail.Tail.trim.Given as goal

-- some first cuts are dropped
abbrev pub invariant-loop-upto : goal.invariant-loop-upto
invariant-loop-upto l = DropsCuts l.fn.self l.upto l.self × MakesNoOther (known_blocks l.fn.self) (known_blocks l.self)

abbrev pub decreases-loop-upto : goal.decreases-loop-upto
decreases-loop-upto l = length l.self.cuts
