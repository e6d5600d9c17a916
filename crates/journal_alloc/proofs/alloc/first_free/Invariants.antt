use Rattle.journal_alloc.specs.Numbers.{AreOutBelow}
use Rattle.journal_alloc.proofs.alloc.first_free.Given as goal

abbrev pub invariant-loop-place : goal.invariant-loop-place
invariant-loop-place l = AreOutBelow l.out l.place
