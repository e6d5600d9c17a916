use Rattle.std.proofs.Common.{◌≡◌, length}
use Rattle.journal_treecalls.specs.Changes.{is_in}
use Rattle.journal_treecalls.proofs.changes.is_in.Given as goal

-- those that are left decide
abbrev pub invariant-loop-change : goal.invariant-loop-change
invariant-loop-change l = is_in l.rest l.number ≡ is_in l.changes l.number

abbrev pub decreases-loop-change : goal.decreases-loop-change
decreases-loop-change l = length l.rest
