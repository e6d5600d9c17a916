use Rattle.std.proofs.Common.{◌≡◌, drop}
use Rattle.journal_treerule.proofs.cut.are_same.Given as goal

-- all are the same where those that are left are
abbrev pub invariant-loop-index : goal.invariant-loop-index
invariant-loop-index l = drop l.index l.regions ≡ drop l.index l.others → l.regions ≡ l.others
