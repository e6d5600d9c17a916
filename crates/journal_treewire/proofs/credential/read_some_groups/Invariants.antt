use Rattle.journal_treewire.proofs.Grouping.{Reading}
use Rattle.journal_treewire.proofs.credential.read_some_groups.Given as goal

abbrev pub invariant-loop-at : goal.invariant-loop-at
invariant-loop-at l = Reading l.own l.count l.at l.fn.reader l.reader l.groups
