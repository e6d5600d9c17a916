use Rattle.std.proofs.Common.{◌≡◌, ◌-◌}
use Rattle.journal_records.specs.Arrays.{read_several}
use Rattle.journal_records.proofs.Lists.{joined}
use Rattle.journal_records.proofs.array.read_several.Given as goal

abbrev pub invariant-loop : goal.invariant-loop
invariant-loop g l = read_several l.count g.T.Element.item l.fn.reader ≡ joined l.values.items (read_several (l.count - l.counter) g.T.Element.item l.reader)
