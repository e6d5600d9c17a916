use Rattle.journal_treewire.proofs.Fitting.{linked_has}
use Rattle.journal_treewire.proofs.results.DiskResults.prove_grammar.Goals as goal

pub returns-in-NotLinked : goal.returns-in-NotLinked
returns-in-NotLinked c = rw c.in-NotLinked.is (linked_has c.in-NotLinked.field-0)
