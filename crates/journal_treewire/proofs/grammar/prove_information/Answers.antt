use Rattle.journal_treewire.proofs.Fitting.{information_err}
use Rattle.journal_treewire.proofs.grammar.prove_information.Goals as goal

pub returns-in-Err : goal.returns-in-Err
returns-in-Err c = rw c.in-Err.is (information_err c.in-Err.field-0)
