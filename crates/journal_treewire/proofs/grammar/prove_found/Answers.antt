use Rattle.journal_treewire.proofs.Fitting.{found_err}
use Rattle.journal_treewire.proofs.grammar.prove_found.Goals as goal

pub returns-in-Err : goal.returns-in-Err
returns-in-Err c = rw c.in-Err.is (found_err c.in-Err.field-0)
