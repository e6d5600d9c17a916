use Rattle.journal_treewire.proofs.Fitting.{made_err}
use Rattle.journal_treewire.proofs.grammar.prove_made.Goals as goal

pub returns-in-Err : goal.returns-in-Err
returns-in-Err c = rw c.in-Err.is (made_err c.in-Err.field-0)
