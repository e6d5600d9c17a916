use Rattle.journal_treewire.proofs.Fitting.{access_err}
use Rattle.journal_treewire.proofs.grammar.prove_access.Goals as goal

pub returns-in-Err : goal.returns-in-Err
returns-in-Err c = rw c.in-Err.is (access_err c.in-Err.field-0)
