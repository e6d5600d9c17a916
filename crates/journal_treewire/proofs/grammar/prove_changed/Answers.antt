use Rattle.journal_treewire.proofs.Fitting.{changed_err}
use Rattle.journal_treewire.proofs.grammar.prove_changed.Goals as goal

pub returns-in-Err : goal.returns-in-Err
returns-in-Err c = rw c.in-Err.is (changed_err c.in-Err.field-0)
