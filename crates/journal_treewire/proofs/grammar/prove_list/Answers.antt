use Rattle.journal_treewire.proofs.Fitting.{list_err}
use Rattle.journal_treewire.proofs.grammar.prove_list.Goals as goal

pub returns-in-Err : goal.returns-in-Err
returns-in-Err c = rw c.in-Err.is (list_err c.in-Err.field-0)
