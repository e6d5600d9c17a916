use Rattle.journal_treewire.proofs.Fitting.{list_plus_err}
use Rattle.journal_treewire.proofs.grammar.prove_list_plus.Goals as goal

pub returns-in-Err : goal.returns-in-Err
returns-in-Err c = rw c.in-Err.is (list_plus_err c.in-Err.field-0)
