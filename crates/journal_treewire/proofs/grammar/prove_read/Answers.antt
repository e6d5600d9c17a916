use Rattle.journal_treewire.proofs.Fitting.{read_err}
use Rattle.journal_treewire.proofs.grammar.prove_read.Goals as goal

pub returns-in-Err : goal.returns-in-Err
returns-in-Err c = rw c.in-Err.is (read_err c.in-Err.field-0)
