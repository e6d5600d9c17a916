use Rattle.journal_treewire.proofs.Fitting.{space_err}
use Rattle.journal_treewire.proofs.grammar.prove_space.Goals as goal

pub returns-in-Err : goal.returns-in-Err
returns-in-Err c = rw c.in-Err.is (space_err c.in-Err.field-0)
