use Rattle.journal_treewire.proofs.Fitting.{renamed_err}
use Rattle.journal_treewire.proofs.grammar.prove_renamed.Goals as goal

pub returns-in-Err : goal.returns-in-Err
returns-in-Err c = rw c.in-Err.is (renamed_err c.in-Err.field-0)
