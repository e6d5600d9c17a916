use Rattle.journal_treewire.proofs.Fitting.{configuration_err}
use Rattle.journal_treewire.proofs.grammar.prove_configuration.Goals as goal

pub returns-in-Err : goal.returns-in-Err
returns-in-Err c = rw c.in-Err.is (configuration_err c.in-Err.field-0)
