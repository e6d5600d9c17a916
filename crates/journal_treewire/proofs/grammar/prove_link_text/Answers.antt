use Rattle.journal_treewire.proofs.Fitting.{link_err}
use Rattle.journal_treewire.proofs.grammar.prove_link_text.Goals as goal

pub returns-in-Err : goal.returns-in-Err
returns-in-Err c = rw c.in-Err.is (link_err c.in-Err.field-0)
