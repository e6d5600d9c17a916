use Rattle.journal_treewire.specs.Results.{entry_plus}
use Rattle.journal_treewire.proofs.LineTexts.{no_page}
use Rattle.journal_treewire.proofs.length.prove_lines_plus.Goals as goal

pub returns-in-Err : goal.returns-in-Err
returns-in-Err c = rw c.in-Err.is (no_page entry_plus c.in-Err.field-0)
