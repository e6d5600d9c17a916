use Rattle.journal_nfs3_wire.specs.QueryResults.{entry}
use Rattle.journal_treewire.proofs.LineTexts.{no_page}
use Rattle.journal_treewire.proofs.length.prove_lines.Goals as goal

pub returns-in-Err : goal.returns-in-Err
returns-in-Err c = rw c.in-Err.is (no_page entry c.in-Err.field-0)
