use Rattle.journal_nfs3_wire.proofs.ResultFacts.{read_err}
use Rattle.journal_nfs3_wire.proofs.grammar.prove_read.Goals as goal

pub returns-in-Err : goal.returns-in-Err
returns-in-Err c = rw c.in-Err.is (read_err c.in-Err.field-0)
