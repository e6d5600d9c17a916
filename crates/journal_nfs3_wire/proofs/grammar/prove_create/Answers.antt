use Rattle.journal_nfs3_wire.proofs.ResultFacts.{create_err}
use Rattle.journal_nfs3_wire.proofs.grammar.prove_create.Goals as goal

pub returns-in-Err : goal.returns-in-Err
returns-in-Err c = rw c.in-Err.is (create_err c.in-Err.field-0)
