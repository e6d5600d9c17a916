use Rattle.journal_nfs3_wire.proofs.ResultFacts.{remove_err}
use Rattle.journal_nfs3_wire.proofs.grammar.prove_remove.Goals as goal

pub returns-in-Err : goal.returns-in-Err
returns-in-Err c = rw c.in-Err.is (remove_err c.in-Err.field-0)
