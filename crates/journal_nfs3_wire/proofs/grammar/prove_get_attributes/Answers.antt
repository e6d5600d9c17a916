use Rattle.journal_nfs3_wire.proofs.ResultFacts.{get_attributes_err}
use Rattle.journal_nfs3_wire.proofs.grammar.prove_get_attributes.Goals as goal

pub returns-in-Err : goal.returns-in-Err
returns-in-Err c = rw c.in-Err.is (get_attributes_err c.in-Err.field-0)
