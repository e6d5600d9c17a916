use Rattle.journal_nfs3_wire.proofs.ResultFacts.{set_attributes_err}
use Rattle.journal_nfs3_wire.proofs.grammar.prove_set_attributes.Goals as goal

pub returns-in-Err : goal.returns-in-Err
returns-in-Err c = rw c.in-Err.is (set_attributes_err c.in-Err.field-0)
