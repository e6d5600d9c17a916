use Rattle.journal_nfs3_wire.proofs.ResultFacts.{lookup_err}
use Rattle.journal_nfs3_wire.proofs.grammar.prove_lookup.Goals as goal

pub returns-in-Err : goal.returns-in-Err
returns-in-Err c = rw c.in-Err.is (lookup_err c.in-Err.field-0)
