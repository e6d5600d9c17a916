use Rattle.journal_nfs3_wire.proofs.ResultFacts.{write_ok, write_err}
use Rattle.journal_nfs3_wire.proofs.grammar.prove_write.Goals as goal

pub returns-in-Ok : goal.returns-in-Ok
returns-in-Ok c = rw c.in-Ok.is (write_ok c.args.version c.in-Ok.changed c.args.count c.args.how c.args.verifier.now.0 c.prove_change.ensures c.ranges.count.fits c.prove_verifier.ensures)

pub returns-in-Err : goal.returns-in-Err
returns-in-Err c = rw c.in-Err.is (write_err c.in-Err.field-0)
