use Rattle.journal_treewire.proofs.Fitting.{write_ok, write_err}
use Rattle.journal_treewire.proofs.grammar.prove_write.Goals as goal

pub returns-in-Ok : goal.returns-in-Ok
returns-in-Ok c = rw c.in-Ok.is (write_ok c.args.disk c.args.count c.args.how c.args.verifier.now.0 c.in-Ok.changed c.ranges.count.fits c.prove_change.ensures c.prove_verifier.ensures)

pub returns-in-Err : goal.returns-in-Err
returns-in-Err c = rw c.in-Err.is (write_err c.in-Err.field-0)
