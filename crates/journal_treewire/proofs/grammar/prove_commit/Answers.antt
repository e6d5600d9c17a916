use Rattle.journal_treewire.proofs.Fitting.{commit_ok, commit_err}
use Rattle.journal_treewire.proofs.grammar.prove_commit.Goals as goal

pub returns-in-Ok : goal.returns-in-Ok
returns-in-Ok c = rw c.in-Ok.is (commit_ok c.args.disk c.args.verifier.now.0 c.in-Ok.changed c.prove_change.ensures c.prove_verifier.ensures)

pub returns-in-Err : goal.returns-in-Err
returns-in-Err c = rw c.in-Err.is (commit_err c.in-Err.field-0)
