use Rattle.std.proofs.Common.{ap, refl}
use Rattle.journal_nfs3_wire.specs.Profile.{results_of}
use Rattle.journal_nfs3.proofs.Standings.{tells_due}
use Rattle.journal_nfs3.proofs.serving.serve_no_wait.Goals as goal

pub returns-in-Null-clause-serves : goal.returns-in-Null-clause-serves
returns-in-Null-clause-serves g c = rw c.in-Null.is (ap (results_of _) c.ready.ensures.value, refl, c.ready.ensures.wait)

pub returns-in-GetAttributes-clause-serves : goal.returns-in-GetAttributes-clause-serves
returns-in-GetAttributes-clause-serves g c = rw c.in-GetAttributes.is (c.get_attributes-value.result, tells_due _ _ _ _ _ _ _ _ _ c.ready-in-GetAttributes.ensures.wait c.get_attributes-value.ensures, ap (results_of _) c.ready-in-GetAttributes.ensures.value)

pub returns-in-Lookup-clause-serves : goal.returns-in-Lookup-clause-serves
returns-in-Lookup-clause-serves g c = rw c.in-Lookup.is (c.look_up-value.result, tells_due _ _ _ _ _ _ _ _ _ c.ready-in-Lookup.ensures.wait c.look_up-value.ensures, ap (results_of _) c.ready-in-Lookup.ensures.value)

pub returns-in-Read-clause-serves : goal.returns-in-Read-clause-serves
returns-in-Read-clause-serves g c = rw c.in-Read.is (c.read_bytes-value.result, tells_due _ _ _ _ _ _ _ _ _ c.ready-in-Read.ensures.wait c.read_bytes-value.ensures, ap (results_of _) c.ready-in-Read.ensures.value)

pub returns-in-SetAttributes-clause-serves : goal.returns-in-SetAttributes-clause-serves
returns-in-SetAttributes-clause-serves g c = rw c.in-SetAttributes.is (c.set_attributes.result.value, tells_due _ _ _ _ _ _ _ _ _ c.set_results.ensures.wait c.set_attributes.ensures, ap (results_of _) c.set_results.ensures.value)

pub returns-in-Write-clause-serves : goal.returns-in-Write-clause-serves
returns-in-Write-clause-serves g c = rw c.in-Write.is (c.write_bytes-due.result.value, tells_due _ _ _ _ _ _ _ _ _ c.write_results.ensures.wait c.write_bytes-due.ensures, ap (results_of _) c.write_results.ensures.value)

pub returns-in-Create-clause-serves : goal.returns-in-Create-clause-serves
returns-in-Create-clause-serves g c = rw c.in-Create.is (c.create_file.result.value, tells_due _ _ _ _ _ _ _ _ _ c.create_results.ensures.wait c.create_file.ensures, ap (results_of _) c.create_results.ensures.value)

pub returns-in-Remove-clause-serves : goal.returns-in-Remove-clause-serves
returns-in-Remove-clause-serves g c = rw c.in-Remove.is (c.remove_file.result.value, tells_due _ _ _ _ _ _ _ _ _ c.remove_results.ensures.wait c.remove_file.ensures, ap (results_of _) c.remove_results.ensures.value)

pub returns-in-Commit-clause-serves : goal.returns-in-Commit-clause-serves
returns-in-Commit-clause-serves g c = rw c.in-Commit.is (c.commit_files.result.value, tells_due _ _ _ _ _ _ _ _ _ c.commit_results.ensures.wait c.commit_files.ensures, ap (results_of _) c.commit_results.ensures.value)
