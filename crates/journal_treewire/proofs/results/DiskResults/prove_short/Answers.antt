use Rattle.std.proofs.Common.{None}
use Rattle.journal_nfs3_wire.specs.Profile.{no_change}
use Rattle.journal_treewire.proofs.Short.{linked_result}
use Rattle.journal_treewire.proofs.results.DiskResults.prove_short.Goals as goal

pub returns-in-NotLinked : goal.returns-in-NotLinked
returns-in-NotLinked c = rw c.in-NotLinked.is (linked_result c.in-NotLinked.field-0 (None, no_change))
