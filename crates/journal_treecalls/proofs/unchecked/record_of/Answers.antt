use Rattle.std.proofs.Common.{refl}
use Rattle.journal_treecalls.proofs.unchecked.record_of.Goals as goal

pub returns : goal.returns
returns c = record { head = refl; bytes = c.new_bytes-bytes.ensures }
