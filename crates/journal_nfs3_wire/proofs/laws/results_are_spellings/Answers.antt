use Rattle.journal_nfs3_wire.proofs.ResultLaws.{results_laws}
use Rattle.journal_nfs3_wire.proofs.laws.results_are_spellings.Goals as goal

pub returns : goal.returns
returns c = record { items = results_laws }
