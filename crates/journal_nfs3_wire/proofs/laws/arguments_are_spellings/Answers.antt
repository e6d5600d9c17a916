use Rattle.journal_nfs3_wire.proofs.ArgumentLaws.{arguments_laws}
use Rattle.journal_nfs3_wire.proofs.Calling.{runs_spelled, spelled_runs, garbage_unspelled, unspelled_garbage}
use Rattle.journal_nfs3_wire.proofs.laws.arguments_are_spellings.Goals as goal

pub returns : goal.returns
returns c = record {
  items = arguments_laws;
  runs = λ p bytes o. (runs_spelled p bytes o, spelled_runs p bytes o);
  garbage = λ p bytes. (garbage_unspelled p bytes, unspelled_garbage p bytes);
}
