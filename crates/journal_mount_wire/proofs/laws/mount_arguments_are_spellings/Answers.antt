use Rattle.journal_mount_wire.proofs.ArgumentLaws.{arguments_laws}
use Rattle.journal_mount_wire.proofs.Calling.{called_spelled, spelled_called, garbage_unspelled, unspelled_garbage}
use Rattle.journal_mount_wire.proofs.laws.mount_arguments_are_spellings.Goals as goal

pub returns : goal.returns
returns c = record {
  items = arguments_laws;
  calls = λ p bytes o. (called_spelled p bytes o, spelled_called p bytes o);
  garbage = λ p bytes. (garbage_unspelled p bytes, unspelled_garbage p bytes);
}
