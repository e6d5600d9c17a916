use Rattle.journal_treewire.proofs.Asking.{asked_spelled, spelled_asked}
use Rattle.journal_treewire.proofs.DirectoryLaws.{directory_arguments_laws}
use Rattle.journal_treewire.proofs.laws.directory_arguments_are_spellings.Goals as goal

pub returns : goal.returns
returns c = record { items = directory_arguments_laws; asks = λ p bytes o. (asked_spelled p bytes o, spelled_asked p bytes o) }
