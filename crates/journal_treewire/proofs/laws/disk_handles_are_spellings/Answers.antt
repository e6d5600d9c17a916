use Rattle.journal_treewire.proofs.Asking.{named_spelled, spelled_named}
use Rattle.journal_treewire.proofs.DirectoryLaws.{disk_handle_laws}
use Rattle.journal_treewire.proofs.laws.disk_handles_are_spellings.Goals as goal

pub returns : goal.returns
returns c = record { item = disk_handle_laws; named = λ disk bytes h. (named_spelled disk bytes h, spelled_named disk bytes h) }
