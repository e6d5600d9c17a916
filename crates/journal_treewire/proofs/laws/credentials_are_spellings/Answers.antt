use Rattle.journal_treewire.proofs.DirectoryLaws.{system_body_laws}
use Rattle.journal_treewire.proofs.laws.credentials_are_spellings.Goals as goal

pub returns : goal.returns
returns c = system_body_laws
