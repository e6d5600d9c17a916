use Rattle.journal_nfs3.proofs.Using.{files_use_blocks}
use Rattle.journal_nfs3.proofs.laws.files_use_their_blocks.Goals as goal

pub returns : goal.returns
returns c = files_use_blocks
