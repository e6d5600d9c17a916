use Rattle.journal_nfs3.proofs.Marked.{serves_marked}
use Rattle.journal_nfs3.proofs.laws.answers_that_wait_are_stable.Goals as goal

pub returns : goal.returns
returns c = serves_marked
