use Rattle.journal_nfs3.proofs.Pendings.{answers_paid, answers_stay}
use Rattle.journal_nfs3.proofs.laws.pending_replies_hold_once_stable.Goals as goal

pub returns : goal.returns
returns c = record { paid = answers_paid; stays = answers_stay }
