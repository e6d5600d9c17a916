use Rattle.journal_treestore.proofs.Keeping.{calls-stay-sound}
use Rattle.journal_treestore.proofs.law.calls_leave_a_sound_disk.Goals as goal

pub returns : goal.returns
returns c = calls-stay-sound
