use Rattle.journal_treeform.proofs.Making.{new-disks}
use Rattle.journal_treeform.proofs.law.new_disks_are_sound.Goals as goal

pub returns : goal.returns
returns c = new-disks
