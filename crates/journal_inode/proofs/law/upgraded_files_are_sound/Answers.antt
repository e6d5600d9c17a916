use Rattle.journal_inode.proofs.Upgrading.{Sound-upgraded}
use Rattle.journal_inode.proofs.law.upgraded_files_are_sound.Goals as goal

pub returns : goal.returns
returns c = Sound-upgraded
