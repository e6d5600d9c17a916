use Rattle.journal_inode.specs.Sound.{file_blocks}
use Rattle.journal_inode.proofs.Blocks.{held_at}
use Rattle.journal_inode.proofs.law.blocks_hold_the_bytes_in_order.Goals as goal

pub returns : goal.returns
returns c = λ version m f sound j low. held_at m (file_blocks version f) j sound.sized low
