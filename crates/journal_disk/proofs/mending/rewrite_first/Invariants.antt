use Rattle.journal_disk.proofs.Rewritten.{HasRewritten}
use Rattle.journal_disk.proofs.mending.rewrite_first.Given as goal

abbrev pub invariant-loop-block : goal.invariant-loop-block
invariant-loop-block g l = HasRewritten (g.D.BlockDisk.state l.fn.disk) (g.D.BlockDisk.state l.disk) l.block
