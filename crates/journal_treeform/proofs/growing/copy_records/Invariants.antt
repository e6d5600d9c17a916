use Rattle.journal_treeform.proofs.Copied.{HasCopied}
use Rattle.journal_treeform.proofs.growing.copy_records.Given as goal

abbrev pub invariant-loop-index : goal.invariant-loop-index
invariant-loop-index g l = HasCopied l.fn.old l.fn.new (g.D.BlockDisk.state l.fn.disk) (g.D.BlockDisk.state l.disk) l.index
