use Rattle.std.proofs.Common.{arith}
use Rattle.journal_disk.proofs.Rewritten.{none_rewritten, one_more}
use Rattle.journal_disk.proofs.mending.rewrite_first.Goals as goal

pub loop-block-init : goal.loop-block-init
loop-block-init g c = none_rewritten _

pub rewrite-requires : goal.rewrite-requires
rewrite-requires g c = omega (arith, c.requires, c.loop-block.invariant.keeps.size)

pub loop-block-preserved : goal.loop-block-preserved
loop-block-preserved g c = one_more c.loop-block.invariant c.rewrite.ensures.keeps c.rewrite.ensures.rewritten c.in_ok-rewrite.ensures.kept
