use Rattle.std.proofs.Common.{take}
use Rattle.journal_inode.specs.Admitting.{MarksBlocks}
use Rattle.journal_inode.proofs.rule.mark.Given as goal

abbrev pub invariant-loop-block : goal.invariant-loop-block
invariant-loop-block l = MarksBlocks (take l.block-index l.blocks) l.fn.owners.items l.owners.items
