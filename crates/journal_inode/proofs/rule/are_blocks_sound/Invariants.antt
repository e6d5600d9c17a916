use Rattle.std.proofs.Common.{drop}
use Rattle.journal_inode.specs.Admitting.{AreBlocksScanned}
use Rattle.journal_inode.proofs.rule.are_blocks_sound.Given as goal

abbrev pub invariant-loop-block : goal.invariant-loop-block
invariant-loop-block g l = AreBlocksScanned (g.O.ObjectReader.map l.fn.reader) (g.O.ObjectReader.map l.reader) (g.O.ObjectReader.trusted l.fn.reader) (g.O.ObjectReader.trusted l.reader) (g.O.ObjectReader.failed l.fn.reader) (g.O.ObjectReader.failed l.reader) l.fn.size l.left l.blocks (drop l.block-index l.blocks)
