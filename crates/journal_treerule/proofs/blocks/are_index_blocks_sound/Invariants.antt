use Rattle.journal_treeobjects.specs.Maps.{view_of}
use Rattle.journal_treerule.specs.Parts.{IsIndexBlockSound, ArePassed}
use Rattle.journal_treerule.proofs.blocks.are_index_blocks_sound.Given as goal

-- the index blocks that were looked at are sound
abbrev pub invariant-loop-i : goal.invariant-loop-i
invariant-loop-i g l = ArePassed (g.O.ObjectReader.map l.fn.reader) (g.O.ObjectReader.map l.reader) (g.O.ObjectReader.trusted l.fn.reader) (g.O.ObjectReader.trusted l.reader) (g.O.ObjectReader.failed l.fn.reader) (g.O.ObjectReader.failed l.reader) (λ m. IsIndexBlockSound (view_of l.cut m) l.number l.size l.numbers) l.i
