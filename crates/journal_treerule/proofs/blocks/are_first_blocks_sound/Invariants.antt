use Rattle.journal_treeobjects.specs.Maps.{view_of}
use Rattle.journal_treerule.specs.Parts.{IsFirstSound, ArePassed}
use Rattle.journal_treerule.proofs.blocks.are_first_blocks_sound.Given as goal

-- the blocks that were looked at are sound
abbrev pub invariant-loop-j : goal.invariant-loop-j
invariant-loop-j g l = ArePassed (g.O.ObjectReader.map l.fn.reader) (g.O.ObjectReader.map l.reader) (g.O.ObjectReader.trusted l.fn.reader) (g.O.ObjectReader.trusted l.reader) (g.O.ObjectReader.failed l.fn.reader) (g.O.ObjectReader.failed l.reader) (λ m. IsFirstSound (view_of l.cut m) l.number l.size l.blocks) l.j
