use Rattle.journal_treeobjects.specs.Maps.{view_of}
use Rattle.journal_treerule.specs.Parts.{IsNumberSound, ArePassed}
use Rattle.journal_treerule.proofs.blocks.are_numbers_sound.Given as goal

-- the blocks that were looked at are sound
abbrev pub invariant-loop-k : goal.invariant-loop-k
invariant-loop-k g l = ArePassed (g.O.ObjectReader.map l.fn.reader) (g.O.ObjectReader.map l.reader) (g.O.ObjectReader.trusted l.fn.reader) (g.O.ObjectReader.trusted l.reader) (g.O.ObjectReader.failed l.fn.reader) (g.O.ObjectReader.failed l.reader) (λ m. IsNumberSound (view_of l.cut m) l.size l.first l.numbers) l.k
