use Rattle.std.proofs.Common.{◌*◌}
use Rattle.journal_inode.specs.Admitting.{AreBitsScanned}
use Rattle.journal_inode.proofs.rule.are_bits_sound.Given as goal

abbrev pub invariant-loop-word : goal.invariant-loop-word
invariant-loop-word g l = AreBitsScanned (g.O.ObjectReader.map l.fn.reader) (g.O.ObjectReader.map l.reader) (g.O.ObjectReader.trusted l.fn.reader) (g.O.ObjectReader.trusted l.reader) (g.O.ObjectReader.failed l.fn.reader) (g.O.ObjectReader.failed l.reader) l.owners (64 * l.word)
