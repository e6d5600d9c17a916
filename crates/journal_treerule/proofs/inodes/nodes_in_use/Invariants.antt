use Rattle.journal_treerule.specs.Parts.{IsScanned}
use Rattle.journal_treerule.proofs.inodes.nodes_in_use.Given as goal

-- the inodes that were looked at are right, and the table says which of them are in use
abbrev pub invariant-loop-number : goal.invariant-loop-number
invariant-loop-number g l = IsScanned l.cut (g.O.ObjectReader.map l.fn.reader) (g.O.ObjectReader.map l.reader) (g.O.ObjectReader.trusted l.fn.reader) (g.O.ObjectReader.trusted l.reader) (g.O.ObjectReader.failed l.fn.reader) (g.O.ObjectReader.failed l.reader) l.number l.in_use.items
