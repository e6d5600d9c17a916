use Rattle.journal_inode.specs.Admitting.{IsScanned}
use Rattle.journal_inode.proofs.rule.owners.Given as goal

abbrev pub invariant-loop-i : goal.invariant-loop-i
invariant-loop-i g l = IsScanned l.fn.version (g.O.ObjectReader.map l.fn.reader) (g.O.ObjectReader.map l.reader) (g.O.ObjectReader.trusted l.fn.reader) (g.O.ObjectReader.trusted l.reader) (g.O.ObjectReader.failed l.fn.reader) (g.O.ObjectReader.failed l.reader) l.i l.owners.items
