use Rattle.journal_inode.specs.Admitting.{AreAsked}
use Rattle.journal_inode.proofs.rule.are_bits_asked.Given as goal

-- the bits that were looked at are those that the table asks for
abbrev pub invariant-loop-i : goal.invariant-loop-i
invariant-loop-i l = AreAsked l.owners l.first l.i l.bits
