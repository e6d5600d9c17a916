use Rattle.journal_command.proofs.LineEnds.{HasTaken}
use Rattle.journal_command.proofs.line.Lines.advance.Given as goal

-- bytes of the line were taken
abbrev pub invariant-loop : goal.invariant-loop
invariant-loop g l = HasTaken l.fn.self l.self
