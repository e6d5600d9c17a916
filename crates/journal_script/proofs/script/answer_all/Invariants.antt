use Rattle.journal_script.specs.Transcripts.{streams, ComesTo}
use Rattle.journal_script.proofs.script.answer_all.Given as goal

-- each line that was read is answered, but one that opens the disk
abbrev pub invariant-loop : goal.invariant-loop
invariant-loop g l = ComesTo l.next (streams l.fn.console (g.O.Write.contents l.fn.output)) (streams l.console (g.O.Write.contents l.output))
