use Rattle.journal_script.specs.Transcripts.{streams, Talks}
use Rattle.journal_script.proofs.mounted.answer_each.Given as goal

-- each line that was read is answered
abbrev pub invariant-loop : goal.invariant-loop
invariant-loop g l = Talks (streams l.fn.console (g.O.Write.contents l.fn.output)) (streams l.console (g.O.Write.contents l.output))
