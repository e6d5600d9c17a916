use Rattle.journal_script.specs.Endings.{IsWhole}
use Rattle.journal_script.specs.Transcripts.{streams, Talks}
use Rattle.journal_script.proofs.unmounted.run.Given as goal

-- nothing is pending on the disk or lost of it, and each line that was read is answered
abbrev pub invariant-loop : goal.invariant-loop
invariant-loop g l = IsWhole l.disk.past × Talks (streams l.fn.console (g.O.Write.contents l.fn.output)) (streams l.console (g.O.Write.contents l.output))
