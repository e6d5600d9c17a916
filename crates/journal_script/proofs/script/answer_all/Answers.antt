use Rattle.journal_script.proofs.Replying.{leaves_open, leaves_down, leaves_lost}
use Rattle.journal_script.proofs.script.answer_all.Goals.{in-Open+in_ok-next-in-Open, in-Down+in_ok-next-in-Down, in-Lost+in_ok-next-in-Lost}
use Rattle.journal_script.proofs.script.answer_all.Goals as goal

pub loop-preserved : goal.loop-preserved
loop-preserved g c =
    elim c.match-next.branch [
      | in-Open+in_ok-next-in-Open w ↦ rw (w.console-is, w.output-is, w.next-is) (leaves_open _ _ _ _ _ _ w.in-Open.is c.loop.invariant w.in_ok-next-in-Open.ensures)
      | in-Down+in_ok-next-in-Down w ↦ rw (w.console-is, w.output-is, w.next-is) (leaves_down _ _ _ _ _ _ w.in-Down.is c.loop.invariant w.in_ok-next-in-Down.ensures)
      | in-Lost+in_ok-next-in-Lost w ↦ rw (w.console-is, w.output-is, w.next-is) (leaves_lost _ _ _ _ _ _ w.in-Lost.is c.loop.invariant w.in_ok-next-in-Lost.ensures)
    ]
