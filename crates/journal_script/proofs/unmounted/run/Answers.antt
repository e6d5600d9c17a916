use Rattle.std.proofs.Common.{◌≡◌, true, false, arith, ap, subst}
use Rattle.std.proofs.lemmas.Bool.Decides.{nat_tests}
use Rattle.journal_script.specs.Transcripts.{ConsoleState, streams, TakesLineOrEnd}
use Rattle.journal_script.proofs.Talking.{talks_none, talks_end}
use Rattle.journal_script.proofs.Replying.{down_goes_on, down_asks}
use Rattle.journal_script.proofs.unmounted.run.Goals as goal

pub loop-init : goal.loop-init
loop-init g c = (c.requires.whole, talks_none _)

pub returns-then-not-branch : goal.returns-then-not-branch
returns-then-not-branch g c =
    let ended : c.in_ok-advance.field-0 ≡ false = grind (arith, nat_tests) in
    talks_end _ _ _ c.loop.invariant.1 (subst (TakesLineOrEnd (streams c.loop.console (g.O.Write.contents c.loop.output)) (streams c.advance.new.self (g.O.Write.contents c.advance.new.output))) ended c.in_ok-advance.ensures)

pub loop-preserved : goal.loop-preserved
loop-preserved g c =
    let more : c.in_ok-advance.field-0 ≡ true = grind (arith, nat_tests) in
    let asks = subst (TakesLineOrEnd (streams c.loop.console (g.O.Write.contents c.loop.output)) (streams c.advance.new.self (g.O.Write.contents c.advance.new.output))) more c.in_ok-advance.ensures in (
      c.answer-left.ensures.whole,
      down_goes_on _ _ _ _ _ c.loop.disk.past c.answer-left.result.0.past c.line.result.now c.answer-left.result.1 c.in-Some.answer c.loop.invariant.1 asks (ap (λ (k : ConsoleState). streams k (g.O.Write.contents c.advance.new.output)) c.console.view_is) c.line.ensures c.answer-left.ensures.answered c.in-Some.is c.in_ok-print-in-Some.ensures,
    )

pub returns-in-None : goal.returns-in-None
returns-in-None g c =
    let more : c.in_ok-advance.field-0 ≡ true = grind (arith, nat_tests) in
    let asks = subst (TakesLineOrEnd (streams c.loop.console (g.O.Write.contents c.loop.output)) (streams c.advance.new.self (g.O.Write.contents c.advance.new.output))) more c.in_ok-advance.ensures in (
      c.answer-left.ensures.whole,
      down_asks _ _ _ _ c.loop.disk.past c.answer-left.result.0.past c.line.result.now c.answer-left.result.1 c.loop.invariant.1 asks (ap (λ (k : ConsoleState). streams k (g.O.Write.contents c.advance.new.output)) c.console.view_is) c.line.ensures c.answer-left.ensures.answered c.in-None.is,
    )
