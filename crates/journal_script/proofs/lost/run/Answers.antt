use Rattle.std.proofs.Common.{◌≡◌, true, false, arith, ap, subst}
use Rattle.std.proofs.lemmas.Bool.Decides.{nat_tests}
use Rattle.journal_script.specs.Transcripts.{ConsoleState, streams, TakesLineOrEnd}
use Rattle.journal_script.proofs.Talking.{talks_none, talks_end}
use Rattle.journal_script.proofs.Losing.{lost_answered, lost_asks}
use Rattle.journal_script.proofs.lost.run.Goals as goal

pub returns-then-not-branch : goal.returns-then-not-branch
returns-then-not-branch g c =
    let ended : c.in_ok-advance.field-0 ≡ false = grind (arith, nat_tests) in
    talks_end _ _ _ (talks_none _) (subst (TakesLineOrEnd (streams c.args.console.now (g.O.Write.contents c.args.output.now)) (streams c.advance.new.self (g.O.Write.contents c.advance.new.output))) ended c.in_ok-advance.ensures)

pub returns-in_ok-print-in-Some : goal.returns-in_ok-print-in-Some
returns-in_ok-print-in-Some g c =
    let more : c.in_ok-advance.field-0 ≡ true = grind (arith, nat_tests) in
    let asks = subst (TakesLineOrEnd (streams c.args.console.now (g.O.Write.contents c.args.output.now)) (streams c.advance.new.self (g.O.Write.contents c.advance.new.output))) more c.in_ok-advance.ensures in
    lost_answered _ _ _ _ c.args.disk c.line.result.now c.answer-answer.result.answer c.in-Some.answer c.answer-answer.result.next asks (ap (λ (k : ConsoleState). streams k (g.O.Write.contents c.advance.new.output)) c.console.view_is) c.line.ensures c.answer-answer.ensures.answered c.answer-answer.ensures.ready c.in-Some.is c.in_ok-print-in-Some.ensures

pub returns-in-None : goal.returns-in-None
returns-in-None g c =
    let more : c.in_ok-advance.field-0 ≡ true = grind (arith, nat_tests) in
    let asks = subst (TakesLineOrEnd (streams c.args.console.now (g.O.Write.contents c.args.output.now)) (streams c.advance.new.self (g.O.Write.contents c.advance.new.output))) more c.in_ok-advance.ensures in
    lost_asks _ _ _ c.args.disk c.line.result.now c.answer-answer.result.answer c.answer-answer.result.next asks (ap (λ (k : ConsoleState). streams k (g.O.Write.contents c.advance.new.output)) c.console.view_is) c.line.ensures c.answer-answer.ensures.answered c.answer-answer.ensures.ready c.in-None.is
