use Rattle.std.proofs.Common.{◌≡◌, true, false, arith, ap, subst}
use Rattle.std.proofs.lemmas.Bool.Decides.{nat_tests}
use Rattle.journal_script.specs.Transcripts.{ConsoleState, streams, TakesLineOrEnd}
use Rattle.journal_script.proofs.Talking.{talks_none, talks_end}
use Rattle.journal_script.proofs.Replying.{goes_on, ends}
use Rattle.journal_script.proofs.mounted.answer_each.Goals as goal

pub loop-init : goal.loop-init
loop-init g c = talks_none _

pub returns-then-not-branch : goal.returns-then-not-branch
returns-then-not-branch g c =
    let ended : c.in_ok-advance.field-0 ≡ false = grind (arith, nat_tests) in
    talks_end _ _ _ c.loop.invariant (subst (TakesLineOrEnd (streams c.loop.console (g.O.Write.contents c.loop.output)) (streams c.advance.new.self (g.O.Write.contents c.advance.new.output))) ended c.in_ok-advance.ensures)

pub returns-in-Break : goal.returns-in-Break
returns-in-Break g c =
    let more : c.in_ok-advance.field-0 ≡ true = grind (arith, nat_tests) in
    let asks = subst (TakesLineOrEnd (streams c.loop.console (g.O.Write.contents c.loop.output)) (streams c.advance.new.self (g.O.Write.contents c.advance.new.output))) more c.in_ok-advance.ensures in
    ends _ _ _ _ _ _ c.is_laid.ensures c.loop.client c.answer.new.self c.line.result.now c.answer.result c.in-Break.crash c.loop.invariant asks (ap (λ (k : ConsoleState). streams k (g.O.Write.contents c.advance.new.output)) c.console.view_is) c.line.ensures c.answer.ensures c.in-Break.is c.in_ok-answer_end-in-Break.ensures

pub loop-preserved : goal.loop-preserved
loop-preserved g c =
    let more : c.in_ok-advance.field-0 ≡ true = grind (arith, nat_tests) in
    let asks = subst (TakesLineOrEnd (streams c.loop.console (g.O.Write.contents c.loop.output)) (streams c.advance.new.self (g.O.Write.contents c.advance.new.output))) more c.in_ok-advance.ensures in
    goes_on _ _ _ _ _ _ c.is_laid.ensures c.loop.client c.answer.new.self c.line.result.now c.answer.result c.in-Continue.answer c.loop.invariant asks (ap (λ (k : ConsoleState). streams k (g.O.Write.contents c.advance.new.output)) c.console.view_is) c.line.ensures c.answer.ensures c.in-Continue.is c.in_ok-print-in-Continue.ensures
