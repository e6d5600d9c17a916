use Rattle.std.proofs.Common.{◌∙◌, rules, tests}
use Rattle.std.specs.Prelude.{◌==◌}
use Rattle.std.proofs.lemmas.Iterator.Splits.{YieldsList-from_slice_split}
use Rattle.std.proofs.lemmas.Iterator.Consumers.{YieldsList-turn, YieldsList-end}
use Rattle.std.proofs.lemmas.List.{length_push}
use Rattle.journal_command.proofs.Listing.{AreNumbers-more, lists_none-part, lists_none-full, Lists-from_numbers}
use Rattle.journal_command.proofs.choice.ChoiceRoom.push_numbers.Goals as goal

pub returns-in_default-clause-none : goal.returns-in_default-clause-none
returns-in_default-clause-none c _ =
    let given = YieldsList-from_slice_split _ (λ b. b == 44) c.args.text.now (cc) (cc) (cc) (λ x b q k. search (rules, tests)) in
    let turn = YieldsList-turn given c.loop-part.yielded _ c.loop-part.yielded_by _ _ c.in-Some.part c.in-Some.is c.next.ensures.steps in
    lists_none-part _ _ _ turn.0 turn.1 c.in_default.ensures.none

pub returns-then-len-eq-MOST-clause-none : goal.returns-then-len-eq-MOST-clause-none
returns-then-len-eq-MOST-clause-none c _ =
    let given = YieldsList-from_slice_split _ (λ b. b == 44) c.args.text.now (cc) (cc) (cc) (λ x b q k. search (rules, tests)) in
    let turn = YieldsList-turn given c.loop-part.yielded _ c.loop-part.yielded_by _ _ c.in-Some.part c.in-Some.is c.next.ensures.steps in
    lists_none-full _ _ _ _ turn.0 c.loop-part.invariant (c.len.ensures ∙ c.loop-part.self.numbers.ok.0) c.if-len-eq-MOST.true

pub loop-part-preserved : goal.loop-part-preserved
loop-part-preserved c =
    let given = YieldsList-from_slice_split _ (λ b. b == 44) c.args.text.now (cc) (cc) (cc) (λ x b q k. search (rules, tests)) in
    let turn = YieldsList-turn given c.loop-part.yielded _ c.loop-part.yielded_by _ _ c.in-Some.part c.in-Some.is c.next.ensures.steps in
    let number = c.in-Some-read_number.ensures.found in
    rw (length_push c.loop-part.yielded c.in-Some.part)
    (AreNumbers-more _ _ _ _ _ _ turn.0 turn.1 c.loop-part.invariant number.0 number.1 c.push_reserved.ensures.items)

pub returns-clause-found : goal.returns-clause-found
returns-clause-found c _ =
    let given = YieldsList-from_slice_split _ (λ b. b == 44) c.args.text.now (cc) (cc) (cc) (λ x b q k. search (rules, tests)) in
    let ends = YieldsList-end given c.loop-part.yielded _ c.loop-part.yielded_by _ _ c.in-None.is c.next.ensures.steps in
    Lists-from_numbers _ _ _ _ ends.1 c.loop-part.invariant c.loop-part.self.fits c.loop-part.self.numbers.ok.0
