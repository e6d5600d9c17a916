use Rattle.std.proofs.Common.{refl, rules, tests}
use Rattle.std.specs.Prelude.{◌==◌}
use Rattle.std.proofs.lemmas.Iterator.Splits.{YieldsList-from_slice_split}
use Rattle.std.proofs.lemmas.Iterator.Consumers.{YieldsList-turn, YieldsList-end}
use Rattle.std.proofs.lemmas.List.{length_push}
use Rattle.journal_command.proofs.Parts.{AreTerms-more, none_from_part, AreTerms-from_spells, Spells-from_terms}
use Rattle.journal_command.proofs.value.ValueRoom.push_terms.Goals as goal

pub returns-then-not-push_term-clause-none : goal.returns-then-not-push_term-clause-none
returns-then-not-push_term-clause-none c _ value spells =
    let given = YieldsList-from_slice_split _ (λ b. b == 43) c.args.text.now (cc) (cc) (cc) (λ x b q k. search (rules, tests)) in
    let turn = YieldsList-turn given c.loop-term.yielded _ c.loop-term.yielded_by _ _ c.in-Some.term c.in-Some.is c.next.ensures.steps in
    none_from_part _ _ c.in-Some.term.now c.loop-term.self.bytes.items c.loop-term.invariant turn.0 turn.1
    (c.if-not-push_term.ensures.none refl) value (AreTerms-from_spells _ _ spells) spells.fits

pub loop-term-preserved : goal.loop-term-preserved
loop-term-preserved c =
    let given = YieldsList-from_slice_split _ (λ b. b == 43) c.args.text.now (cc) (cc) (cc) (λ x b q k. search (rules, tests)) in
    let turn = YieldsList-turn given c.loop-term.yielded _ c.loop-term.yielded_by _ _ c.in-Some.term c.in-Some.is c.next.ensures.steps in
    rw (length_push c.loop-term.yielded c.in-Some.term)
    (AreTerms-more _ _ _ _ _ turn.0 turn.1 c.loop-term.invariant (c.if-not-push_term.ensures.added refl))

pub returns-clause-found : goal.returns-clause-found
returns-clause-found c _ =
    let given = YieldsList-from_slice_split _ (λ b. b == 43) c.args.text.now (cc) (cc) (cc) (λ x b q k. search (rules, tests)) in
    let ends = YieldsList-end given c.loop-term.yielded _ c.loop-term.yielded_by _ _ c.in-None.is c.next.ensures.steps in
    Spells-from_terms _ _ _ _ ends.1 c.loop-term.invariant c.loop-term.self.fits c.loop-term.self.bytes.ok.0
