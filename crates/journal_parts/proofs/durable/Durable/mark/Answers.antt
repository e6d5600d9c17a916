use Rattle.std.proofs.Common.{List, ◌≡◌, ◌<◌, ◌≤◌, ◌++◌, ◌∷◌, ◌∙◌, [], inl, inr, refl, ap, sym, subst, arith, rules}
use Rattle.std.proofs.lemmas.Bool.{eqb-true, eqb-false, not-true, not-false}
use mathlib.Core.List.{IsPrefix}
use Rattle.journal_world.specs.declared.refusal.Refusal.{Refusal}
use Rattle.journal_world.specs.Histories.{Entry, floor}
use Rattle.journal_world.specs.Histories.Entry.{stable}
use Rattle.journal_world.proofs.Marks.{floor-mark}
use Rattle.journal_world.proofs.Prefixes.{IsPrefix-trans}
use Rattle.journal_objlog.proofs.Openings.{OnlyReads-refl}
use Rattle.journal_tail.proofs.Exits.{if_err}
use Rattle.journal_memory.specs.Causes.{CauseState}
use Rattle.journal_parts.specs.Durables.{DurableState}
use Rattle.journal_memory.specs.Volatiles.{VolatileState, IsFrontRefusal}
use Rattle.journal_parts.specs.Pairs.{IsMarkDue, IsMarkingRefusal}
use Rattle.journal_tail.proofs.Comparing.{below, not_below}
use Rattle.journal_parts.proofs.Enduring.{crashes_reads}
use Rattle.journal_parts.proofs.Pairing.{tied_mark}
use Rattle.journal_parts.proofs.durable.Durable.mark.Goals.{then-ne-via-then-ne, then-ne-via-else-ne+then-eq}
use Rattle.journal_parts.proofs.durable.Durable.mark.Goals as goal

pub returns-in_err-front-clause-refusal : goal.returns-in_err-front-clause-refusal
returns-in_err-front-clause-refusal g c =
    if_err c.from_residual.result _ (IsMarkingRefusal c.args.volatile.now c.args.self.now) c.from_residual.ensures.1
    (λ (e : Refusal CauseState) is. subst (λ (r : Refusal CauseState). IsMarkingRefusal c.args.volatile.now c.args.self.now r) (sym is)
    (inl (inl (subst (λ (d : DurableState). IsFrontRefusal c.args.volatile.now.ledger.history d.front c.in_err-front.field-0.0) c.self.view_is c.in_err-front.ensures.refusal))))

pub returns-in_err-front-clause-crash : goal.returns-in_err-front-clause-crash
returns-in_err-front-clause-crash g c =
    crashes_reads g.J.Naming.layout _ c.args.self.now c.args.self.now c.self.invariant c.self.view_is (OnlyReads-refl c.args.self.now.objects) refl

pub returns-then-lt-clause-refusal : goal.returns-then-lt-clause-refusal
returns-then-lt-clause-refusal g c =
    let logged : c.self.inside.logged ≡ c.args.self.now.logged = ap (λ (d : DurableState). d.logged) c.self.view_is in
    let lower : c.args.self.now.logged < floor c.args.volatile.now.ledger.history =
    omega (arith, below c.self.inside.logged c.floor-marked.result c.if-lt.ensures, c.floor-marked.ensures, logged) in
    search rules

pub returns-then-lt-clause-crash : goal.returns-then-lt-clause-crash
returns-then-lt-clause-crash g c =
    crashes_reads g.J.Naming.layout _ c.args.self.now c.args.self.now c.self.invariant c.self.view_is (OnlyReads-refl c.args.self.now.objects) refl

pub returns-then-ne-clause-only : goal.returns-then-ne-clause-only
returns-then-ne-clause-only g c = λ no due.
    let logged : c.self.inside.logged ≡ c.args.self.now.logged = ap (λ (d : DurableState). d.logged) c.self.view_is in
    elim c.then-ne.branch [
      | then-ne-via-then-ne w ↦ absurd (eqb-false c.last_cut.result c.self.inside.logged (not-true _ (sym w.if-ne.ensures)) (omega (arith, c.last_cut.ensures, logged, due.cut)))
      | then-ne-via-else-ne+then-eq w ↦
          omega (arith, eqb-true c.floor-marked.result c.self.inside.logged (sym w.if-eq.ensures), c.floor-marked.ensures, logged, due.more)
    ]

pub returns-then-ne-clause-crash : goal.returns-then-ne-clause-crash
returns-then-ne-clause-crash g c =
    crashes_reads g.J.Naming.layout _ c.args.self.now c.args.self.now c.self.invariant c.self.view_is (OnlyReads-refl c.args.self.now.objects) refl

pub returns-in_err-mark-clause-refusal : goal.returns-in_err-mark-clause-refusal
returns-in_err-mark-clause-refusal g c =
    let logged : c.self.inside.logged ≡ c.args.self.now.logged = ap (λ (d : DurableState). d.logged) c.self.view_is in
    let due : IsMarkDue c.args.volatile.now c.args.self.now = record {
      cut = omega (arith, eqb-true c.last_cut.result c.self.inside.logged (not-false _ (sym c.if-ne.ensures)), c.last_cut.ensures, logged);
      more = omega (
        arith,
        not_below c.self.inside.logged c.floor-marked.result c.if-lt.ensures,
        eqb-false c.floor-marked.result c.self.inside.logged (sym c.if-eq.ensures),
        c.floor-marked.ensures,
        logged,
      );
    } in
    if_err c.from_residual-in_err-mark.result _ (IsMarkingRefusal c.args.volatile.now c.args.self.now) c.from_residual-in_err-mark.ensures.1
    (λ (e : Refusal CauseState) is. subst (λ (r : Refusal CauseState). IsMarkingRefusal c.args.volatile.now c.args.self.now r) (sym is)
    (inr (due, c.in_err-mark.ensures.refusal)))

pub returns-in_err-mark-clause-crash : goal.returns-in_err-mark-clause-crash
returns-in_err-mark-clause-crash g c =
    crashes_reads g.J.Naming.layout _ c.args.self.now c.args.self.now c.self.invariant c.self.view_is (OnlyReads-refl c.args.self.now.objects) refl

pub mark-requires-clause-due : goal.mark-requires-clause-due
mark-requires-clause-due g c = inl (sym (eqb-true c.last_cut.result c.self.inside.logged (not-false _ (sym c.if-ne.ensures))) ∙ c.last_cut.ensures)

pub mark-requires-clause-made : goal.mark-requires-clause-made
mark-requires-clause-made g c = omega (arith, eqb-true c.last_cut.result c.self.inside.logged (not-false _ (sym c.if-ne.ensures)), c.last_cut.ensures, c.prove_invariant.ensures.made)

pub set_marked-requires-clause-longer : goal.set_marked-requires-clause-longer
set_marked-requires-clause-longer g c =
    let history : c.front-2.result ≡ c.args.volatile.now.ledger.history ++ stable c.self.inside.logged ∷ [] =
    c.front-2.ensures.history ∙ ap (λ (v : VolatileState). v.ledger.history) c.in_ok-mark.ensures.added in
    subst (λ (h : List Entry). IsPrefix c.args.self.now.front h) (sym history)
    (IsPrefix-trans c.args.self.now.front c.args.volatile.now.ledger.history (c.args.volatile.now.ledger.history ++ stable c.self.inside.logged ∷ [])
    (subst (λ (d : DurableState). IsPrefix d.front c.args.volatile.now.ledger.history) c.self.view_is c.in_ok-front.ensures.begins)
    (stable c.self.inside.logged ∷ [], refl))

pub set_marked-requires-clause-floored : goal.set_marked-requires-clause-floored
set_marked-requires-clause-floored g c =
    let history : c.front-2.result ≡ c.args.volatile.now.ledger.history ++ stable c.self.inside.logged ∷ [] =
    c.front-2.ensures.history ∙ ap (λ (v : VolatileState). v.ledger.history) c.in_ok-mark.ensures.added in
    let low : floor c.args.volatile.now.ledger.history ≤ c.self.inside.logged =
    omega (arith, not_below c.self.inside.logged c.floor-marked.result c.if-lt.ensures, c.floor-marked.ensures) in
    let marked : floor c.front-2.result ≡ c.self.inside.logged = ap floor history ∙ floor-mark c.args.volatile.now.ledger.history c.self.inside.logged low in
    let logged : c.self.inside.logged ≡ c.args.self.now.logged = ap (λ (d : DurableState). d.logged) c.self.view_is in
    omega (arith, marked, logged)

pub returns-clause-marks : goal.returns-clause-marks
returns-clause-marks g c = λ done.
    let logged : c.self.inside.logged ≡ c.args.self.now.logged = ap (λ (d : DurableState). d.logged) c.self.view_is in
    let due : IsMarkDue c.args.volatile.now c.args.self.now = record {
      cut = omega (arith, eqb-true c.last_cut.result c.self.inside.logged (not-false _ (sym c.if-ne.ensures)), c.last_cut.ensures, logged);
      more = omega (
        arith,
        not_below c.self.inside.logged c.floor-marked.result c.if-lt.ensures,
        eqb-false c.floor-marked.result c.self.inside.logged (sym c.if-eq.ensures),
        c.floor-marked.ensures,
        logged,
      );
    } in
    record { due = due; volatile = search rules; durable = search rules }

pub returns-clause-tied : goal.returns-clause-tied
returns-clause-tied g c = λ tied.
    let marks = returns-clause-marks g c refl in
    tied_mark c.args.volatile.now c.mark.new.self c.args.self.now c.set_marked.new.self
    (omega (arith, marks.due.more)) marks.due.cut
    marks tied
