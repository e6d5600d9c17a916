use Rattle.std.proofs.Common.{List, IsTrue, ◌≡◌, ◌≤◌, ◌++◌, ◌∷◌, ◌∙◌, [], ℕ, inl, inr, refl, ap, sym, subst, arith}
use mathlib.Core.List.{IsPrefix}
use Rattle.journal_world.specs.declared.refusal.Refusal.{Refusal}
use Rattle.journal_world.specs.Histories.{Entry, is_trusted, count, floor}
use Rattle.journal_world.specs.Histories.Entry.{stable}
use Rattle.journal_world.proofs.Marks.{count-mark, floor-mark}
use Rattle.journal_world.proofs.Prefixes.{IsPrefix-trans}
use Rattle.journal_objlog.proofs.Openings.{OnlyReads-refl}
use Rattle.journal_tail.proofs.Exits.{if_err}
use Rattle.journal_memory.specs.Causes.{CauseState}
use Rattle.journal_memory.specs.Updates.{HaveAllSince}
use Rattle.journal_parts.specs.Durables.{DurableState, IsDurable}
use Rattle.journal_memory.specs.Volatiles.{VolatileState, IsFrontRefusal}
use Rattle.journal_parts.specs.Pairs.{IsRestDue, IsRestRefusal}
use Rattle.journal_tail.proofs.Comparing.{above, at_most}
use Rattle.journal_parts.proofs.Enduring.{crashes_reads}
use Rattle.journal_parts.proofs.Pairing.{marks_all, tied_rest, rest_since}
use Rattle.journal_parts.proofs.durable.Durable.mark_rest.Goals.{then-awaits_logging-via-then-awaits_logging, then-awaits_logging-via-else-awaits_logging+then-le}
use Rattle.journal_parts.proofs.durable.Durable.mark_rest.Goals as goal

pub returns-in_err-front_over-clause-refusal : goal.returns-in_err-front_over-clause-refusal
returns-in_err-front_over-clause-refusal g c =
    if_err c.from_residual.result _ (IsRestRefusal c.args.volatile.now c.args.self.now) c.from_residual.ensures.1
    (λ (e : Refusal CauseState) is. subst (λ (r : Refusal CauseState). IsRestRefusal c.args.volatile.now c.args.self.now r) (sym is)
    (inl (subst (λ (d : DurableState). IsFrontRefusal c.args.volatile.now.ledger.history d.front c.in_err-front_over.field-0.0) c.self.view_is c.in_err-front_over.ensures.refusal)))

pub returns-in_err-front_over-clause-crash : goal.returns-in_err-front_over-clause-crash
returns-in_err-front_over-clause-crash g c =
    crashes_reads g.J.Naming.layout _ c.args.self.now c.args.self.now c.self.invariant c.self.view_is (OnlyReads-refl c.args.self.now.objects) refl

pub returns-then-awaits_logging-clause-only : goal.returns-then-awaits_logging-clause-only
returns-then-awaits_logging-clause-only g c = λ no due.
    let commits : c.commits-commits.result ≡ count c.args.volatile.now.ledger.history = c.commits-commits.ensures in
    elim c.then-awaits_logging.branch [
      | then-awaits_logging-via-then-awaits_logging w ↦ let h = w.if-awaits_logging in c.awaits_logging.ensures.only h.true due
      | then-awaits_logging-via-else-awaits_logging+then-le w ↦ let h = w.if-le in let f = w.floor in
          omega (arith, at_most c.commits-commits.result f.result h.ensures, f.ensures, commits, due.more)
    ]

pub returns-then-awaits_logging-clause-crash : goal.returns-then-awaits_logging-clause-crash
returns-then-awaits_logging-clause-crash g c =
    crashes_reads g.J.Naming.layout _ c.args.self.now c.args.self.now c.self.invariant c.self.view_is (OnlyReads-refl c.args.self.now.objects) refl

pub returns-in_err-mark-clause-refusal : goal.returns-in_err-mark-clause-refusal
returns-in_err-mark-clause-refusal g c =
    let commits : c.commits-commits.result ≡ count c.args.volatile.now.ledger.history = c.commits-commits.ensures in
    let due : IsRestDue c.args.volatile.now c.args.self.now = record {
      logged = c.if-awaits_logging.ensures.cut refl;
      rest = c.if-awaits_logging.ensures.rest refl;
      tail = c.if-awaits_logging.ensures.tail refl;
      more = omega (arith, above c.commits-commits.result c.floor.result c.if-le.ensures, c.floor.ensures, commits);
    } in
    if_err c.from_residual-in_err-mark.result _ (IsRestRefusal c.args.volatile.now c.args.self.now) c.from_residual-in_err-mark.ensures.1
    (λ (e : Refusal CauseState) is. subst (λ (r : Refusal CauseState). IsRestRefusal c.args.volatile.now c.args.self.now r) (sym is)
    (inr (due, c.in_err-mark.ensures.refusal)))

pub returns-in_err-mark-clause-crash : goal.returns-in_err-mark-clause-crash
returns-in_err-mark-clause-crash g c =
    crashes_reads g.J.Naming.layout _ c.args.self.now c.args.self.now c.self.invariant c.self.view_is (OnlyReads-refl c.args.self.now.objects) refl

pub set_all_marked-requires-clause-longer : goal.set_all_marked-requires-clause-longer
set_all_marked-requires-clause-longer g c =
    let history : c.front.result ≡ c.args.volatile.now.ledger.history ++ stable c.commits-commits.result ∷ [] =
    c.front.ensures.history ∙ ap (λ (v : VolatileState). v.ledger.history) c.in_ok-mark.ensures.added in
    subst (λ (h : List Entry). IsPrefix c.args.self.now.front h) (sym history)
    (IsPrefix-trans c.args.self.now.front c.args.volatile.now.ledger.history (c.args.volatile.now.ledger.history ++ stable c.commits-commits.result ∷ [])
    (subst (λ (d : DurableState). IsPrefix d.front c.args.volatile.now.ledger.history) c.self.view_is c.in_ok-front_over.ensures.begins)
    (stable c.commits-commits.result ∷ [], refl))

pub set_all_marked-requires-clause-counted : goal.set_all_marked-requires-clause-counted
set_all_marked-requires-clause-counted g c =
    let history : c.front.result ≡ c.args.volatile.now.ledger.history ++ stable c.commits-commits.result ∷ [] =
    c.front.ensures.history ∙ ap (λ (v : VolatileState). v.ledger.history) c.in_ok-mark.ensures.added in
    c.commits-commits.ensures
    ∙ sym (ap count history ∙ count-mark c.args.volatile.now.ledger.history c.commits-commits.result)

pub set_all_marked-requires-clause-floored : goal.set_all_marked-requires-clause-floored
set_all_marked-requires-clause-floored g c =
    let history : c.front.result ≡ c.args.volatile.now.ledger.history ++ stable c.commits-commits.result ∷ [] =
    c.front.ensures.history ∙ ap (λ (v : VolatileState). v.ledger.history) c.in_ok-mark.ensures.added in
    let low : floor c.args.volatile.now.ledger.history ≤ c.commits-commits.result =
    omega (arith, above c.commits-commits.result c.floor.result c.if-le.ensures, c.floor.ensures) in
    omega (arith, ap floor history ∙ floor-mark c.args.volatile.now.ledger.history c.commits-commits.result low)

pub set_all_marked-requires-clause-all : goal.set_all_marked-requires-clause-all
set_all_marked-requires-clause-all g c =
    let commits : c.commits-commits.result ≡ count c.args.volatile.now.ledger.history = c.commits-commits.ensures in
    let history : c.front.result ≡ c.args.volatile.now.ledger.history ++ stable (count c.args.volatile.now.ledger.history) ∷ [] =
    c.front.ensures.history ∙ ap (λ (v : VolatileState). v.ledger.history) c.in_ok-mark.ensures.added
    ∙ ap (λ (n : ℕ). c.args.volatile.now.ledger.history ++ stable n ∷ []) commits in
    subst (λ (h : List Entry). IsTrue (is_trusted h) → HaveAllSince g.J.Naming.layout h c.args.self.now.logged []) (sym history)
    (rest_since g.J.Naming.layout c.args.volatile.now c.args.self.now.logged c.prove_invariant.ensures
    (c.if-awaits_logging.ensures.cut refl) (c.if-awaits_logging.ensures.tail refl))

pub returns-clause-marks : goal.returns-clause-marks
returns-clause-marks g c = λ done.
    let commits : c.commits-commits.result ≡ count c.args.volatile.now.ledger.history = c.commits-commits.ensures in
    let due : IsRestDue c.args.volatile.now c.args.self.now = record {
      logged = c.if-awaits_logging.ensures.cut refl;
      rest = c.if-awaits_logging.ensures.rest refl;
      tail = c.if-awaits_logging.ensures.tail refl;
      more = omega (arith, above c.commits-commits.result c.floor.result c.if-le.ensures, c.floor.ensures, commits);
    } in
    marks_all c.args.volatile.now c.mark.new.self c.args.self.now c.set_all_marked.new.self c.commits-commits.result c.front.result due commits
    c.in_ok-mark.ensures.added c.front.ensures.history c.set_all_marked.ensures.marks

pub returns-clause-tied : goal.returns-clause-tied
returns-clause-tied g c = λ tied.
    let commits : c.commits-commits.result ≡ count c.args.volatile.now.ledger.history = c.commits-commits.ensures in
    tied_rest g.J.Naming.layout c.args.volatile.now c.mark.new.self c.args.self.now c.set_all_marked.new.self
    c.prove_invariant.ensures (subst (IsDurable g.J.Naming.layout) c.self.view_is c.self.invariant)
    (omega (arith, above c.commits-commits.result c.floor.result c.if-le.ensures, c.floor.ensures, commits))
    (returns-clause-marks g c refl) tied
