use Rattle.std.proofs.Common.{◌≡◌, ◌∙◌, ◌<◌, ◌+◌, Some, true, false, length, ap, sym, subst, refl}
use Rattle.std.specs.Prelude.{slice_get, slice_set}
use Rattle.std.proofs.lemmas.Option.{slice_get-get_or}
use Rattle.journal_alloc.proofs.Keeping.{IsKept, kept_given}
use Rattle.journal_alloc.proofs.Taking.{is_out_at}
use Rattle.journal_alloc.proofs.alloc.Alloc.give.Goals as goal

pub invariant_of-self : goal.invariant_of-self
invariant_of-self c =
    let inside : c.in-Some.place < length c.self.inside.out.items = subst (λ numbers. c.in-Some.place < length numbers.out) (sym c.self.view_is) c.in-Some.ensures.place.1 in
    let is : slice_get c.self.inside.out.items c.in-Some.place ≡ Some true = slice_get-get_or _ _ c.index.result.now inside ∙ ap Some (sym c.index.ensures ∙ c.if-not-index.false) in
    subst (λ start. IsKept c.self.inside.first (slice_set c.self.inside.out.items c.in-Some.place false) start (c.self.inside.free + 1)) (sym c.min-self-inside.ensures)
    (kept_given c.self.inside.first c.self.inside.start c.self.inside.free c.in-Some.place c.self.inside.out.items c.self.invariant is)

pub returns-clause-out : goal.returns-clause-out
returns-clause-out c =
    let inside : c.in-Some.place < length c.self.inside.out.items = subst (λ numbers. c.in-Some.place < length numbers.out) (sym c.self.view_is) c.in-Some.ensures.place.1 in
    let is : slice_get c.self.inside.out.items c.in-Some.place ≡ Some true = slice_get-get_or _ _ c.index.result.now inside ∙ ap Some (sym c.index.ensures ∙ c.if-not-index.false) in
    ((λ yes. is_out_at c.args.self.now c.in-Some.place c.args.n c.in-Some.ensures.place.0 (subst (λ numbers. slice_get numbers.out c.in-Some.place ≡ Some true) c.self.view_is is)), λ out. refl)
