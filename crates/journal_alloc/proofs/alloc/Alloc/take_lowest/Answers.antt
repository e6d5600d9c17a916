use Rattle.std.proofs.Common.{◌<◌, length, subst, sym, ap, ◌∙◌, ◌+◌, arith}
use Rattle.journal_alloc.specs.Numbers.{IsLowestFree, free_places}
use Rattle.journal_alloc.proofs.Counting.{is_below}
use Rattle.journal_alloc.proofs.Keeping.{found, kept_taken}
use Rattle.journal_alloc.proofs.Taking.{is_lowest}
use Rattle.journal_alloc.proofs.alloc.Alloc.take_lowest.Goals as goal

pub index_mut-requires : goal.index_mut-requires
index_mut-requires c =
    let some : 0 < free_places c.deref.result.now = subst (λ out. 0 < free_places out) (sym (c.deref.ensures.value ∙ ap (λ numbers. numbers.out) c.self.view_is)) c.requires in
    let inside : c.first_free-place.result < length c.deref.result.now = is_below _ _ some c.first_free-place.ensures.in_range c.first_free-place.ensures.below in
    omega (arith, inside, c.deref.ensures.len)

pub invariant_of-self : goal.invariant_of-self
invariant_of-self c =
    let at = found c.self.inside.out.items _ _ c.deref.ensures.value (subst (λ numbers. 0 < free_places numbers.out) (sym c.self.view_is) c.requires)
    c.first_free-place.ensures.in_range c.first_free-place.ensures.below c.first_free-place.ensures.free in
    kept_taken _ _ _ _ _ c.self.invariant at.0 at.1

pub returns-clause-lowest : goal.returns-clause-lowest
returns-clause-lowest c =
    let at = found c.self.inside.out.items _ _ c.deref.ensures.value (subst (λ numbers. 0 < free_places numbers.out) (sym c.self.view_is) c.requires)
    c.first_free-place.ensures.in_range c.first_free-place.ensures.below c.first_free-place.ensures.free in
    subst (λ numbers. IsLowestFree numbers (c.self.inside.first + c.first_free-place.result)) c.self.view_is
    (is_lowest (record { first = c.self.inside.first; out = c.self.inside.out.items }) c.first_free-place.result at.1 at.0)
