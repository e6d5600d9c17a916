-- The last position of each block.
use Rattle.std.proofs.Common.{◌≡◌, ◌≢◌, ⊎_elim, ◌<◌, ◌+◌, ◌-◌, ℕ, eqb, ◌||◌, Bool, true, false, cond, List, [], ◌∷◌, ◌++◌, length, length-append, get_or, Option, Some, None, is_some, refl, sym, ap, subst, ◌∙◌, arith}
use Rattle.std.specs.List.{slice_get}
use Rattle.std.specs.List.Sorted.{IsStrictlySortedBy}
use Rattle.std.specs.Map.{keys_of}
use Rattle.std.specs.BTreeMap.{is_at}
use Rattle.std.specs.Ordering.{nat_cmp}
use Rattle.std.specs.Cmp.{unsigned_ties}
use Rattle.std.proofs.Math.ListN.{get_or-append}
use Rattle.std.proofs.Math.Seq.{get_or-append_seam}
use Rattle.std.proofs.lemmas.Bool.{or_left, or_right, cond-true, cond-false, cases_eq, eq-eqb, ne_eqb}
use Rattle.std.proofs.lemmas.Option.{get_or_from_slice_get, slice_get-get_or}
use Rattle.journal_block.specs.declared.update.Update.{Update}
use Rattle.journal_block.specs.Updates.{updated, updates_block}
use Rattle.journal_block.specs.UpdateLaws.{updated-append}
use Rattle.journal_memlog.specs.Laws.{updates_block-append}
use Rattle.journal_wal.specs.Wal.{planned, distinct_blocks, IsLast, IsPlanOf}

none : Update
none = record { block = 0; bytes = [] }

-- the update that is added last is the last of its block
pub is_last-added : (us : List Update) (u : Update) (start : ℕ) → IsLast (us ++ u ∷ []) start u.block (start + length us)
is_last-added us u start = record {
  above = omega arith;
  below = omega (arith, length-append us (u ∷ []));
  named = updates_block-append us (u ∷ []) u.block
      ∙ or_right (updates_block us u.block) (eqb u.block u.block || false) (or_left (eqb u.block u.block) false (eq-eqb u.block u.block refl));
  here = λ v found. let is : v ≡ u = last v found in (
    ap (λ (w : Update). w.block) is,
    λ x. updated-append us (u ∷ []) u.block x
        ∙ cond-true (eqb u.block u.block) u.bytes (updated us u.block x) (eq-eqb u.block u.block refl)
        ∙ sym (ap (λ (w : Update). w.bytes) is),
  );
}
  where
    place : (start + length us) - start ≡ length us
    place = omega arith

    last : (v : Update) → slice_get (us ++ u ∷ []) ((start + length us) - start) ≡ Some v → v ≡ u
    last v found = sym (get_or_from_slice_get (us ++ u ∷ []) ((start + length us) - start) v none found)
        ∙ (λ i. get_or (us ++ u ∷ []) (place i) none)
        ∙ get_or-append_seam us u [] none

-- those of the other blocks stay
pub is_last-kept : (us : List Update) (u : Update) (start b q : ℕ) → IsLast us start b q → b ≢ u.block
    → IsLast (us ++ u ∷ []) start b q
is_last-kept us u start b q last other = record {
  above = last.above;
  below = omega (arith, last.below, length-append us (u ∷ []));
  named = updates_block-append us (u ∷ []) b ∙ or_left (updates_block us b) (eqb u.block b || false) last.named;
  here = λ v found. let at = last.here v (before v found) in (
    at.0,
    λ x. updated-append us (u ∷ []) b x
        ∙ cond-false (eqb u.block b) u.bytes (updated us b x) (ne_eqb u.block b (λ same. other (sym same)))
        ∙ at.1 x,
  );
}
  where
    within : q - start < length us
    within = omega (arith, last.above, last.below)

    before : (v : Update) → slice_get (us ++ u ∷ []) (q - start) ≡ Some v → slice_get us (q - start) ≡ Some v
    before v found = slice_get-get_or us (q - start) none within
        ∙ ap Some (sym (get_or-append us (u ∷ []) none (q - start) within)
        ∙ get_or_from_slice_get (us ++ u ∷ []) (q - start) v none found)

-- where a plan has no block but those of some updates, one more update adds its own
pub plan-added : (us : List Update) (u : Update) (start : ℕ) (old new : List (ℕ × ℕ)) → IsPlanOf us start old
    → ((b : ℕ) → planned new b ≡ cond (is_at (nat_cmp u.block) b) (Some (start + length us)) (planned old b))
    → IsStrictlySortedBy nat_cmp (keys_of new) → IsPlanOf (us ++ u ∷ []) start new
plan-added us u start old new plan is ascending = record {
  last = λ b q has. ⊎_elim
      (λ (here : b ≡ u.block).
      let q_is : q ≡ start + length us = some_same q (start + length us) (sym has ∙ at_here b here) in
      subst (λ (c : ℕ). IsLast (us ++ u ∷ []) start c q) (sym here)
      (subst (λ (p : ℕ). IsLast (us ++ u ∷ []) start u.block p) (sym q_is) (is_last-added us u start)))
      (λ (other : b ≢ u.block). is_last-kept us u start b q (plan.last b q (sym (elsewhere b other) ∙ has)) other)
      (cases_eq b u.block);
  none = λ b has. ⊎_elim
      (λ (here : b ≡ u.block). let impossible : ⊥ = some_none (start + length us) (sym (at_here b here) ∙ has) in absurd impossible)
      (λ (other : b ≢ u.block).
      updates_block-append us (u ∷ []) b
      ∙ ap (λ (t : Bool). t || (eqb u.block b || false)) (plan.none b (sym (elsewhere b other) ∙ has))
      ∙ ap (λ (t : Bool). t || false) (ne_eqb u.block b (λ same. other (sym same))))
      (cases_eq b u.block);
  ascending = ascending;
}
  where
    some_same : (p q : ℕ) → Some p ≡ Some q → p ≡ q
    some_same p q same = cc

    some_none : (p : ℕ) → Some p ≡ None → ⊥
    some_none p same = cc

    at_here : (b : ℕ) → b ≡ u.block → planned new b ≡ Some (start + length us)
    at_here b here = is b ∙ cond-true (is_at (nat_cmp u.block) b) (Some (start + length us)) (planned old b)
        (sym (unsigned_ties u.block b) ∙ eq-eqb u.block b (sym here))

    elsewhere : (b : ℕ) → b ≢ u.block → planned new b ≡ planned old b
    elsewhere b other = is b ∙ cond-false (is_at (nat_cmp u.block) b) (Some (start + length us)) (planned old b)
        (sym (unsigned_ties u.block b) ∙ ne_eqb u.block b (λ same. other (sym same)))

-- no plan for no updates
pub plan-none : (start : ℕ) → IsPlanOf [] start []
unfolding IsStrictlySortedBy
plan-none start = record {
  last = λ b q has. let impossible : ⊥ = none_some q has in absurd impossible;
  none = λ b has. refl;
  ascending = tt;
}
  where
    none_some : (q : ℕ) → None ≡ Some q → ⊥
    none_some q same = cc

abbrev one : Bool → ℕ
one b = cond b 0 1

-- how many distinct blocks there are, once there is one update more
pub distinct-added : (us : List Update) (u : Update)
    → distinct_blocks (us ++ u ∷ []) ≡ distinct_blocks us + cond (updates_block us u.block) 0 1
distinct-added [] u = refl
distinct-added (t ∷ us) u = ⊎_elim
    (λ (same : t.block ≡ u.block). here same (distinct-added us u))
    (λ (other : t.block ≢ u.block). elsewhere other (distinct-added us u))
    (cases_eq t.block u.block)
  where
    or_false : (b : Bool) → (b || (false || false)) ≡ b
    or_false true = refl
    or_false false = refl

    here : t.block ≡ u.block → distinct_blocks (us ++ u ∷ []) ≡ distinct_blocks us + one (updates_block us u.block)
        → one (updates_block (us ++ u ∷ []) t.block) + distinct_blocks (us ++ u ∷ [])
        ≡ (one (updates_block us t.block) + distinct_blocks us) + one (updates_block (t ∷ us) u.block)
    here same before = omega (
      arith,
      before,
      ap one (updates_block-append us (u ∷ []) t.block ∙ or_right (updates_block us t.block) (eqb u.block t.block || false) (or_left (eqb u.block t.block) false (eq-eqb u.block t.block (sym same)))),
      ap one (or_left (eqb t.block u.block) (updates_block us u.block) (eq-eqb t.block u.block same)),
      ap (λ (b : ℕ). one (updates_block us b)) same,
    )

    elsewhere : t.block ≢ u.block → distinct_blocks (us ++ u ∷ []) ≡ distinct_blocks us + one (updates_block us u.block)
        → one (updates_block (us ++ u ∷ []) t.block) + distinct_blocks (us ++ u ∷ [])
        ≡ (one (updates_block us t.block) + distinct_blocks us) + one (updates_block (t ∷ us) u.block)
    elsewhere other before = omega (
      arith,
      before,
      ap one (updates_block-append us (u ∷ []) t.block
          ∙ ap (λ (b : Bool). updates_block us t.block || (b || false)) (ne_eqb u.block t.block (λ same. other (sym same)))
          ∙ or_false (updates_block us t.block)),
      ap one (ap (λ (b : Bool). b || updates_block us u.block) (ne_eqb t.block u.block other)),
    )

-- a plan grows by the blocks that it did not have
pub plan-length : (us : List Update) (u : Update) (start : ℕ) (old : List (ℕ × ℕ)) (length_now : ℕ) → IsPlanOf us start old
    → length old ≡ distinct_blocks us
    → length_now ≡ length old + cond (is_some (planned old u.block)) 0 1
    → length_now ≡ distinct_blocks (us ++ u ∷ [])
plan-length us u start old length_now plan before grown =
    grown ∙ (λ i. before i + cond (same i) 0 1) ∙ sym (distinct-added us u)
  where
    same : is_some (planned old u.block) ≡ updates_block us u.block
    same = by_plan (planned old u.block) refl
      where
        by_plan : (found : Option ℕ) → planned old u.block ≡ found → is_some (planned old u.block) ≡ updates_block us u.block
        by_plan None is = ap is_some is ∙ sym (plan.none u.block is)
        by_plan (Some q) is = ap is_some is ∙ sym (plan.last u.block q is).named
