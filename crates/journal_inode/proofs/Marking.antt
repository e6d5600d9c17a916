-- Blocks are marked in a table, one after another.
use Rattle.std.proofs.Common.{ℕ, zero, suc, ◌≡◌, ◌≢◌, ◌<◌, ◌≤◌, ◌+◌, ◌-◌, ◌⊎◌, inl, inr, Bool, true, false, List, [], ◌∷◌, ◌++◌, Option, Some, length, take, get_or, refl, sym, ap, subst, ◌∙◌, arith}
use Rattle.std.specs.Prelude.{◌↔◌, All, AllPairs, Contains, slice_get, slice_set}
use Rattle.std.proofs.lemmas.Bool.{cases_eq}
use Rattle.std.proofs.lemmas.Option.{slice_get_within, slice_get-get_or}
use Rattle.std.proofs.lemmas.List.{length-set, get_or-take, length-take-le}
use Rattle.std.proofs.lemmas.List.Elements.{All-push, All-get_or, Contains-get_or, Contains-append_left, Contains-push, Contains-push_cases}
use Rattle.std.proofs.lemmas.List.Quantifiers.{all_pairs_push}
use Rattle.journal_world.specs.declared.layout.TheConstants.{FIRST_DATA}
use Rattle.journal_inode.specs.Admitting.{IsUnmarked, MarksBlocks}

pub get-set_same : (xs : List Bool) (k : ℕ) (x : Bool) → k < length xs → slice_get (slice_set xs k x) k ≡ Some x
get-set_same [] k x low = absurd (omega arith)
get-set_same (y ∷ ys) zero x low = refl
get-set_same (y ∷ ys) (suc k) x low = get-set_same ys k x (omega arith)

pub get-set_other : (xs : List Bool) (k j : ℕ) (x : Bool) → k ≢ j → slice_get (slice_set xs j x) k ≡ slice_get xs k
get-set_other [] k j x ne = refl
get-set_other (y ∷ ys) zero zero x ne = absurd (ne refl)
get-set_other (y ∷ ys) zero (suc j) x ne = refl
get-set_other (y ∷ ys) (suc k) zero x ne = refl
get-set_other (y ∷ ys) (suc k) (suc j) x ne = get-set_other ys k j x (λ e. ne (ap suc e))

pub true-false : {o : Option Bool} → o ≡ Some true → o ≡ Some false → ⊥
true-false is_true is_false = cc

-- what a place of the table is
pub within_cases : (xs : List Bool) (k : ℕ) → k < length xs → (slice_get xs k ≡ Some true) ⊎ (slice_get xs k ≡ Some false)
within_cases xs k low = by_value (get_or xs k true) (slice_get-get_or xs k true low)
  where
    by_value : (b : Bool) → slice_get xs k ≡ Some b → (slice_get xs k ≡ Some true) ⊎ (slice_get xs k ≡ Some false)
    by_value true is = inl is
    by_value false is = inr is

-- the place of a data block in the table
pub place_of : (b : ℕ) → FIRST_DATA ≤ b → FIRST_DATA + (b - FIRST_DATA) ≡ b
place_of b from = omega arith

-- one more was free
pub MarksBlocks-more : (bs : List ℕ) (b : ℕ) (old mid new : List Bool) → MarksBlocks bs old mid → FIRST_DATA ≤ b → IsUnmarked mid b → new ≡ slice_set mid (b - FIRST_DATA) true
    → MarksBlocks (bs ++ b ∷ []) old new
MarksBlocks-more bs b old mid new marks from unmarked is = record {
  unmarked = All-push (IsUnmarked old) bs b marks.unmarked was;
  distinct = all_pairs_push ◌≢◌ bs b marks.distinct
      (λ k d low same. true-false (marked_mid (subst (Contains bs) same (Contains-get_or bs k d low))) unmarked);
  marked = λ k. by_place k (cases_eq k (b - FIRST_DATA));
  same_length = ap length is ∙ length-set mid (b - FIRST_DATA) true ∙ marks.same_length;
}
  where
    inside : b - FIRST_DATA < length mid
    inside = slice_get_within mid (b - FIRST_DATA) false unmarked

    marked_mid : Contains bs b → slice_get mid (b - FIRST_DATA) ≡ Some true
    marked_mid has = (marks.marked (b - FIRST_DATA)).1 (inr (subst (Contains bs) (sym (place_of b from)) has))

    was : IsUnmarked old b
    was = by_case (within_cases old (b - FIRST_DATA) (subst (λ n. b - FIRST_DATA < n) marks.same_length inside))
      where
        by_case : (slice_get old (b - FIRST_DATA) ≡ Some true) ⊎ (slice_get old (b - FIRST_DATA) ≡ Some false) → IsUnmarked old b
        by_case (inl set) = absurd (true-false ((marks.marked (b - FIRST_DATA)).1 (inl set)) unmarked)
        by_case (inr clear) = clear

    by_place : (k : ℕ) → (k ≡ b - FIRST_DATA) ⊎ (k ≡ b - FIRST_DATA → ⊥) → (slice_get new k ≡ Some true) ↔ ((slice_get old k ≡ Some true) ⊎ Contains (bs ++ b ∷ []) (FIRST_DATA + k))
    by_place k (inl here) = (
      (λ set. inr (subst (Contains (bs ++ b ∷ [])) (sym (place_of b from) ∙ ap (λ x. FIRST_DATA + x) (sym here)) (Contains-push bs b))),
      (λ either. ap (slice_get new) here ∙ ap (λ xs. slice_get xs (b - FIRST_DATA)) is ∙ get-set_same mid (b - FIRST_DATA) true inside),
    )
    by_place k (inr ne) = (
      (λ set. more ((marks.marked k).0 (sym same ∙ set))),
      (λ either. same ∙ (marks.marked k).1 (fewer either)),
    )
      where
        same : slice_get new k ≡ slice_get mid k
        same = ap (λ xs. slice_get xs k) is ∙ get-set_other mid k (b - FIRST_DATA) true ne

        more : (slice_get old k ≡ Some true) ⊎ Contains bs (FIRST_DATA + k) → (slice_get old k ≡ Some true) ⊎ Contains (bs ++ b ∷ []) (FIRST_DATA + k)
        more (inl set) = inl set
        more (inr has) = inr (Contains-append_left bs (b ∷ []) (FIRST_DATA + k) has)

        fewer : (slice_get old k ≡ Some true) ⊎ Contains (bs ++ b ∷ []) (FIRST_DATA + k) → (slice_get old k ≡ Some true) ⊎ Contains bs (FIRST_DATA + k)
        fewer (inl set) = inl set
        fewer (inr has) = last (Contains-push_cases bs b (FIRST_DATA + k) has)
          where
            last : Contains bs (FIRST_DATA + k) ⊎ (b ≡ FIRST_DATA + k) → (slice_get old k ≡ Some true) ⊎ Contains bs (FIRST_DATA + k)
            last (inl first) = inr first
            last (inr it) = absurd (ne (omega (arith, it)))

same_default : (k : ℕ) (xs : List ℕ) (d e : ℕ) → k < length xs → get_or xs k d ≡ get_or xs k e
same_default k [] d e low = absurd (omega arith)
same_default zero (x ∷ xs) d e low = refl
same_default (suc k) (x ∷ xs) d e low = same_default k xs d e (omega (arith, low))

-- one was marked already, so not all of them were free and distinct
pub MarksBlocks-twice : (bs : List ℕ) (i : ℕ) (old mid : List Bool) → MarksBlocks (take i bs) old mid → i < length bs → FIRST_DATA ≤ get_or bs i 0 → slice_get mid (get_or bs i 0 - FIRST_DATA) ≡ Some true
    → All (IsUnmarked old) bs → AllPairs ◌≢◌ bs → ⊥
MarksBlocks-twice bs i old mid marks low from set unmarked distinct = by_either ((marks.marked (get_or bs i 0 - FIRST_DATA)).0 set)
  where
    by_either : (slice_get old (get_or bs i 0 - FIRST_DATA) ≡ Some true) ⊎ Contains (take i bs) (FIRST_DATA + (get_or bs i 0 - FIRST_DATA)) → ⊥
    by_either (inl was) = true-false was (All-get_or (IsUnmarked old) bs i 0 low unmarked)
    by_either (inr has) =
        let before : has.0 < length (take i bs) = has.1 in
        let first : has.0 < i = omega (arith, before, length-take-le i bs (omega (arith, low))) in
        distinct has.0 i (FIRST_DATA + (get_or bs i 0 - FIRST_DATA)) first low
        (sym (get_or-take i bs has.0 _ first) ∙ has.2 ∙ place_of (get_or bs i 0) from ∙ same_default i bs 0 _ low)
