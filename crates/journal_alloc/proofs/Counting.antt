-- How many places are not out.
use Rattle.std.proofs.Common.{ℕ, zero, suc, ◌≡◌, ◌+◌, ◌<◌, ◌≤◌, ◌⊎◌, inl, inr, Bool, true, false, not, cond, List, [], ◌∷◌, Some, length, refl, ap, arith}
use Rattle.std.specs.Prelude.{slice_get, slice_set}
use Rattle.std.proofs.lemmas.Bool.{cases_eq}
use Rattle.std.proofs.lemmas.List.Sums.{sum_by-cons}
use Rattle.journal_alloc.specs.Numbers.{free_places, AreOutBelow}

abbrev one_if_free : Bool → ℕ
one_if_free is_out = cond (not is_out) 1 0

next : (x : Bool) (xs : List Bool) → free_places (x ∷ xs) ≡ one_if_free x + free_places xs
next x xs = sum_by-cons one_if_free x xs

some_is : {x y : Bool} → Some x ≡ Some y → x ≡ y
some_is same = cc

-- one more place is out
pub set_out : (out : List Bool) (place : ℕ) → slice_get out place ≡ Some false → free_places (slice_set out place true) + 1 ≡ free_places out
set_out [] place is = let impossible : ⊥ = cc in absurd impossible
set_out (x ∷ xs) zero is =
    let was : free_places (x ∷ xs) ≡ one_if_free x + free_places xs = next x xs in
    let now : free_places (true ∷ xs) ≡ 0 + free_places xs = next true xs in
    let free : one_if_free x ≡ 1 = ap one_if_free (some_is is) in
    omega (arith, was, now, free)
set_out (x ∷ xs) (suc place) is =
    let was : free_places (x ∷ xs) ≡ one_if_free x + free_places xs = next x xs in
    let now : free_places (x ∷ slice_set xs place true) ≡ one_if_free x + free_places (slice_set xs place true) = next x (slice_set xs place true) in
    let more : free_places (slice_set xs place true) + 1 ≡ free_places xs = set_out xs place is in
    omega (arith, was, now, more)

-- one more place is not out
pub set_free : (out : List Bool) (place : ℕ) → slice_get out place ≡ Some true → free_places (slice_set out place false) ≡ free_places out + 1
set_free [] place is = let impossible : ⊥ = cc in absurd impossible
set_free (x ∷ xs) zero is =
    let was : free_places (x ∷ xs) ≡ one_if_free x + free_places xs = next x xs in
    let now : free_places (false ∷ xs) ≡ 1 + free_places xs = next false xs in
    let out : one_if_free x ≡ 0 = ap one_if_free (some_is is) in
    omega (arith, was, now, out)
set_free (x ∷ xs) (suc place) is =
    let was : free_places (x ∷ xs) ≡ one_if_free x + free_places xs = next x xs in
    let now : free_places (x ∷ slice_set xs place false) ≡ one_if_free x + free_places (slice_set xs place false) = next x (slice_set xs place false) in
    let more : free_places (slice_set xs place false) ≡ free_places xs + 1 = set_free xs place is in
    omega (arith, was, now, more)

-- where none is counted, none is free
pub none_free : (out : List Bool) (place : ℕ) → free_places out ≡ 0 → slice_get out place ≡ Some false → ⊥
none_free out place none is = let one : free_places (slice_set out place true) + 1 ≡ free_places out = set_out out place is in omega (arith, one, none)

-- where all are out, none is counted
all_out : (out : List Bool) → AreOutBelow out (length out) → free_places out ≡ 0
all_out [] all = refl
all_out (x ∷ xs) all =
    let was : free_places (x ∷ xs) ≡ one_if_free x + free_places xs = next x xs in
    let out : one_if_free x ≡ 0 = ap one_if_free (some_is (all 0 (omega arith))) in
    let rest : free_places xs ≡ 0 = all_out xs (λ k low. all (suc k) (omega (arith, low))) in
    omega (arith, was, out, rest)

-- so where one is counted, not all are out
pub is_below : (out : List Bool) (place : ℕ) → 0 < free_places out → place ≤ length out → AreOutBelow out place → place < length out
is_below out place some within below = by_eq (cases_eq place (length out))
  where
    by_eq : (place ≡ length out) ⊎ (place ≡ length out → ⊥) → place < length out
    by_eq (inl is) = let none : free_places out ≡ 0 = all_out out (λ k low. below k (omega (arith, low, is))) in absurd (omega (arith, some, none))
    by_eq (inr ne) = omega (arith, within, ne)
