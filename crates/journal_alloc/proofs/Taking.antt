-- Numbers that are taken in turn.
use Rattle.std.proofs.Common.{ℕ, zero, suc, ◌≡◌, ◌≢◌, ◌+◌, ◌-◌, ◌<◌, ◌⊎◌, inl, inr, Bool, true, false, List, [], ◌∷◌, ◌++◌, Option, Some, refl, sym, ap, subst, ◌∙◌, append_assoc, append-nil, suc-add, length-append, arith}
use Rattle.std.specs.Prelude.{All, slice_get, slice_set, slice_index}
use Rattle.std.specs.List.Sorted.{IsStrictlyIncreasing}
use Rattle.std.proofs.lemmas.Bool.{cases_eq}
use Rattle.std.proofs.lemmas.List.Elements.{All-nil, All-cons, All-weaker}
use Rattle.journal_alloc.specs.Numbers.{Numbers, IsOut, IsFree, IsLowestFree, AreTaken, TakesMany, AreOutBelow, free_count, with_out}
use Rattle.journal_alloc.proofs.Counting.{set_out}

-- the first place that is not out is the lowest free number's
pub is_lowest : (numbers : Numbers) (place : ℕ) → slice_get numbers.out place ≡ Some false → AreOutBelow numbers.out place → IsLowestFree numbers (numbers.first + place)
is_lowest numbers place is below = record {
  free = (omega arith, ap (slice_get numbers.out) (let same : numbers.first + place - numbers.first ≡ place = omega arith in same) ∙ is);
  lowest = λ k low free. out_is_not_free (below (k - numbers.first) (omega (arith, low, free.0))) free.1;
}
  where
    out_is_not_free : {o : Option Bool} → o ≡ Some true → o ≡ Some false → ⊥
    out_is_not_free is_out is_free = cc

-- a place that is out stays so
pub set_keeps_out : (out : List Bool) (i k : ℕ) → slice_get out k ≡ Some true → slice_get (slice_set out i true) k ≡ Some true
set_keeps_out [] i k is = is
set_keeps_out (x ∷ xs) zero zero is = refl
set_keeps_out (x ∷ xs) zero (suc k) is = is
set_keeps_out (x ∷ xs) (suc i) zero is = is
set_keeps_out (x ∷ xs) (suc i) (suc k) is = set_keeps_out xs i k is

-- a place beside the one that is set stays
pub set_other : (out : List Bool) (i k : ℕ) → k < i → slice_get (slice_set out i false) k ≡ slice_get out k
set_other [] i k low = refl
set_other (x ∷ xs) zero k low = absurd (omega arith)
set_other (x ∷ xs) (suc i) zero low = refl
set_other (x ∷ xs) (suc i) (suc k) low = set_other xs i k (omega (arith, low))

get_other : (out : List Bool) (i j : ℕ) → slice_get (slice_set out i true) j ≡ Some false → slice_get out j ≡ Some false
get_other [] i j is = is
get_other (x ∷ xs) zero zero is = let impossible : ⊥ = cc in absurd impossible
get_other (x ∷ xs) zero (suc j) is = is
get_other (x ∷ xs) (suc i) zero is = is
get_other (x ∷ xs) (suc i) (suc j) is = get_other xs i j is

get_same : (out : List Bool) (i : ℕ) → slice_get (slice_set out i true) i ≡ Some false → ⊥
get_same [] i is = cc
get_same (x ∷ xs) zero is = cc
get_same (x ∷ xs) (suc i) is = get_same xs i is

-- what is free once a number was taken was free before, and is another
free_other : (numbers : Numbers) (n k : ℕ) → IsFree (with_out numbers n true) k → IsFree numbers k × (k ≢ n)
free_other numbers n k free = (
  (free.0, get_other numbers.out (n - numbers.first) (k - numbers.first) free.1),
  (λ same. get_same numbers.out (n - numbers.first) (ap (λ x. slice_get (slice_set numbers.out (n - numbers.first) true) (x - numbers.first)) (sym same) ∙ free.1)),
)

-- so it is above that number, which was the lowest
above : (numbers : Numbers) (n k : ℕ) → IsLowestFree numbers n → IsFree (with_out numbers n true) k → n < k
above numbers n k lowest free = by_eq (cases_eq k n)
  where
    by_eq : (k ≡ n) ⊎ (k ≡ n → ⊥) → n < k
    by_eq (inl is) = absurd ((free_other numbers n k free).1 is)
    by_eq (inr ne) = let not_below : k < n → ⊥ = λ low. lowest.lowest k low (free_other numbers n k free).0 in grind (arith, ne, not_below)

free_before : (old new : Numbers) (ns : List ℕ) (k : ℕ) → AreTaken old ns new → IsFree new k → IsFree old k
free_before old new [] k taken free = subst (λ numbers. IsFree numbers k) taken free
free_before old new (n ∷ ns) k taken free = (free_other old n k (free_before (with_out old n true) new ns k taken.1 free)).0

-- each was free
all_free : (old new : Numbers) (ns : List ℕ) → AreTaken old ns new → All (IsFree old) ns
all_free old new [] taken = All-nil (IsFree old)
all_free old new (n ∷ ns) taken =
    All-cons (IsFree old) n ns taken.0.free
    (All-weaker (IsFree (with_out old n true)) (IsFree old) (λ k free. (free_other old n k free).0) ns (all_free (with_out old n true) new ns taken.1))

-- they rise
all_rise : (old new : Numbers) (ns : List ℕ) → AreTaken old ns new → IsStrictlyIncreasing ns
all_rise old new [] taken = λ k low. absurd (omega arith)
all_rise old new (n ∷ []) taken = λ k low. absurd (omega (arith, low))
all_rise old new (n ∷ m ∷ ns) taken = rise_more (above old n m taken.0 taken.1.0.free) (all_rise (with_out old n true) new (m ∷ ns) taken.1)
  where
    rise_more : n < m → IsStrictlyIncreasing (m ∷ ns) → IsStrictlyIncreasing (n ∷ m ∷ ns)
    rise_more first rest zero low = first
    rise_more first rest (suc k) low = subst (λ i. slice_index (m ∷ ns) k < slice_index (n ∷ m ∷ ns) i) (sym (suc-add k 1)) (rest k (omega (arith, low)))

-- one more is taken
taken_more : (old mid new : Numbers) (ns : List ℕ) (n : ℕ) → AreTaken old ns mid → IsLowestFree mid n → new ≡ with_out mid n true → AreTaken old (ns ++ n ∷ []) new
taken_more old mid new [] n taken lowest is = (subst (λ numbers. IsLowestFree numbers n) taken lowest, is ∙ ap (λ numbers. with_out numbers n true) taken)
taken_more old mid new (m ∷ ns) n taken lowest is = (taken.0, taken_more (with_out old m true) mid new ns n taken.1 lowest is)

-- one fewer is free
pub count_taken : (old new : Numbers) (n : ℕ) → IsLowestFree old n → new ≡ with_out old n true → free_count new + 1 ≡ free_count old
count_taken old new n lowest is = ap (λ numbers. free_count numbers + 1) is ∙ set_out old.out (n - old.first) lowest.free.1

-- the place that a number has is out
pub is_out_at : (numbers : Numbers) (place n : ℕ) → numbers.first + place ≡ n → slice_get numbers.out place ≡ Some true → IsOut numbers n
is_out_at numbers place n at is = (omega (arith, at), ap (slice_get numbers.out) (let same : n - numbers.first ≡ place = omega (arith, at) in same) ∙ is)

pub TakesMany-none : (numbers : Numbers) (before : List ℕ) → TakesMany 0 numbers numbers before before
TakesMany-none numbers before = record {
  numbers = [];
  count = refl;
  behind = sym (append-nil before);
  in_turn = refl;
  free = All-nil (IsFree numbers);
  rising = λ k low. absurd (omega arith);
}

pub TakesMany-more : (k n : ℕ) (old mid new : Numbers) (before items after : List ℕ) → TakesMany k old mid before items → IsLowestFree mid n → new ≡ with_out mid n true → after ≡ items ++ n ∷ []
    → TakesMany (k + 1) old new before after
TakesMany-more k n old mid new before items after takes lowest is pushed = record {
  numbers = takes.numbers ++ n ∷ [];
  count = length-append takes.numbers (n ∷ []) ∙ ap (λ m. m + 1) takes.count;
  behind = pushed ∙ ap (λ xs. xs ++ n ∷ []) takes.behind ∙ append_assoc before takes.numbers (n ∷ []);
  in_turn = turn;
  free = all_free old new _ turn;
  rising = all_rise old new _ turn;
}
  where
    turn : AreTaken old (takes.numbers ++ n ∷ []) new
    turn = taken_more old mid new takes.numbers n takes.in_turn lowest is
