-- What an allocator keeps of its list.
use Rattle.std.proofs.Common.{ℕ, ◌≡◌, ◌+◌, ◌-◌, ◌<◌, ◌≤◌, ◌^◌, Bool, true, false, List, Some, length, min, sym, subst, ◌∙◌, arith}
use Rattle.std.specs.Prelude.{slice_get, slice_set}
use Rattle.std.proofs.lemmas.List.{length-set}
use Rattle.std.proofs.lemmas.Option.{slice_get_within}
use Rattle.journal_alloc.specs.Numbers.{AreOutBelow, free_places}
use Rattle.journal_alloc.proofs.Counting.{set_out, set_free, is_below}
use Rattle.journal_alloc.proofs.Taking.{set_keeps_out, set_other}

-- No place below the first one is free, and the count is that of the free ones
abbrev pub IsKept : ℕ → List Bool → ℕ → ℕ → Type 0
IsKept first out start free = (first + length out < 2 ^ 64) × (start ≤ length out) × AreOutBelow out start × (free ≡ free_places out)

-- what was found of a place from which on one is free
pub found : (out read : List Bool) (place : ℕ) → read ≡ out → 0 < free_places out → place ≤ length read → AreOutBelow read place → (place < length read → slice_get read place ≡ Some false)
    → AreOutBelow out place × (slice_get out place ≡ Some false)
found out read place same some within below free = subst (λ xs. AreOutBelow xs place × (slice_get xs place ≡ Some false)) same (below, free inside)
  where
    inside : place < length read
    inside = is_below read place (subst (λ xs. 0 < free_places xs) (sym same) some) within below

-- the first free place is taken
pub kept_taken : (first start free place : ℕ) (out : List Bool) → IsKept first out start free → AreOutBelow out place → slice_get out place ≡ Some false → IsKept first (slice_set out place true) place (free - 1)
kept_taken first start free place out kept below is = (
  subst (λ n. first + n < 2 ^ 64) (sym same_length) kept.0,
  (let inside : place < length out = slice_get_within out place false is in omega (arith, inside, same_length)),
  (λ k low. set_keeps_out out place k (below k low)),
  (let less : free_places (slice_set out place true) + 1 ≡ free_places out = set_out out place is in omega (arith, less, kept.3)),
)
  where
    same_length : length (slice_set out place true) ≡ length out
    same_length = length-set out place true

-- a place is given back
pub kept_given : (first start free place : ℕ) (out : List Bool) → IsKept first out start free → slice_get out place ≡ Some true → IsKept first (slice_set out place false) (min start place) (free + 1)
kept_given first start free place out kept is = (
  subst (λ n. first + n < 2 ^ 64) (sym same_length) kept.0,
  (let inside : place < length out = slice_get_within out place true is in omega (arith, inside, same_length)),
  (λ k low. set_other out place k (omega (arith, low)) ∙ kept.2 k (omega (arith, low))),
  (let more : free_places (slice_set out place false) ≡ free_places out + 1 = set_free out place is in omega (arith, more, kept.3)),
)
  where
    same_length : length (slice_set out place false) ≡ length out
    same_length = length-set out place false
