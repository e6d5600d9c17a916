-- Numbers from a first one on, each out or not.
use Rattle.std.specs.Prelude.{ℕ, ◌≡◌, ◌-◌, ◌<◌, ◌≤◌, Bool, true, false, not, List, [], ◌∷◌, ◌++◌, Some, All, length, count_by, slice_get, slice_set}
use Rattle.std.specs.List.Sorted.{IsStrictlyIncreasing}

-- The number `first + i` is out where the list says yes at i
pub record Numbers : Type 0 where
  pub first : ℕ
  pub out : List Bool

-- the number is one of these, and is out
abbrev pub IsOut : Numbers → ℕ → Type 0
IsOut numbers n = (numbers.first ≤ n) × (slice_get numbers.out (n - numbers.first) ≡ Some true)

-- the number is one of these, and is not out
abbrev pub IsFree : Numbers → ℕ → Type 0
IsFree numbers n = (numbers.first ≤ n) × (slice_get numbers.out (n - numbers.first) ≡ Some false)

-- the number is free, and none below it is
pub record IsLowestFree (numbers : Numbers) (n : ℕ) : Type 0 where
  pub free : IsFree numbers n
  pub lowest : (k : ℕ) → k < n → IsFree numbers k → ⊥

-- the numbers with this one out or not, and all others as they were
abbrev pub with_out : Numbers → ℕ → Bool → Numbers
with_out numbers n is_out = record numbers { out = slice_set numbers.out (n - numbers.first) is_out }

-- how many places are not out
abbrev pub free_places : List Bool → ℕ
free_places out = count_by (λ is_out. not is_out) out

-- how many of the numbers are free
abbrev pub free_count : Numbers → ℕ
free_count numbers = free_places numbers.out

-- taken in turn, each the lowest that is free then
abbrev pub AreTaken : Numbers → List ℕ → Numbers → Type 0
AreTaken old [] new = new ≡ old
AreTaken old (n ∷ ns) new = IsLowestFree old n × AreTaken (with_out old n true) ns new

-- n numbers were taken in turn, and written after those of a list
pub record TakesMany (n : ℕ) (old new : Numbers) (before after : List ℕ) : Type 0 where
  pub numbers : List ℕ
  pub count : length numbers ≡ n
  pub behind : after ≡ before ++ numbers
  pub in_turn : AreTaken old numbers new
  -- so each of them was free, and they rise, so that no two are one
  pub free : All (IsFree old) numbers
  pub rising : IsStrictlyIncreasing numbers

-- every place below this one is out
abbrev pub AreOutBelow : List Bool → ℕ → Type 0
AreOutBelow out place = (k : ℕ) → k < place → slice_get out k ≡ Some true
