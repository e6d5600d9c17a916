-- What a comparison of two positions, or of two numbers of commits, says of them.
use Rattle.std.proofs.Common.{◌≡◌, ◌<◌, ◌≤◌, ℕ, true, false, Ordering, Less, Equal, Greater, nat_cmp, is_lt, is_le, refl, sym, arith}
use Rattle.std.specs.Ordering.{MatchOrdering}
use Rattle.std.proofs.lemmas.Bool.{true≢false}
use Rattle.std.proofs.lemmas.Cmp.{ranked}

pub below : (a b : ℕ) → true ≡ is_lt (nat_cmp a b) → a < b
below a b is = by (nat_cmp a b) (ranked a b (nat_cmp a b) refl) is
  where
    by : (r : Ordering) → MatchOrdering r (a < b) (a ≡ b) (b < a) → true ≡ is_lt r → a < b
    by Less ranks is = ranks
    by Equal ranks is = absurd (true≢false is)
    by Greater ranks is = absurd (true≢false is)

pub not_below : (a b : ℕ) → false ≡ is_lt (nat_cmp a b) → b ≤ a
not_below a b is = by (nat_cmp a b) (ranked a b (nat_cmp a b) refl) is
  where
    by : (r : Ordering) → MatchOrdering r (a < b) (a ≡ b) (b < a) → false ≡ is_lt r → b ≤ a
    by Less ranks is = absurd (true≢false (sym is))
    by Equal ranks is = omega (arith, ranks)
    by Greater ranks is = omega (arith, ranks)

pub at_most : (a b : ℕ) → true ≡ is_le (nat_cmp a b) → a ≤ b
at_most a b is = by (nat_cmp a b) (ranked a b (nat_cmp a b) refl) is
  where
    by : (r : Ordering) → MatchOrdering r (a < b) (a ≡ b) (b < a) → true ≡ is_le r → a ≤ b
    by Less ranks is = omega (arith, ranks)
    by Equal ranks is = omega (arith, ranks)
    by Greater ranks is = absurd (true≢false is)

pub above : (a b : ℕ) → false ≡ is_le (nat_cmp a b) → b < a
above a b is = by (nat_cmp a b) (ranked a b (nat_cmp a b) refl) is
  where
    by : (r : Ordering) → MatchOrdering r (a < b) (a ≡ b) (b < a) → false ≡ is_le r → b < a
    by Less ranks is = absurd (true≢false (sym is))
    by Equal ranks is = absurd (true≢false (sym is))
    by Greater ranks is = ranks
