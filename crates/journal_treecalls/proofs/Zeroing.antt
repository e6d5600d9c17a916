-- Bytes with zeros from a place on, and the numbers in them.
use Rattle.std.proofs.Common.{◌≡◌, ℕ, ◌+◌, ◌-◌, ◌*◌, ◌<◌, ◌≤◌, w32, List, [], ◌∷◌, length, take, get_or, replicate, sym, ap, ◌∙◌, arith, length-append}
use Rattle.std.specs.Int.{from_le_bytes}
use Rattle.std.proofs.lemmas.List.{length-take-le, length-replicate, get_or_append_left, get_or-append-add, get_or-take, get_or-replicate}
use Rattle.journal_treestore.specs.Bytes.{word_at}
use Rattle.journal_treestore.proofs.Pieces.{four_bytes}
use Rattle.journal_treecalls.specs.Fetches.{number_at}
use Rattle.journal_treecalls.specs.Sizes.{cleared}

pub cleared-long : (v : List ℕ) (from : ℕ) → length v ≡ 4096 → from ≤ 4096 → length (cleared v from) ≡ 4096
cleared-long v from long low =
    length-append (take from v) (replicate (length v - from) 0)
    ∙ (let a = length-take-le from v (omega (arith, long, low)) in let b = length-replicate {A = ℕ} (length v - from) 0 in omega (arith, a, b, long, low))

pub cleared-front : (v : List ℕ) (from i : ℕ) → length v ≡ 4096 → from ≤ 4096 → i < from → get_or (cleared v from) i 0 ≡ get_or v i 0
cleared-front v from i long fits low =
    get_or_append_left (take from v) (replicate (length v - from) 0) 0 i (let a = length-take-le from v (omega (arith, long, fits)) in omega (arith, a, low))
    ∙ get_or-take from v i 0 low

pub cleared-back : (v : List ℕ) (from i : ℕ) → length v ≡ 4096 → from ≤ 4096 → from ≤ i → i < 4096 → get_or (cleared v from) i 0 ≡ 0
cleared-back v from i long fits past low =
    ap (λ k. get_or (cleared v from) k 0) split
    ∙ get_or-append-add (take from v) (replicate (length v - from) 0) (i - from) 0
    ∙ get_or-replicate {A = ℕ} (length v - from) (i - from) 0 0 (omega (arith, long, past, low))
  where
    split : i ≡ length (take from v) + (i - from)
    split = let a = length-take-le from v (omega (arith, long, fits)) in omega (arith, a, past)

-- ── numbers ──

word-bytes : (v : List ℕ) (at : ℕ) → at + 4 ≤ length v → word_at v at ≡ from_le_bytes w32 (get_or v at 0 ∷ get_or v (at + 1) 0 ∷ get_or v (at + 2) 0 ∷ get_or v (at + 3) 0 ∷ [])
unfolding word_at
word-bytes v at room = ap (from_le_bytes w32) (four_bytes v at room)

-- those before the zeros stay
pub number-front : (v : List ℕ) (from k : ℕ) → length v ≡ 4096 → from ≤ 4096 → 4 * k + 4 ≤ from → number_at (cleared v from) k ≡ number_at v k
number-front v from k long fits low =
    word-bytes (cleared v from) (4 * k) (let l = cleared-long v from long fits in omega (arith, l, low, fits))
    ∙ (λ z. from_le_bytes w32 (
    cleared-front v from (4 * k) long fits (omega (arith, low)) z
    ∷ cleared-front v from (4 * k + 1) long fits (omega (arith, low)) z
    ∷ cleared-front v from (4 * k + 2) long fits (omega (arith, low)) z
    ∷ cleared-front v from (4 * k + 3) long fits (omega (arith, low)) z
    ∷ []))
    ∙ sym (word-bytes v (4 * k) (omega (arith, long, low, fits)))

-- and the others are 0
pub number-back : (v : List ℕ) (from k : ℕ) → length v ≡ 4096 → from ≤ 4096 → from ≤ 4 * k → k < 1024 → number_at (cleared v from) k ≡ 0
number-back v from k long fits past low =
    word-bytes (cleared v from) (4 * k) (let l = cleared-long v from long fits in omega (arith, l, low))
    ∙ (λ z. from_le_bytes w32 (
    cleared-back v from (4 * k) long fits (omega (arith, past)) (omega (arith, low)) z
    ∷ cleared-back v from (4 * k + 1) long fits (omega (arith, past)) (omega (arith, low)) z
    ∷ cleared-back v from (4 * k + 2) long fits (omega (arith, past)) (omega (arith, low)) z
    ∷ cleared-back v from (4 * k + 3) long fits (omega (arith, past)) (omega (arith, low)) z
    ∷ []))
