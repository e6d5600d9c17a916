-- Numbers of 4 bytes, one after another, as they lie in a block of numbers.
use Rattle.std.proofs.Common.{ℕ, ◌≡◌, ◌≢◌, ◌<◌, ◌≤◌, ◌+◌, ◌-◌, ◌*◌, ◌^◌, List, ◌++◌, length, take, drop, refl, sym, ap, ◌∙◌, append_assoc, length-append, arith, ◌⊎◌, inl, inr}
use Rattle.std.specs.Prelude.{slice_range}
use Rattle.std.specs.Int.{w32, to_le_bytes, from_le_bytes}
use Rattle.std.proofs.lemmas.Bool.{cases_lt}
use Rattle.std.proofs.lemmas.List.{length-take-le, length-drop, drop-drop, take-take}
use Rattle.std.proofs.lemmas.Slice.{between_is}
use Rattle.std.proofs.lemmas.Nat.{from_le_bytes-to_le_bytes_4}
use Rattle.journal_treestore.specs.Bytes.{with_piece, word_at}
use Rattle.journal_treestore.specs.Views.{zero_block}
use Rattle.journal_treestore.proofs.Pieces.{slice_behind}
use Rattle.journal_treestore.proofs.Recording.{before-with_piece, after-with_piece, zeros_at}

-- a piece over bytes leaves them as many
pub length-with_piece : (v piece : List ℕ) (at : ℕ) → at + length piece ≤ length v → length (with_piece v at piece) ≡ length v
length-with_piece v piece at room =
    let front : length (take at v) ≡ at = length-take-le at v (omega (arith, room)) in
    let back : length (drop (at + length piece) v) ≡ length v - (at + length piece) = length-drop (at + length piece) v in
    length-append (take at v ++ piece) (drop (at + length piece) v) ∙ ap (λ n. n + length (drop (at + length piece) v)) (length-append (take at v) piece) ∙ omega (arith, front, back, room)

module _ (v : List ℕ) (k b : ℕ) (room : 4 * k + 4 ≤ length v) where
  -- the number that was put is read
  pub number-same : b < 2 ^ 32 → word_at (with_piece v (4 * k) (to_le_bytes w32 b)) (4 * k) ≡ b
  unfolding word_at
  number-same fits =
      ap (λ x. from_le_bytes w32 (slice_range x (4 * k) (4 * k + 4))) (append_assoc (take (4 * k) v) (to_le_bytes w32 b) (drop (4 * k + 4) v))
      ∙ ap (from_le_bytes w32) (slice_behind (take (4 * k) v) (to_le_bytes w32 b) (drop (4 * k + 4) v) (4 * k) (4 * k + 4) (length-take-le (4 * k) v (omega (arith, room))) refl)
      ∙ from_le_bytes-to_le_bytes_4 b fits

  -- the others stay
  pub number-other : (i : ℕ) → i ≢ k → word_at (with_piece v (4 * k) (to_le_bytes w32 b)) (4 * i) ≡ word_at v (4 * i)
  unfolding word_at
  number-other i other = ap (from_le_bytes w32) (by (cases_lt i k))
    where
      four : length (to_le_bytes w32 b) ≡ 4
      four = refl

      fits : 4 * k + length (to_le_bytes w32 b) ≤ length v
      fits = omega (arith, four, room)

      by : (i < k) ⊎ (k ≤ i) → slice_range (with_piece v (4 * k) (to_le_bytes w32 b)) (4 * i) (4 * i + 4) ≡ slice_range v (4 * i) (4 * i + 4)
      by (inl before) = before-with_piece v (to_le_bytes w32 b) (4 * k) fits (4 * i) (4 * i + 4) (omega (arith, before))
      by (inr after) = after-with_piece v (to_le_bytes w32 b) (4 * k) fits (4 * i) (4 * i + 4) (omega (arith, after, other, four))

  pub length-number : length (with_piece v (4 * k) (to_le_bytes w32 b)) ≡ length v
  length-number = let four : length (to_le_bytes w32 b) ≡ 4 = refl in length-with_piece v (to_le_bytes w32 b) (4 * k) (omega (arith, four, room))

pub zero_block-numbers : (k : ℕ) → k < 1024 → word_at zero_block (4 * k) ≡ 0
unfolding zero_block
zero_block-numbers k low = zeros_at 4096 (4 * k) (omega (arith, low))

-- a number of a part is one of the whole
pub number-part : (v : List ℕ) (from to at : ℕ) → at + 4 ≤ to - from → word_at (slice_range v from to) at ≡ word_at v (from + at)
unfolding word_at
number-part v from to at room = ap (from_le_bytes w32) part
  where
    part : slice_range (slice_range v from to) at (at + 4) ≡ slice_range v (from + at) (from + at + 4)
    part =
        ap (take (at + 4 - at)) (ap (drop at) (between_is v from to) ∙ drop-drop at from (take to v) ∙ sym (between_is v (from + at) to))
        ∙ take-take (at + 4 - at) (to - (from + at)) (drop (from + at) v) (omega (arith, room))
        ∙ ap (λ n. take n (drop (from + at) v)) (let e : at + 4 - at ≡ from + at + 4 - (from + at) = omega arith in e)
