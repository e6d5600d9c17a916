-- What a piece put over some bytes changes, and what it leaves.
use Rattle.std.proofs.Common.{◌≡◌, ◌<◌, ◌≤◌, ◌+◌, ◌-◌, ◌^◌, ℕ, [], ◌++◌, length, take, drop, refl, sym, ap, ◌∙◌, arith, append_assoc, length-append}
use Rattle.std.proofs.lemmas.List.{drop-drop, length-drop, length-take-le, take_at}
use Rattle.std.proofs.lemmas.Slice.{between_is, take-put_mid_below, drop-put_mid}
use Rattle.std.specs.Prelude.{slice_range}
use borrow.Rule.Slice.PartMut.{put_mid}
use Rattle.byteorder.specs.Endian.{little_number}
use Rattle.byteorder.specs.Numbers.{little_number-reads_back}
use Rattle.journal_block.specs.Block.{Bytes, with_bytes, u64_bytes, u64_at}

module _ (bytes piece : Bytes) (at : ℕ) (fits : at + length piece ≤ length bytes) where
  -- `put_mid` is what a write to a part of a slice leaves
  put_mid-with_bytes : (n : ℕ) → n ≡ length piece → put_mid at n bytes piece ≡ with_bytes bytes at piece
  unfolding with_bytes
  put_mid-with_bytes n size =
      rw (size, drop-drop (length piece) at bytes) (sym (append_assoc (take at bytes) piece (drop (at + length piece) bytes)))

  length-with_bytes : length (with_bytes bytes at piece) ≡ length bytes
  unfolding with_bytes
  length-with_bytes = simp (length-append, length-take-le at bytes (omega arith), length-drop) (omega arith)

  -- what lies before the piece stays
  pub before-with_bytes : (j k : ℕ) → k ≤ at → slice_range (with_bytes bytes at piece) j k ≡ slice_range bytes j k
  before-with_bytes j k ends =
      rw (← put_mid-with_bytes (length piece) refl, between_is (put_mid at (length piece) bytes piece) j k, between_is bytes j k) (ap (drop j) (take-put_mid_below at (length piece) bytes piece k ends (omega arith)))

  -- and what lies after it
  pub after-with_bytes : (j k : ℕ) → at + length piece ≤ j → slice_range (with_bytes bytes at piece) j k ≡ slice_range bytes j k
  after-with_bytes j k starts =
      rw (← put_mid-with_bytes (length piece) refl) (ap (take (k - j)) (drop-put_mid at (length piece) bytes piece j starts (omega arith) refl))

  -- the items of a `Vec` after a write to a part of its slice
  pub written-with_bytes : (part items : Bytes) (n len : ℕ) → part ≡ piece → n ≡ length piece → len ≡ length bytes
      → take len (put_mid at n bytes part ++ drop (length (put_mid at n bytes part)) items) ≡ with_bytes bytes at piece
  written-with_bytes part items n len same size whole =
      rw (same, put_mid-with_bytes n size) (take_at _ _ len (length-with_bytes ∙ sym whole))

-- a number whose bytes stand there is read there
pub u64_at-bytes : (bytes : Bytes) (k n : ℕ) → n < 2 ^ 64 → slice_range bytes k (k + 8) ≡ u64_bytes n → u64_at bytes k ≡ n
unfolding u64_at u64_bytes
u64_at-bytes bytes k n fits own = ap (little_number 8) own ∙ little_number-reads_back 8 n [] fits

-- the same bytes are the same number
pub u64_at-same : (xs ys : Bytes) (k : ℕ) → slice_range xs k (k + 8) ≡ slice_range ys k (k + 8) → u64_at xs k ≡ u64_at ys k
unfolding u64_at
u64_at-same xs ys k same = ap (little_number 8) same
