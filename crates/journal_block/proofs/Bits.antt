-- One bit set or cleared: what it then is, and that each other stays.
use Rattle.std.proofs.Common.{◌≡◌, ◌≢◌, ◌<◌, ◌≤◌, ◌+◌, ◌-◌, ◌*◌, ◌/◌, ◌%◌, ◌^◌, ℕ, zero, suc, Bool, true, false, ◌==◌, ⊎_elim, length, take, drop, set, get_or-drop, refl, sym, ap, ◌∙◌, arith, w8, bit_and, bit_or}
use Rattle.std.specs.Prelude.{slice_index, slice_index_or, slice_range}
use Rattle.std.specs.Int.{bit_at}
use Rattle.std.specs.Int.Bits.{or_add_and}
use Rattle.std.proofs.lemmas.Bool.{cases_eq, cases_lt}
use Rattle.std.proofs.lemmas.Nat.{one_shl, and-not, and_comm, and_le_l, pow_below}
use Rattle.std.proofs.lemmas.Nat.Bits.{and_pow, shr_and_one, bit_at_set_same, bit_at_set_other, bit_at_clear_same, bit_at_clear_other, bit_at_cat_low, bit_at_cat_high}
use Rattle.byteorder.specs.Endian.{little_from, little_number}
use Rattle.byteorder.specs.Numbers.{little_from-take}
use Rattle.std.proofs.lemmas.List.{get_or_read, get_or-set_same, get_or-set_other}
use Rattle.journal_block.specs.Block.{Bytes, bit_of, byte_with_bit, with_bit}

-- a test of a bit
pub bit_of-read : (bytes : Bytes) (i byte : ℕ) → i / 8 < length bytes → byte ≡ slice_index_or bytes (i / 8) byte
    → (bit_and (byte / 2 ^ (i % 8)) 1 == 1) ≡ bit_of bytes i
unfolding bit_of
bit_of-read bytes i byte within read =
    ap (λ (n : ℕ). n == 1) (shr_and_one byte (i % 8) ∙ ap (λ (n : ℕ). bit_at n (i % 8)) (get_or_read bytes (i / 8) byte within read 0))

module _ (byte k : ℕ) (fits : byte < 256) (within : k < 8) where
  mask : 1 * 2 ^ k % 256 ≡ 2 ^ k
  mask = one_shl k 8 within

  pub byte_with_bit-set : bit_or byte (1 * 2 ^ k % 256) ≡ byte_with_bit byte k true
  unfolding byte_with_bit
  byte_with_bit-set = rw mask (omega (arith, or_add_and byte (2 ^ k), and_pow byte k, and_le_l byte (2 ^ k)))

  pub byte_with_bit-clear : bit_and byte (255 - 1 * 2 ^ k % 256) ≡ byte_with_bit byte k false
  unfolding byte_with_bit
  byte_with_bit-clear = rw mask (omega (arith, and-not 8 (2 ^ k) byte (pow_below k 8 within) fits, and_comm byte (255 - 2 ^ k), and_comm byte (2 ^ k), and_pow byte k))

  bit_at-same : (value : Bool) → (bit_at (byte_with_bit byte k value) k == 1) ≡ value
  bit_at-same true = ap (λ (n : ℕ). n == 1) (ap (λ (n : ℕ). bit_at n k) (sym byte_with_bit-set) ∙ bit_at_set_same w8 byte k within)
  bit_at-same false = ap (λ (n : ℕ). n == 1) (ap (λ (n : ℕ). bit_at n k) (sym byte_with_bit-clear) ∙ bit_at_clear_same w8 byte k within)

  bit_at-other : (value : Bool) (j : ℕ) → j < 8 → j ≢ k → bit_at (byte_with_bit byte k value) j ≡ bit_at byte j
  bit_at-other true j lt other = ap (λ (n : ℕ). bit_at n j) (sym byte_with_bit-set) ∙ bit_at_set_other w8 byte k within j other
  bit_at-other false j lt other = ap (λ (n : ℕ). bit_at n j) (sym byte_with_bit-clear) ∙ bit_at_clear_other w8 byte k within j lt other

-- a byte of a block, read and put back with its bit set or cleared
module _ (bytes : Bytes) (i byte put : ℕ) (value : Bool) (within : i / 8 < length bytes)
    (read : byte ≡ slice_index_or bytes (i / 8) byte) (fits : byte < 256) (changed : put ≡ byte_with_bit byte (i % 8) value) where
  found : slice_index bytes (i / 8) ≡ byte
  found = sym (get_or_read bytes (i / 8) byte within read 0)

  pub set-with_bit : set bytes (i / 8) put ≡ with_bit bytes i value
  unfolding with_bit
  set-with_bit = rw (found, changed) refl

  pub bit_of-set : bit_of (set bytes (i / 8) put) i ≡ value
  unfolding bit_of
  bit_of-set = rw (get_or-set_same bytes (i / 8) put 0 within, changed) (bit_at-same byte (i % 8) fits (omega arith) value)

  pub bit_of-set_other : (k : ℕ) → k ≢ i → bit_of (set bytes (i / 8) put) k ≡ bit_of bytes k
  unfolding bit_of
  bit_of-set_other k other = ap (λ (n : ℕ). n == 1) (⊎_elim
      (λ (here : k / 8 ≡ i / 8).
      let differs : k % 8 ≢ i % 8 = λ same. other (omega arith) in
      rw (here, get_or-set_same bytes (i / 8) put 0 within, found, changed)
      (bit_at-other byte (i % 8) fits (omega arith) value (k % 8) (omega arith) differs))
      (λ (elsewhere : k / 8 ≢ i / 8). ap (λ (n : ℕ). bit_at n (k % 8)) (get_or-set_other bytes (i / 8) (k / 8) put 0 elsewhere))
      (cases_eq (k / 8) (i / 8)))

-- a bit of a number that lies in bytes from a place on, the lowest first, is the bit of one of them
little_bit : (n j : ℕ) (xs : Bytes) (k : ℕ) → ((i : ℕ) → slice_index xs i < 256) → k < 8 * n
    → bit_at (little_from j n xs) k ≡ bit_at (slice_index xs (j + k / 8)) (k % 8)
little_bit zero j xs k fits within = absurd (omega arith)
little_bit (suc n) j xs k fits within =
    ⊎_elim low (λ le. high le (little_bit n (suc j) xs (k - 8) fits (omega (arith, le, within)))) (cases_lt k 8)
  where
    rest : ℕ
    rest = little_from (suc j) n xs

    split : slice_index xs j + 256 * rest ≡ rest * 2 ^ 8 + slice_index xs j
    split = omega arith

    low : k < 8 → bit_at (slice_index xs j + 256 * rest) k ≡ bit_at (slice_index xs (j + k / 8)) (k % 8)
    low lt =
        let place : j ≡ j + k / 8 = omega (arith, lt) in
        let bit : k ≡ k % 8 = omega (arith, lt) in
        ap (λ x. bit_at x k) split ∙ bit_at_cat_low rest 8 (slice_index xs j) k lt
        ∙ ap (λ p. bit_at (slice_index xs p) k) place ∙ ap (bit_at (slice_index xs (j + k / 8))) bit

    high : 8 ≤ k → bit_at rest (k - 8) ≡ bit_at (slice_index xs (suc j + (k - 8) / 8)) ((k - 8) % 8)
        → bit_at (slice_index xs j + 256 * rest) k ≡ bit_at (slice_index xs (j + k / 8)) (k % 8)
    high le later =
        let place : suc j + (k - 8) / 8 ≡ j + k / 8 = omega (arith, le) in
        let bit : (k - 8) % 8 ≡ k % 8 = omega (arith, le) in
        ap (λ x. bit_at x k) split ∙ bit_at_cat_high rest 8 (slice_index xs j) k (fits j) le ∙ later
        ∙ ap (λ p. bit_at (slice_index xs p) ((k - 8) % 8)) place ∙ ap (bit_at (slice_index xs (j + k / 8))) bit

-- so the bits of a number that stands in a block are those of the block from there on
pub bit_of-number : (bytes : Bytes) (i k : ℕ) → ((p : ℕ) → slice_index bytes p < 256) → i % 8 ≡ 0 → k < 64
    → (bit_at (little_number 8 (slice_range bytes (i / 8) (i / 8 + 8))) k == 1) ≡ bit_of bytes (i + k)
unfolding bit_of
bit_of-number bytes i k fits multiple within =
    let eight : i / 8 + 8 - i / 8 ≡ 8 = omega arith in
    let first : 0 + k / 8 ≡ k / 8 = omega arith in
    let byte : i / 8 + k / 8 ≡ (i + k) / 8 = omega (arith, multiple) in
    let bit : k % 8 ≡ (i + k) % 8 = omega (arith, multiple) in
    ap (λ n. n == 1)
    (ap (λ n. bit_at (little_from 0 8 (take n (drop (i / 8) bytes))) k) eight
    ∙ ap (λ n. bit_at n k) (little_from-take 0 8 8 (drop (i / 8) bytes) (omega arith))
    ∙ little_bit 8 0 (drop (i / 8) bytes) k (λ p. rw (get_or-drop (i / 8) bytes p 0) (fits (i / 8 + p))) within
    ∙ ap (λ p. bit_at (slice_index (drop (i / 8) bytes) p) (k % 8)) first
    ∙ ap (λ n. bit_at n (k % 8)) (get_or-drop (i / 8) bytes (k / 8) 0)
    ∙ ap (λ p. bit_at (slice_index bytes p) (k % 8)) byte
    ∙ ap (bit_at (slice_index bytes ((i + k) / 8))) bit)
