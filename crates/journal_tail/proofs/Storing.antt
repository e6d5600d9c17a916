-- A block with one of its objects replaced: that one then is the value, and each other is as it
-- was.
use Rattle.std.proofs.Common.{◌≡◌, ◌≢◌, ⊎_elim, ◌<◌, ◌≤◌, ◌+◌, ◌*◌, ◌/◌, ◌%◌, ◌^◌, ◌==◌, nat_lt, ℕ, zero, suc, Bool, true, false, cond, [], ◌∷◌, ◌++◌, IsTrue, Option, Some, None, length, set, take, drop, slice_index, get_or, refl, sym, ap, subst, ◌∙◌, arith, length-set, length-append, length-drop, append_assoc, w8}
use Rattle.std.specs.List.{list_all}
use Rattle.std.proofs.Math.Facts.{Fits-or, Fits-lt-pow, Fits-of_lt}
use Rattle.std.proofs.lemmas.Bool.{and_parts, eqb-true, false≢true, cases_eq, ltb-true}
use Rattle.std.proofs.lemmas.Nat.{one_shl, pow_below}
use Rattle.std.proofs.lemmas.List.{get_or_default, get_or-set_same, get_or-set_other, take_at, drop_at, length-take-le}
use Rattle.journal_world.specs.declared.address.Addr.{Addr}
use Rattle.journal_world.specs.declared.address.Kind.{Kind}
use Rattle.journal_world.specs.declared.address.Kind.TheVariants.{Bit, Record, Block}
use Rattle.journal_world.specs.Addresses.{Value, Shape, kind_of, starts_object, is_valid, is_value_of, bits_of, record_bytes}
use Rattle.journal_world.specs.Maps.{is_value_at, is_object}
use Rattle.journal_block.specs.Block.{Bytes, bit_of, byte_with_bit, with_bit, with_bytes}
use Rattle.journal_block.proofs.Bits.{byte_with_bit-set, bit_of-set, bit_of-set_other}
use Rattle.journal_block.proofs.Pieces.{before-with_bytes, after-with_bytes}
use Rattle.journal_object.specs.Objects.{object_of, with_object_of, with_object_at, ChangesOnly}
use Rattle.journal_object.proofs.Cuts.{value_size, bit_value, records_apart, record_inside, starts_inside}
use Rattle.journal_tail.proofs.Stored.{whole_off}

-- the bytes of a block
pub record IsBlock (bytes : Bytes) : Type 0 where
  pub size : length bytes ≡ 4096
  pub fits : (i : ℕ) → slice_index bytes i < 256

all_fit : (v : Bytes) → IsTrue (list_all (λ byte. nat_lt byte 256) v) → (i : ℕ) → slice_index v i < 256
all_fit [] all i = omega arith
all_fit (x ∷ xs) all zero = ltb-true x 256 (and_parts (nat_lt x 256) (list_all (λ byte. nat_lt byte 256) xs) all).0
all_fit (x ∷ xs) all (suc i) = all_fit xs (and_parts (nat_lt x 256) (list_all (λ byte. nat_lt byte 256) xs) all).1 i

pub is_block : (bytes : Bytes) → IsTrue (is_value_of Block bytes) → IsBlock bytes
is_block bytes is = record {
  size = value_size Block bytes is;
  fits = all_fit bytes (and_parts (length bytes == 4096) (list_all (λ byte. nat_lt byte 256) bytes) is).1;
}

-- what replacing an object of a kind makes of a block
pub record Replaces (kind : Option Kind) (old new : Bytes) (off : ℕ) (value : Value) : Type 0 where
  pub changed : object_of kind new off ≡ value
  pub others : (j : ℕ) → IsTrue (starts_object kind j) → j ≢ off → object_of kind new j ≡ object_of kind old j
  pub block : IsBlock new

-- A bit

module _ (bytes : Bytes) (off : ℕ) (bit : Bool) (is : IsBlock bytes) (inside : off < 32768) where
  abbrev at : ℕ
  at = off / 8

  abbrev byte : ℕ
  byte = slice_index bytes at

  abbrev put : ℕ
  put = byte_with_bit byte (off % 8) bit

  within : at < length bytes
  within = omega (arith, is.size)

  read : byte ≡ get_or bytes at byte
  read = get_or_default bytes at 0 byte within

  put_fits : put < 256
  unfolding byte_with_bit
  put_fits = elim bit as (λ b. byte_with_bit byte (off % 8) b < 256) [
    | true ↦ subst (λ (n : ℕ). n < 256) (byte_with_bit-set byte (off % 8) (is.fits at) (omega arith))
        (Fits-lt-pow {w = w8} (Fits-or {w = w8} {a = byte} {b = 1 * 2 ^ (off % 8) % 256} (Fits-of_lt {w = w8} (is.fits at))
        (Fits-of_lt {w = w8} (omega (arith, one_shl (off % 8) 8 (omega arith), pow_below (off % 8) 8 (omega arith))))))
    | false ↦ omega (arith, is.fits at)
  ]

  bit_changed : bit_of (with_bit bytes off bit) off ≡ bit
  unfolding with_bit
  bit_changed = bit_of-set bytes off byte put bit within read (is.fits at) refl

  bit_other : (k : ℕ) → k ≢ off → bit_of (with_bit bytes off bit) k ≡ bit_of bytes k
  unfolding with_bit
  bit_other k other = bit_of-set_other bytes off byte put bit within read (is.fits at) refl k other

  bit_block : IsBlock (with_bit bytes off bit)
  unfolding with_bit
  bit_block = record {
    size = length-set bytes at put ∙ is.size;
    fits = λ i. ⊎_elim
        (λ (here : i ≡ at). subst (λ (j : ℕ). slice_index (set bytes at put) j < 256) (sym here)
        (subst (λ (n : ℕ). n < 256) (sym (get_or-set_same bytes at put 0 within)) put_fits))
        (λ (elsewhere : i ≢ at). subst (λ (n : ℕ). n < 256) (sym (get_or-set_other bytes at i put 0 elsewhere)) (is.fits i))
        (cases_eq i at);
  }

-- A record

fits_append : (xs ys : Bytes) → ((i : ℕ) → slice_index xs i < 256) → ((i : ℕ) → slice_index ys i < 256) → (i : ℕ) → slice_index (xs ++ ys) i < 256
fits_append [] ys first later i = later i
fits_append (x ∷ xs) ys first later zero = first 0
fits_append (x ∷ xs) ys first later (suc i) = fits_append xs ys (λ j. first (suc j)) later i

fits_take : (n : ℕ) (xs : Bytes) → ((i : ℕ) → slice_index xs i < 256) → (i : ℕ) → slice_index (take n xs) i < 256
fits_take zero xs fits i = omega arith
fits_take (suc n) [] fits i = omega arith
fits_take (suc n) (x ∷ xs) fits zero = fits 0
fits_take (suc n) (x ∷ xs) fits (suc i) = fits_take n xs (λ j. fits (suc j)) i

fits_drop : (n : ℕ) (xs : Bytes) → ((i : ℕ) → slice_index xs i < 256) → (i : ℕ) → slice_index (drop n xs) i < 256
fits_drop zero xs fits i = fits i
fits_drop (suc n) [] fits i = omega arith
fits_drop (suc n) (x ∷ xs) fits i = fits_drop n xs (λ j. fits (suc j)) i

module _ (bytes piece : Bytes) (at : ℕ) (is : IsBlock bytes) (fits : (i : ℕ) → slice_index piece i < 256) (size : at + length piece ≤ length bytes) where
  pieces : with_bytes bytes at piece ≡ take at bytes ++ (piece ++ drop (at + length piece) bytes)
  unfolding with_bytes
  pieces = append_assoc (take at bytes) piece (drop (at + length piece) bytes)

  piece_there : (n : ℕ) → n ≡ length piece → take n (drop at (with_bytes bytes at piece)) ≡ piece
  piece_there n same = ap (λ (x : Bytes). take n (drop at x)) pieces
      ∙ ap (take n) (drop_at (take at bytes) (piece ++ drop (at + length piece) bytes) at (length-take-le at bytes (omega (arith, size))))
      ∙ take_at piece (drop (at + length piece) bytes) n (sym same)

  piece_block : IsBlock (with_bytes bytes at piece)
  piece_block = subst IsBlock (sym pieces) (record {
    size = omega (
      arith,
      length-append (take at bytes) (piece ++ drop (at + length piece) bytes),
      length-append piece (drop (at + length piece) bytes),
      length-take-le at bytes (omega (arith, size)),
      length-drop (at + length piece) bytes,
      is.size,
      size,
    );
    fits = fits_append (take at bytes) (piece ++ drop (at + length piece) bytes) (fits_take at bytes is.fits)
        (fits_append piece (drop (at + length piece) bytes) fits (fits_drop (at + length piece) bytes is.fits));
  })

-- Each kind

starts_multiple : (kind : Kind) (off : ℕ) → IsTrue (starts_object (Some kind) off) → off % bits_of kind ≡ 0
starts_multiple kind off starts = eqb-true (off % bits_of kind) 0 (and_parts (nat_lt off 32768) (off % bits_of kind == 0) starts).1

replaces : (kind : Option Kind) (bytes : Bytes) (off : ℕ) (value : Value) → IsBlock bytes → IsTrue (starts_object kind off) → IsTrue (is_value_at kind value)
    → Replaces kind bytes (with_object_of kind bytes off value) off value
unfolding object_of with_object_of
replaces None bytes off value is starts ok = absurd (false≢true ok)
replaces (Some Bit) bytes off value is starts ok =
    let inside = starts_inside (Some Bit) off starts in
    let bit = slice_index value 0 == 1 in record {
      changed = ap (λ (b : Bool). cond b 1 0 ∷ []) (bit_changed bytes off bit is inside) ∙ bit_value value ok;
      others = λ j there other. ap (λ (b : Bool). cond b 1 0 ∷ []) (bit_other bytes off bit is inside j other);
      block = bit_block bytes off bit is inside;
    }
replaces (Some (Record r)) bytes off value is starts ok =
    let multiple = starts_multiple (Record r) off starts in
    let ends = record_inside r off (starts_inside (Some (Record r)) off starts) multiple in
    let size = value_size (Record r) value ok in
    let fits = all_fit value (and_parts (length value == record_bytes r) (list_all (λ byte. nat_lt byte 256) value) ok).1 in
    let room : off / 8 + length value ≤ length bytes = omega (arith, ends, size, is.size) in record {
      changed = piece_there bytes value (off / 8) is fits room _ (omega (arith, size));
      others = λ j there other. ⊎_elim
          (λ (before : j / 8 + record_bytes r ≤ off / 8). before-with_bytes bytes value (off / 8) room (j / 8) (j / 8 + record_bytes r) before)
          (λ (after : off / 8 + record_bytes r ≤ j / 8). after-with_bytes bytes value (off / 8) room (j / 8) (j / 8 + record_bytes r) (omega (arith, after, size)))
          (records_apart r j off (starts_multiple (Record r) j there) multiple other);
      block = piece_block bytes value (off / 8) is fits room;
    }
replaces (Some Block) bytes off value is starts ok = record {
  changed = refl;
  others = λ j there other. absurd (other (whole_off (Some Block) j refl there ∙ sym (whole_off (Some Block) off refl starts)));
  block = is_block value ok;
}

-- Of each object

module _ (n : Shape) (bytes : Bytes) (a : Addr) (value : Value) (is : IsBlock bytes) (object : IsTrue (is_object n (a, value))) where
  parts : IsTrue (is_valid n a) × IsTrue (is_value_at (kind_of n a.block) value)
  parts = and_parts (is_valid n a) (is_value_at (kind_of n a.block) value) object

  there : Replaces (kind_of n a.block) bytes (with_object_at n bytes a value) a.off value
  there = replaces (kind_of n a.block) bytes a.off value is parts.0 parts.1

  pub stores_only : ChangesOnly n bytes (with_object_at n bytes a value) a value
  stores_only = record {
    changed = there.changed;
    others = λ b valid same other.
        subst (λ (k : ℕ). IsTrue (starts_object (kind_of n k) b.off) → object_of (kind_of n k) (with_object_at n bytes a value) b.off ≡ object_of (kind_of n k) bytes b.off)
        (sym same) (λ starts. there.others b.off starts other) valid;
  }

  pub stores_block : IsBlock (with_object_at n bytes a value)
  stores_block = there.block
