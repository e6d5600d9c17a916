-- Records of owners and entries, and their bytes.
use Rattle.std.proofs.Common.{ℕ, ◌≡◌, ◌≢◌, ◌<◌, ◌≤◌, ◌+◌, ◌-◌, ◌*◌, ◌^◌, List, [], ◌∷◌, ◌++◌, length, take, drop, replicate, refl, sym, ap, ◌∙◌, append_assoc, length-append, arith, ◌⊎◌, inl, inr}
use Rattle.std.specs.Prelude.{slice_range, ◌%◌, bit_xor}
use Rattle.std.specs.Int.{w32, to_le_bytes, from_le_bytes}
use Rattle.std.proofs.lemmas.Bool.{cases_lt}
use Rattle.std.proofs.lemmas.List.{length-take-le, length-drop, drop-drop, drop-replicate, take-replicate, length-replicate}
use Rattle.std.proofs.lemmas.Slice.{between_is, take-put_mid_below, drop-put_mid}
use borrow.Rule.Slice.PartMut.{put_mid}
use Rattle.std.proofs.lemmas.Nat.{from_le_bytes-to_le_bytes_4}
use Rattle.journal_treestore.specs.declared.owner.Owner.{Owner}
use Rattle.journal_treestore.specs.declared.entry.Entry.{Entry}
use Rattle.journal_treestore.specs.Bytes.{with_piece, word_at}
use Rattle.journal_treestore.specs.Owners.{owner_bytes, owner_from}
use Rattle.journal_treestore.specs.Entries.{tag_from, tag_of, no_entry, entry_bytes, entry_from, with_entry}
use Rattle.journal_treestore.specs.Views.{zero_block}
use Rattle.journal_treestore.proofs.Pieces.{slice_behind}

-- ── owners ──

pub owner_pieces : (n p : ℕ) → with_piece (with_piece (replicate 8 0) 0 (to_le_bytes w32 n)) 4 (to_le_bytes w32 p) ≡ to_le_bytes w32 n ++ to_le_bytes w32 p
owner_pieces n p = refl

pub owner_read : (o : Owner) → o.number < 2 ^ 32 → o.place < 2 ^ 32 → owner_from (owner_bytes o) ≡ o
unfolding word_at
owner_read o a b = λ i. record { number = from_le_bytes-to_le_bytes_4 o.number a i; place = from_le_bytes-to_le_bytes_4 o.place b i }

-- ── entries ──

length-entry : (e : Entry) → length (entry_bytes e) ≡ 8
length-entry e = refl

pub length-with : (v : List ℕ) (at : ℕ) (e : Entry) → length v ≡ 4096 → at < 512 → length (with_entry v at e) ≡ 4096
length-with v at e whole low =
    let front : length (take (8 * at) v) ≡ 8 * at = length-take-le (8 * at) v (omega (arith, whole, low)) in
    let back : length (drop (8 * at + 8) v) ≡ length v - (8 * at + 8) = length-drop (8 * at + 8) v in
    let entry = length-entry e in
    length-append (take (8 * at) v ++ entry_bytes e) (drop (8 * at + 8) v) ∙ ap (λ n. n + length (drop (8 * at + 8) v)) (length-append (take (8 * at) v) (entry_bytes e)) ∙ omega (arith, front, back, entry, whole, low)

-- the entry that was put is read
pub with-same : (v : List ℕ) (at : ℕ) (e : Entry) → length v ≡ 4096 → at < 512 → e.number < 2 ^ 32 → e.tag < 2 ^ 32 → entry_from (with_entry v at e) at ≡ e
unfolding word_at
with-same v at e whole low a b = λ i. record { number = number i; tag = tag i }
  where
    f : List ℕ
    f = take (8 * at) v

    r : List ℕ
    r = drop (8 * at + 8) v

    front : length f ≡ 8 * at
    front = length-take-le (8 * at) v (omega (arith, whole, low))

    number : from_le_bytes w32 (slice_range (with_entry v at e) (8 * at) (8 * at + 4)) ≡ e.number
    number =
        ap (λ x. from_le_bytes w32 (slice_range x (8 * at) (8 * at + 4))) (append_assoc f (to_le_bytes w32 e.number ++ to_le_bytes w32 e.tag) r ∙ ap (λ x. f ++ x) (append_assoc (to_le_bytes w32 e.number) (to_le_bytes w32 e.tag) r))
        ∙ ap (from_le_bytes w32) (slice_behind f (to_le_bytes w32 e.number) (to_le_bytes w32 e.tag ++ r) (8 * at) (8 * at + 4) front refl)
        ∙ from_le_bytes-to_le_bytes_4 e.number a

    second : length (f ++ to_le_bytes w32 e.number) ≡ 8 * at + 4
    second = length-append f (to_le_bytes w32 e.number) ∙ ap (λ n. n + 4) front

    tag : from_le_bytes w32 (slice_range (with_entry v at e) (8 * at + 4) (8 * at + 4 + 4)) ≡ e.tag
    tag =
        ap (λ x. from_le_bytes w32 (slice_range x (8 * at + 4) (8 * at + 4 + 4)))
        (append_assoc f (to_le_bytes w32 e.number ++ to_le_bytes w32 e.tag) r ∙ ap (λ x. f ++ x) (append_assoc (to_le_bytes w32 e.number) (to_le_bytes w32 e.tag) r) ∙ sym (append_assoc f (to_le_bytes w32 e.number) (to_le_bytes w32 e.tag ++ r)))
        ∙ ap (from_le_bytes w32) (slice_behind (f ++ to_le_bytes w32 e.number) (to_le_bytes w32 e.tag) r (8 * at + 4) (8 * at + 4 + 4) second refl)
        ∙ from_le_bytes-to_le_bytes_4 e.tag b

-- what lies before a piece, and after it, stays
module _ (bytes piece : List ℕ) (at : ℕ) (fits : at + length piece ≤ length bytes) where
  -- `put_mid` is what a write to a part of a slice leaves
  put_mid-with_piece : (n : ℕ) → n ≡ length piece → put_mid at n bytes piece ≡ with_piece bytes at piece
  put_mid-with_piece n size =
      rw (size, drop-drop (length piece) at bytes) (sym (append_assoc (take at bytes) piece (drop (at + length piece) bytes)))

  pub before-with_piece : (j k : ℕ) → k ≤ at → slice_range (with_piece bytes at piece) j k ≡ slice_range bytes j k
  before-with_piece j k ends =
      rw (← put_mid-with_piece (length piece) refl, between_is (put_mid at (length piece) bytes piece) j k, between_is bytes j k) (ap (drop j) (take-put_mid_below at (length piece) bytes piece k ends (omega arith)))

  pub after-with_piece : (j k : ℕ) → at + length piece ≤ j → slice_range (with_piece bytes at piece) j k ≡ slice_range bytes j k
  after-with_piece j k starts =
      rw (← put_mid-with_piece (length piece) refl) (ap (take (k - j)) (drop-put_mid at (length piece) bytes piece j starts (omega arith) refl))

-- so the other entries stay
pub with-other : (v : List ℕ) (at i : ℕ) (e : Entry) → length v ≡ 4096 → at < 512 → i < 512 → i ≢ at → entry_from (with_entry v at e) i ≡ entry_from v i
unfolding word_at
with-other v at i e whole low inside other = λ k. record { number = ap (from_le_bytes w32) (same (8 * i) refl) k; tag = ap (from_le_bytes w32) (later (8 * i + 4) refl) k }
  where
    room : 8 * at + length (entry_bytes e) ≤ length v
    room = let entry = length-entry e in omega (arith, entry, whole, low)

    same : (j : ℕ) → j ≡ 8 * i → slice_range (with_entry v at e) j (j + 4) ≡ slice_range v j (j + 4)
    same j is = by (cases_lt i at)
      where
        by : (i < at) ⊎ (at ≤ i) → slice_range (with_entry v at e) j (j + 4) ≡ slice_range v j (j + 4)
        by (inl before) = before-with_piece v (entry_bytes e) (8 * at) room j (j + 4) (omega (arith, is, before))
        by (inr after) = after-with_piece v (entry_bytes e) (8 * at) room j (j + 4) (let entry = length-entry e in omega (arith, is, after, other, entry))

    later : (j : ℕ) → j ≡ 8 * i + 4 → slice_range (with_entry v at e) j (j + 4) ≡ slice_range v j (j + 4)
    later j is = by (cases_lt i at)
      where
        by : (i < at) ⊎ (at ≤ i) → slice_range (with_entry v at e) j (j + 4) ≡ slice_range v j (j + 4)
        by (inl before) = before-with_piece v (entry_bytes e) (8 * at) room j (j + 4) (omega (arith, is, before))
        by (inr after) = after-with_piece v (entry_bytes e) (8 * at) room j (j + 4) (let entry = length-entry e in omega (arith, is, after, other, entry))

-- the tag of a name has 32 bits
tag_from-low : (tag : ℕ) (name : List ℕ) → tag < 4294967296 → tag_from tag name < 4294967296
tag_from-low tag [] low = low
tag_from-low tag (byte ∷ name) low = tag_from-low (bit_xor tag byte * 16777619 % 4294967296) name (omega arith)

pub tag-low : (name : List ℕ) → tag_of name < 4294967296
tag-low name = tag_from-low 2166136261 name (omega arith)

-- a block of zeros has no entries
pub zero_block-is : zero_block ≡ replicate 4096 0
unfolding zero_block
zero_block-is = refl

pub zero-long : length zero_block ≡ 4096
unfolding zero_block
zero-long = length-replicate {A = ℕ} 4096 0

pub zeros_at : (n at : ℕ) → at + 4 ≤ n → word_at (replicate n 0) at ≡ 0
unfolding word_at
zeros_at n at room = ap (from_le_bytes w32) (ap (take (at + 4 - at)) (drop-replicate at n 0) ∙ ap (λ k. take k (replicate (n - at) 0)) (let e : at + 4 - at ≡ 4 = omega arith in e) ∙ take-replicate 4 (n - at) 0 (omega (arith, room)))

pub zero-entries : (at : ℕ) → at < 512 → entry_from zero_block at ≡ no_entry
unfolding zero_block
zero-entries at low = λ i. record { number = zeros_at 4096 (8 * at) (omega (arith, low)) i; tag = zeros_at 4096 (8 * at + 4) (omega (arith, low)) i }
