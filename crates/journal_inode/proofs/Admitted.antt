-- The rule, from its inodes and its bits.
use Rattle.std.proofs.Common.{ℕ, zero, suc, ◌≡◌, ◌<◌, ◌≤◌, ◌+◌, ◌-◌, ◌==◌, ◌⊎◌, inl, inr, Bool, true, false, not, cond, List, [], ◌∷◌, Option, Some, None, length, refl, sym, ap, subst, ◌∙◌, arith}
use mathlib.Core.Bool.{beq}
use Rattle.journal_inode.specs.declared.version.FormatVersion.{FormatVersion}
use Rattle.std.specs.Prelude.{◌↔◌, IsTrue, Result, Ok, Err, IfOk, IfSome, MatchOption, unwrap_or, slice_get}
use Rattle.std.specs.Int.{bit_at}
use Rattle.std.proofs.lemmas.Nat.Bits.{bit_at-lt}
use Rattle.std.proofs.lemmas.Bool.{false≢true, cases_eq, cases_lt}
use Rattle.std.proofs.lemmas.Option.{slice_get_within, slice_get_past}
use Rattle.journal_world.specs.declared.layout.TheConstants.{FIRST_DATA, BLOCK_BITS}
use Rattle.journal_world.specs.Maps.{Map, AreBitsFrom}
use Rattle.journal_inode.specs.declared.place.TheConstants.{INODES}
use Rattle.journal_inode.specs.Places.{addr_of, HasFiles, object}
use Rattle.journal_inode.specs.Places.Object.{superblock, bit}
use Rattle.journal_inode.specs.Sound.{superblock_of, IsTaken, IsBit, HasSoundFiles}
use Rattle.journal_inode.specs.Admitting.{AreSoundBelow, AreOwners, bit_asked, AreAsked, AreBitsBelow, AreBitsScanned}

-- Bits more, as a number has them, are as the table asks
pub bits_more : (before now after : Map) (trusted still later failed fails failing : Bool) (owners : List Bool) (n bits : ℕ)
    → AreBitsScanned before now trusted still failed fails owners n → after ≡ now → later ≡ still → (IsTrue fails → IsTrue failing)
    → (IsTrue still → AreBitsFrom now (addr_of (bit n)) bits) → AreAsked owners n 64 bits
    → AreBitsScanned before after trusted later failed failing owners (n + 64)
bits_more before now after trusted still later failed fails failing owners n bits scanned same_map same_trust stays read asked = record {
  same_map = same_map ∙ scanned.same_map;
  same_trust = same_trust ∙ scanned.same_trust;
  stays_failed = λ f. stays (scanned.stays_failed f);
  below = λ trust k low. by_place trust k low (cases_lt k n);
}
  where
    by_place : IsTrue trusted → (k : ℕ) → k < n + 64 → (k < n) ⊎ (n ≤ k) → object before (bit k) ≡ bit_asked owners k
    by_place trust k low (inl first) = scanned.below trust k first
    by_place trust k low (inr from) =
        let here : n + (k - n) ≡ k = omega arith in
        let within : k - n < 64 = omega arith in
        subst (λ j. object before (bit j) ≡ bit_asked owners j) here
        (ap (λ m. object m (bit (n + (k - n)))) (sym scanned.same_map)
        ∙ read (subst IsTrue (sym scanned.same_trust) trust) (k - n) within
        ∙ asked (k - n) within)

-- so the loop goes on by a number
pub words_more : (before now after : Map) (trusted still later failed fails failing : Bool) (owners : List Bool) (n bits more : ℕ) → n + 64 ≡ more
    → AreBitsScanned before now trusted still failed fails owners n → after ≡ now → later ≡ still → (IsTrue fails → IsTrue failing)
    → (IsTrue still → AreBitsFrom now (addr_of (bit n)) bits) → AreAsked owners n 64 bits
    → AreBitsScanned before after trusted later failed failing owners more
words_more before now after trusted still later failed fails failing owners n bits more next scanned same_map same_trust stays read asked =
    subst (λ (k : ℕ). AreBitsScanned before after trusted later failed failing owners k) next
    (bits_more before now after trusted still later failed fails failing owners n bits scanned same_map same_trust stays read asked)

-- two tests that do not differ are the same
pub same_tests : (a b : Bool) → not (beq a b) ≡ false → a ≡ b
same_tests true true is = refl
same_tests true false is = absurd (false≢true (sym is))
same_tests false true is = absurd (false≢true (sym is))
same_tests false false is = refl

-- one bit more of a number is as the table asks, or is not
pub asked_more : (owners : List Bool) (first i bits : ℕ) (set taken : Bool) → AreAsked owners first i bits → (bit_at bits i == 1) ≡ set
    → taken ≡ unwrap_or (slice_get owners (first + i)) true → set ≡ taken → AreAsked owners first (i + 1) bits
asked_more owners first i bits set taken asked is told same j low = by_place (cases_eq j i)
  where
    value : bit_at bits i ≡ cond set 1 0
    value = one (bit_at bits i) (bit_at-lt bits i) ∙ ap (λ (b : Bool). cond b 1 0) is
      where
        one : (b : ℕ) → b < 2 → b ≡ cond (b == 1) 1 0
        one zero low = refl
        one (suc zero) low = refl
        one (suc (suc b)) low = absurd (omega arith)

    by_place : (j ≡ i) ⊎ (j ≡ i → ⊥) → bit_at bits j ∷ [] ≡ bit_asked owners (first + j)
    by_place (inl here) =
        ap (λ k. bit_at bits k ∷ []) here
        ∙ ap (λ x. x ∷ []) (value ∙ ap (λ (b : Bool). cond b 1 0) (same ∙ told))
        ∙ ap (λ k. bit_asked owners (first + k)) (sym here)
    by_place (inr other) = asked j (omega (arith, low, other))

module _ (version : FormatVersion) where
  -- what a place of the table is
  past : (ys : List Bool) (i : ℕ) → slice_get ys i ≡ None → length ys ≤ i
  past [] i none = omega arith
  past (y ∷ ys) zero none = let e : Some y ≡ None = none in absurd (cc)
  past (y ∷ ys) (suc i) none = let low : length ys ≤ i = past ys i none in omega arith

  table_cases : (xs : List Bool) (k : ℕ) → (length xs ≤ k) ⊎ ((slice_get xs k ≡ Some true) ⊎ (slice_get xs k ≡ Some false))
  table_cases xs k = by_get (slice_get xs k) refl
    where
      by_get : (o : Option Bool) → slice_get xs k ≡ o → (length xs ≤ k) ⊎ ((slice_get xs k ≡ Some true) ⊎ (slice_get xs k ≡ Some false))
      by_get None is = inl (past xs k is)
      by_get (Some true) is = inr (inl is)
      by_get (Some false) is = inr (inr is)

  -- a block is taken where the table says so, or past its end
  taken_by : (m : Map) (owners : List Bool) (k : ℕ) → AreOwners version m INODES owners → FIRST_DATA + length owners ≡ m.layout.blocks
      → (length owners ≤ k) ⊎ ((slice_get owners k ≡ Some true) ⊎ (slice_get owners k ≡ Some false))
      → ((bit_asked owners k ≡ 1 ∷ []) × IsTaken version m (FIRST_DATA + k)) ⊎ ((bit_asked owners k ≡ 0 ∷ []) × (IsTaken version m (FIRST_DATA + k) → ⊥))
  taken_by m owners k owned whole (inl past) =
      inl (ap (λ o. cond (unwrap_or o true) 1 0 ∷ []) (slice_get_past owners k past), inl (omega (arith, past, whole)))
  taken_by m owners k owned whole (inr (inl is)) =
      inl (ap (λ o. cond (unwrap_or o true) 1 0 ∷ []) is, inr ((owned k).0 is))
  taken_by m owners k owned whole (inr (inr is)) =
      inr (ap (λ o. cond (unwrap_or o true) 1 0 ∷ []) is, free)
    where
      free : IsTaken version m (FIRST_DATA + k) → ⊥
      free (inl past) = let low : k < length owners = slice_get_within owners k false is in omega (arith, past, whole, low)
      free (inr owner) = let e : Some false ≡ Some true = sym is ∙ (owned k).1 owner in let b : false ≡ true = cc in absurd (cc)

  -- The map is sound
  pub Sound-scanned : (m : Map) (owners : List Bool) → HasFiles m.layout → object m superblock ≡ superblock_of version m.layout.blocks → AreSoundBelow version m INODES → AreOwners version m INODES owners
      → FIRST_DATA + length owners ≡ m.layout.blocks → AreBitsBelow m owners BLOCK_BITS → HasSoundFiles version m
  Sound-scanned m owners has begins below owned whole bits = record {
    cut = has;
    begins = begins;
    written = λ i low. (below.each i low).written;
    placed = λ i low. (below.each i low).placed;
    files = λ i f low is. (below.each i low).file f is;
    apart = below.apart;
    distinct = below.distinct;
    bits = λ k low. by_taken k low (taken_by m owners k owned whole (table_cases owners k));
  }
    where
      by_taken : (k : ℕ) → k < BLOCK_BITS → ((bit_asked owners k ≡ 1 ∷ []) × IsTaken version m (FIRST_DATA + k)) ⊎ ((bit_asked owners k ≡ 0 ∷ []) × (IsTaken version m (FIRST_DATA + k) → ⊥))
          → IsBit (object m (bit k)) (IsTaken version m (FIRST_DATA + k))
      by_taken k low (inl set) = inl (bits k low ∙ set.0, set.1)
      by_taken k low (inr clear) = inr (bits k low ∙ clear.0, clear.1)

  -- A sound map's inodes are
  pub AreSoundBelow-Sound : (m : Map) → HasSoundFiles version m → AreSoundBelow version m INODES
  AreSoundBelow-Sound m sound = record {
    each = λ i low. record { written = sound.written i low; placed = sound.placed i low; file = λ f is. sound.files i f low is };
    apart = sound.apart;
    distinct = sound.distinct;
  }

  -- A sound map's bits are as the table asks
  pub AreBitsBelow-Sound : (m : Map) (owners : List Bool) → HasSoundFiles version m → AreOwners version m INODES owners → FIRST_DATA + length owners ≡ m.layout.blocks → AreBitsBelow m owners BLOCK_BITS
  AreBitsBelow-Sound m owners sound owned whole = λ k low. by_both k (sound.bits k low) (taken_by m owners k owned whole (table_cases owners k))
    where
      by_both : (k : ℕ) → IsBit (object m (bit k)) (IsTaken version m (FIRST_DATA + k))
          → ((bit_asked owners k ≡ 1 ∷ []) × IsTaken version m (FIRST_DATA + k)) ⊎ ((bit_asked owners k ≡ 0 ∷ []) × (IsTaken version m (FIRST_DATA + k) → ⊥))
          → object m (bit k) ≡ bit_asked owners k
      by_both k (inl is) (inl set) = is.0 ∙ sym set.0
      by_both k (inl is) (inr clear) = absurd (clear.1 is.1)
      by_both k (inr is) (inl set) = absurd (is.1 set.1)
      by_both k (inr is) (inr clear) = is.0 ∙ sym clear.0

  -- what is answered of a map whose superblock is its disk's and whose inodes are sound
  pub admitted_by_bits : (m : Map) (owners : List Bool) (admitted : Bool) → HasFiles m.layout → object m superblock ≡ superblock_of version m.layout.blocks → AreSoundBelow version m INODES → AreOwners version m INODES owners → FIRST_DATA + length owners ≡ m.layout.blocks
      → (IsTrue admitted ↔ AreBitsBelow m owners BLOCK_BITS) → IsTrue admitted ↔ HasSoundFiles version m
  admitted_by_bits m owners admitted has begins below owned whole bits = (
    (λ is. Sound-scanned m owners has begins below owned whole (bits.0 is)),
    (λ sound. bits.1 (AreBitsBelow-Sound m owners sound owned whole)),
  )

  -- a map without sound inodes is not sound
  pub none_admitted : {X : Type 0} (m0 m1 : Map) (t0 t1 : Bool) (found : Option X) (Q : X → Type 0) → m1 ≡ m0 → t1 ≡ t0
      → (IsTrue t1 → MatchOption found (AreSoundBelow version m1 INODES → ⊥) Q) → found ≡ None → IsTrue t0 → HasSoundFiles version m0 → ⊥
  none_admitted m0 m1 t0 t1 found Q same_map same_trust told is trust sound =
      let no : AreSoundBelow version m1 INODES → ⊥ = subst (λ o. MatchOption o (AreSoundBelow version m1 INODES → ⊥) Q) is (told (subst IsTrue (sym same_trust) trust)) in
      no (AreSoundBelow-Sound m1 (subst (HasSoundFiles version) (sym same_map) sound))

  -- what is answered of a map by its bits is the rule
  pub some_admitted : {X E : Type 0} (items : X → List Bool) (m0 m1 m2 : Map) (t0 t1 t2 : Bool) (has : Bool) (found : Option X) (x : X) (table : List Bool) (r : Result Bool E)
      → m1 ≡ m0 → m2 ≡ m1 → t1 ≡ t0 → t2 ≡ t1
      → HasFiles m0.layout → (IsTrue t0 → IsTrue has ↔ (object m0 superblock ≡ superblock_of version m0.layout.blocks)) → has ≡ true
      → (IsTrue t1 → MatchOption found (AreSoundBelow version m1 INODES → ⊥) (λ y. AreSoundBelow version m1 INODES × AreOwners version m1 INODES (items y))) → found ≡ Some x
      → IfSome found (λ y. FIRST_DATA + length (items y) ≡ m1.layout.blocks)
      → (IsTrue t2 → IfOk r (λ admitted. IsTrue admitted ↔ AreBitsBelow m2 table BLOCK_BITS)) → table ≡ items x
      → IsTrue t0 → IfOk r (λ admitted. IsTrue admitted ↔ HasSoundFiles version m0)
  some_admitted {X} {E} items m0 m1 m2 t0 t1 t2 has found x table r same_1 same_2 trust_1 trust_2 cut begins yes_begins told is whole bits table_is trust =
      by_answer r (bits (subst IsTrue (sym (trust_2 ∙ trust_1)) trust))
    where
      inodes : AreSoundBelow version m0 INODES × AreOwners version m0 INODES (items x)
      inodes =
          subst (λ m. AreSoundBelow version m INODES × AreOwners version m INODES (items x)) same_1
          (subst (λ o. MatchOption o (AreSoundBelow version m1 INODES → ⊥) (λ y. AreSoundBelow version m1 INODES × AreOwners version m1 INODES (items y))) is (told (subst IsTrue (sym trust_1) trust)))

      length_is : FIRST_DATA + length (items x) ≡ m0.layout.blocks
      length_is = subst (λ m. FIRST_DATA + length (items x) ≡ m.layout.blocks) same_1 (subst (λ o. IfSome o (λ y. FIRST_DATA + length (items y) ≡ m1.layout.blocks)) is whole)

      by_answer : (r : Result Bool E) → IfOk r (λ admitted. IsTrue admitted ↔ AreBitsBelow m2 table BLOCK_BITS) → IfOk r (λ admitted. IsTrue admitted ↔ HasSoundFiles version m0)
      by_answer (Ok admitted) asked =
          admitted_by_bits m0 (items x) admitted cut ((begins trust).0 yes_begins) inodes.0 inodes.1 length_is
          (subst (λ m. IsTrue admitted ↔ AreBitsBelow m (items x) BLOCK_BITS) (same_2 ∙ same_1) (subst (λ t. IsTrue admitted ↔ AreBitsBelow m2 t BLOCK_BITS) table_is asked))
      by_answer (Err e) asked = tt
