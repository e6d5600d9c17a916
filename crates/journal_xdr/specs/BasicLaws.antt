-- The laws of the items of RFC 4506.
use Rattle.std.proofs.Common.{◌≡◌, ℕ, zero, suc, ◌+◌, ◌^◌, ◌<◌, ◌≤◌, Bool, true, false, cond, ltb, List, [], ◌∷◌, ◌++◌, length, take, drop, Option, Some, None, refl, sym, ap, subst, ◌∙◌, arith}
use Rattle.std.specs.Prelude.{replicate, is_some, ◌==◌, nat_le, ◌&&◌}
use Rattle.std.specs.List.{list_all, AllByRecursion}
use Rattle.std.specs.Int.{Width, w32, w64, byte_len, from_be_bytes, to_be_bytes}
use Rattle.std.specs.Str.{bytes_eq}
use Rattle.std.proofs.lemmas.Slice.Eq.{bytes_eq-Decides}
use Rattle.std.proofs.lemmas.Bool.{ltb-false, le-ltb, eqb-true}
use Rattle.std.proofs.lemmas.List.{take_at, drop_at, take-append-drop, length-append, length-take}
use Rattle.std.proofs.lemmas.Nat.{from_be_bytes-to_be_bytes_4, from_be_bytes-to_be_bytes_8}
use Rattle.journal_xdr.specs.Items.{Item, pair, such_that, Spelled, IsGrammar}
use Rattle.journal_xdr.specs.Basic.{number, spelled_number, word, hyper, raw, padding, fixed, opaque, string, enumeration, listed, truth_of, number_of_truth, boolean, present, optional, constant}
use Rattle.journal_xdr.specs.Bytes.{IsBytes}
use Rattle.journal_xdr.specs.ItemLaws.{bind_some, some_is, guard_some, pair_laws, coded_laws, such_that_laws, tagged_laws, only_laws, variant_laws}

abbrev some : {A : Type 0} → A → Option A
some x = Some x

-- a test that fails for what can not be read
unless_some : {A : Type 0} (b : Bool) (x y : A) → cond b None (some x) ≡ Some y → (b ≡ false) × (x ≡ y)
unless_some true x y e = absurd cc
unless_some false x y e = (refl, cc)

-- ---- bytes

raw_laws : (n : ℕ) → IsGrammar (raw n)
raw_laws n = record {
  takes = λ bytes x e.
      let g = unless_some (ltb (length bytes) n) (take n bytes, drop n bytes) x e in
      let long : n ≤ length bytes = ltb-false _ _ g.0 in
      subst (λ (y : List ℕ × List ℕ). Spelled (raw n) bytes y.0 y.1) g.1
      (record { has = omega (arith, length-take n bytes); parts = sym (take-append-drop n bytes) });
  again = λ v rest h.
      let long : ltb (length (v ++ rest)) n ≡ false = le-ltb _ _ (omega (arith, length-append v rest)) in
      rw (long, take_at v rest n h, drop_at v rest n h) refl;
}

-- ---- numbers

record IsWide (w : Width) (limit : ℕ) : Type 0 where
  len : (n : ℕ) → length (to_be_bytes w n) ≡ byte_len w
  bytes : (n : ℕ) → IsBytes (to_be_bytes w n)
  again : (n : ℕ) → n < limit → from_be_bytes w (to_be_bytes w n) ≡ n
  below : (bytes : List ℕ) → IsBytes bytes → from_be_bytes w bytes < limit

are_bytes_4 : (n : ℕ) → IsBytes (to_be_bytes w32 n)
are_bytes_4 n zero = omega arith
are_bytes_4 n (suc zero) = omega arith
are_bytes_4 n (suc (suc zero)) = omega arith
are_bytes_4 n (suc (suc (suc zero))) = omega arith
are_bytes_4 n (suc (suc (suc (suc i)))) = omega arith

wide32 : IsWide w32 (2 ^ 32)
wide32 = record {
  len = λ n. refl;
  bytes = are_bytes_4;
  again = λ n lt. from_be_bytes-to_be_bytes_4 n lt;
  below = λ bytes fits. omega (arith, fits 0, fits 1, fits 2, fits 3);
}

are_bytes_8 : (n : ℕ) → IsBytes (to_be_bytes w64 n)
are_bytes_8 n zero = omega arith
are_bytes_8 n (suc zero) = omega arith
are_bytes_8 n (suc (suc zero)) = omega arith
are_bytes_8 n (suc (suc (suc zero))) = omega arith
are_bytes_8 n (suc (suc (suc (suc zero)))) = omega arith
are_bytes_8 n (suc (suc (suc (suc (suc zero))))) = omega arith
are_bytes_8 n (suc (suc (suc (suc (suc (suc zero)))))) = omega arith
are_bytes_8 n (suc (suc (suc (suc (suc (suc (suc zero))))))) = omega arith
are_bytes_8 n (suc (suc (suc (suc (suc (suc (suc (suc i)))))))) = omega arith

wide64 : IsWide w64 (2 ^ 64)
wide64 = record {
  len = λ n. refl;
  bytes = are_bytes_8;
  again = λ n lt. from_be_bytes-to_be_bytes_8 n lt;
  below = λ bytes fits. omega (arith, fits 0, fits 1, fits 2, fits 3, fits 4, fits 5, fits 6, fits 7);
}

is_spelled : (w : Width) (limit : ℕ) → IsWide w limit → (bytes : List ℕ) (n : ℕ) → spelled_number w bytes ≡ Some n → to_be_bytes w n ≡ bytes
unfolding spelled_number
is_spelled w limit wide bytes n e =
    let g = guard_some (bytes_eq (to_be_bytes w (from_be_bytes w bytes)) bytes) (from_be_bytes w bytes) n e in
    ap (to_be_bytes w) (sym g.1) ∙ (bytes_eq-Decides _ _).0 g.0

number_again : (w : Width) (bytes : List ℕ) (n : ℕ) → n ≡ from_be_bytes w bytes → to_be_bytes w n ≡ bytes → spelled_number w bytes ≡ Some n
unfolding spelled_number
number_again w bytes n is spelled =
    let test : bytes_eq (to_be_bytes w (from_be_bytes w bytes)) bytes ≡ true = (bytes_eq-Decides _ _).1 (ap (to_be_bytes w) (sym is) ∙ spelled) in
    ap (λ b. cond b (some (from_be_bytes w bytes)) None) test ∙ ap (λ m. some m) (sym is)

number_laws : (w : Width) (limit : ℕ) → IsWide w limit → IsGrammar (number w limit)
unfolding spelled_number
number_laws w limit wide =
    let laws = coded_laws (raw (byte_len w)) (spelled_number w) (to_be_bytes w) (raw_laws (byte_len w)) (λ bytes n h e. is_spelled w limit wide bytes n e) in
    record {
      takes = λ bytes x e.
          let s = laws.takes bytes x e in
          let back = guard_some (bytes_eq (to_be_bytes w (from_be_bytes w (to_be_bytes w x.0))) (to_be_bytes w x.0)) (from_be_bytes w (to_be_bytes w x.0)) x.0 s.has.1 in
          record { has = subst (λ n. n < limit) back.1 (wide.below (to_be_bytes w x.0) (wide.bytes x.0)); parts = s.parts };
      again = λ v rest h. laws.again v rest (wide.len v, number_again w (to_be_bytes w v) v (sym (wide.again v h)) refl);
    }

pub word_laws : IsGrammar word
unfolding word
word_laws = number_laws w32 (2 ^ 32) wide32

pub hyper_laws : IsGrammar hyper
unfolding hyper
hyper_laws = number_laws w64 (2 ^ 64) wide64

-- ---- opaque data

and_parts : (a b : Bool) → (a && b) ≡ true → (a ≡ true) × (b ≡ true)
and_parts true b e = (refl, e)
and_parts false b e = absurd cc

-- a list of zeros
zeros : (bs : List ℕ) → list_all (λ b. b == 0) bs ≡ true → bs ≡ replicate (length bs) 0
zeros [] e = refl
zeros (b ∷ bs) e = let h = and_parts (b == 0) (list_all (λ b. b == 0) bs) e in let is : b ≡ 0 = eqb-true b 0 h.0 in rw is (ap (λ (r : List ℕ). 0 ∷ r) (zeros bs h.1))

all_zeros : (n : ℕ) → list_all (λ b. b == 0) (replicate n 0) ≡ true
all_zeros zero = refl
all_zeros (suc n) = all_zeros n

pub length-zeros : (n : ℕ) → length {A = ℕ} (replicate n 0) ≡ n
length-zeros zero = refl
length-zeros (suc n) = ap (λ k. suc k) (length-zeros n)

pub fixed_laws : (n : ℕ) → IsGrammar (fixed n)
unfolding fixed
fixed_laws n =
    let both = pair (raw n) (raw (padding n)) in
    let laws = pair_laws (raw n) (raw (padding n)) (raw_laws n) (raw_laws (padding n)) in
    record {
      takes = λ bytes x e.
          let p = bind_some (both.reading bytes) (λ p. cond (list_all (λ b. b == 0) p.0.1) (Some (p.0.0, p.1)) None) x e in
          let g = guard_some (list_all (λ b. b == 0) p.0.0.1) (p.0.0.0, p.0.1) x p.2 in
          let s = laws.takes bytes p.0 p.1 in
          let pad : p.0.0.1 ≡ replicate (padding n) 0 = zeros p.0.0.1 g.0 ∙ ap (λ k. replicate k 0) s.has.1 in
          subst (λ (y : List ℕ × List ℕ). Spelled (fixed n) bytes y.0 y.1) g.1
          (record { has = s.has.0; parts = s.parts ∙ ap (λ (z : List ℕ). (p.0.0.0 ++ z) ++ p.0.1) pad });
      again = λ v rest h.
          rw (laws.again (v, replicate (padding n) 0) rest (h, length-zeros (padding n))) (ap (λ b. cond b (some (v, rest)) None) (all_zeros (padding n)));
    }

fixed-length : (n : ℕ) (v : List ℕ) → (fixed n).Has v → length v ≡ n
unfolding fixed
fixed-length n v h = h

pub opaque_laws : (limit : ℕ) → IsGrammar (opaque limit)
unfolding opaque
opaque_laws limit = tagged_laws (such_that (λ n. nat_le n limit) word) fixed length (such_that_laws _ word word_laws) fixed_laws fixed-length

pub string_laws : (limit : ℕ) → IsGrammar (string limit)
unfolding string
string_laws limit = opaque_laws limit

-- ---- enumerations, booleans and optional data

pub enumeration_laws : {T : Type 0} (meaning : ℕ → Option T) (code : T → ℕ) → ((n : ℕ) (v : T) → meaning n ≡ Some v → code v ≡ n) → IsGrammar (enumeration meaning code)
enumeration_laws meaning code back = coded_laws word meaning code word_laws (λ n v h e. back n v e)

-- a number of the table is the one of what it stands for, where each entry's is
pub listed_back : {T : Type 0} (code : T → ℕ) (table : List (ℕ × T)) → AllByRecursion (λ entry. code entry.1 ≡ entry.0) table → (n : ℕ) (v : T) → listed table n ≡ Some v → code v ≡ n
listed_back code [] all n v e = absurd cc
listed_back code (entry ∷ table) all n v e = at (n == entry.0) refl e (listed_back code table all.1 n v)
  where
    at : (same : Bool) → (n == entry.0) ≡ same → cond same (some entry.1) (listed table n) ≡ Some v → (listed table n ≡ Some v → code v ≡ n) → code v ≡ n
    at true is e rest = ap code (sym (some_is entry.1 v e)) ∙ all.0 ∙ sym (eqb-true n entry.0 is)
    at false is e rest = rest e

pub truth_back : (n : ℕ) (b : Bool) → truth_of n ≡ Some b → number_of_truth b ≡ n
truth_back = listed_back number_of_truth ((0, false) ∷ (1, true) ∷ []) (refl, (refl, tt))

pub boolean_laws : IsGrammar boolean
unfolding boolean
boolean_laws = enumeration_laws truth_of number_of_truth truth_back

present_laws : {T : Type 0} (a : Item T) → IsGrammar a → (b : Bool) → IsGrammar (present a b)
present_laws a la true = variant_laws a (λ v. Some v) (λ o. o) la (λ x. refl) (λ v x e. sym e)
present_laws a la false = only_laws None

present_is : {T : Type 0} (a : Item T) (b : Bool) (o : Option T) → (present a b).Has o → is_some o ≡ b
present_is a true None h = absurd h
present_is a true (Some v) h = refl
present_is a false None h = refl
present_is a false (Some v) h = absurd cc

pub optional_laws : {T : Type 0} (a : Item T) → IsGrammar a → IsGrammar (optional a)
optional_laws a la = tagged_laws boolean (present a) is_some boolean_laws (present_laws a la) (present_is a)

constant_is : (n m : ℕ) (u : Unit {0}) → cond (m == n) (some tt) None ≡ Some u → n ≡ m
constant_is n m u e = sym (eqb-true m n (guard_some (m == n) tt u e).0)

pub constant_laws : (n : ℕ) → IsGrammar (constant n)
constant_laws n = coded_laws word (λ m. cond (m == n) (some tt) None) (λ u. n) word_laws (λ m u h e. constant_is n m u e)

-- ---- what a reader of a number's bytes finds

pub word_is : (bytes : List ℕ) (n : ℕ) → n ≡ from_be_bytes w32 bytes → to_be_bytes w32 n ≡ bytes → spelled_number w32 bytes ≡ Some n
word_is = number_again w32

pub hyper_is : (bytes : List ℕ) (n : ℕ) → n ≡ from_be_bytes w64 bytes → to_be_bytes w64 n ≡ bytes → spelled_number w64 bytes ≡ Some n
hyper_is = number_again w64

-- ---- how long spellings are

pub length-word : (n : ℕ) → length (word.spelling n) ≡ 4
unfolding word
length-word n = refl

pub length-hyper : (n : ℕ) → length (hyper.spelling n) ≡ 8
unfolding hyper
length-hyper n = refl

pub length-boolean : (b : Bool) → length (boolean.spelling b) ≡ 4
unfolding boolean
length-boolean b = length-word (number_of_truth b)

pub fixed_short : (n : ℕ) (v : List ℕ) → length ((fixed n).spelling v) ≤ length v + 3
unfolding fixed
fixed_short n v = omega (arith, length-append v (replicate (padding n) 0), length-zeros (padding n))

pub opaque_short : (limit : ℕ) (v : List ℕ) → length ((opaque limit).spelling v) ≤ length v + 7
unfolding opaque
opaque_short limit v = omega (arith, length-append (word.spelling (length v)) ((fixed (length v)).spelling v), length-word (length v), fixed_short (length v) v)
