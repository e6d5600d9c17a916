-- Values as they are printed.
use Rattle.std.proofs.Common.{◌≡◌, ◌≢◌, ℕ, suc, ◌+◌, ◌<◌, ◌≤◌, Bool, true, false, cond, List, [], ◌∷◌, ◌++◌, ◌⊎◌, inl, inr, length, refl, sym, ap, ◌∙◌, arith, drop, append_assoc, map, add-one, eqb-true, eq-eqb, append-nil, length-drop, Some}
use Rattle.std.specs.Prelude.{◌==◌, replicate, slice_get, take_while}
use Rattle.std.specs.List.{flat_map, join_with_byte, AllByRecursion}
use Rattle.std.proofs.lemmas.Bool.Decides.{nat_tests}
use Rattle.std.proofs.lemmas.List.Sums.{take_while-cons}
use Rattle.journal_command.specs.Values.{hex, starred, Term, listed, repeated, IsTerm, term_text, term_bytes, SpellsValue, ByteRun, run, with_front, runs, run_text, text_of}

-- how many bytes at the front are this one
abbrev pub run_length : ℕ → List ℕ → ℕ
run_length b bytes = length (take_while (λ other. other == b) bytes)

length-cond : (t : Bool) (xs : List ℕ) → length (cond t xs []) ≡ cond t (length xs) 0
length-cond true xs = refl
length-cond false xs = refl

run_length-cons : (b c : ℕ) (bytes : List ℕ) (same : Bool) → (c == b) ≡ same → run_length b (c ∷ bytes) ≡ cond same (suc (run_length b bytes)) 0
run_length-cons b c bytes same e =
    ap length (take_while-cons (λ other. other == b) c bytes) ∙ length-cond (c == b) _ ∙ ap (λ t. cond t (suc (run_length b bytes)) 0) e

with_front-cons : (b c n : ℕ) (rs : List ByteRun) (same : Bool) → (b == c) ≡ same → with_front b (run c n ∷ rs) ≡ cond same (run b (n + 1) ∷ rs) (run b 1 ∷ run c n ∷ rs)
with_front-cons b c n rs same e = ap (λ t. cond t (run b (n + 1) ∷ rs) (run b 1 ∷ run c n ∷ rs)) e

same_or_other : (b c : ℕ) → ((b == c ≡ true) × (c == b ≡ true) × (b ≡ c)) ⊎ ((b == c ≡ false) × (c == b ≡ false))
same_or_other b c = grind (arith, nat_tests)

-- the first run, and those of what is behind it
pub runs-front : (b : ℕ) (bytes : List ℕ) → runs (b ∷ bytes) ≡ run b (suc (run_length b bytes)) ∷ runs (drop (run_length b bytes) bytes)
runs-front b [] = refl
runs-front b (c ∷ bytes) =
    let n = run_length c bytes in
    let again = runs-front c bytes in
    let from = λ (k : ℕ). run b (suc k) ∷ runs (drop k (c ∷ bytes)) in
    elim (same_or_other b c) [
      | inl (e, f, same) ↦
          ap (with_front b) again ∙ with_front-cons b c (suc n) _ true e ∙ ap (λ k. run b k ∷ runs (drop n bytes)) (add-one (suc n))
          ∙ ap from (sym (run_length-cons b c bytes true f ∙ ap (λ x. suc (run_length x bytes)) same))
      | inr (e, f) ↦
          ap (with_front b) again ∙ with_front-cons b c (suc n) _ false e ∙ ap (λ rs. run b 1 ∷ rs) (sym again)
          ∙ ap from (sym (run_length-cons b c bytes false f))
    ]

-- what a split at the end of the first run tells
pub runs-split : (bytes more : List ℕ) (b n : ℕ) → Some b ≡ slice_get bytes 0 → n ≡ run_length b bytes → more ≡ drop n bytes → (runs bytes ≡ run b n ∷ runs more) × (length more < length bytes)
runs-split [] more b n e f g = cc
runs-split (c ∷ bytes) more b n e f g =
    let same : b ≡ c = cc in
    let m = run_length c bytes in
    let long : n ≡ suc m = f ∙ run_length-cons b c bytes true (eq-eqb c b (sym same)) ∙ ap (λ x. suc (run_length x bytes)) same in
    let rest : more ≡ drop m bytes = g ∙ ap (λ k. drop k (c ∷ bytes)) long in (
      runs-front c bytes ∙ ap (λ x. run x (suc m) ∷ runs (drop m bytes)) (sym same) ∙ ap (λ k. run b k ∷ runs (drop m bytes)) (sym long) ∙ ap (λ l. run b n ∷ runs l) (sym rest),
      omega (arith, ap length rest, length-drop m bytes),
    )

between : (a b c : List ℕ) → a ++ (b ++ 43 ∷ c) ≡ (a ++ (b ++ 43 ∷ [])) ++ c
between a b c = simp append_assoc

-- the text, one run after another, behind what was written of it
pub text_of-next : (value rest more done : List ℕ) (r : ByteRun) → text_of value ≡ done ++ text_of rest → runs rest ≡ r ∷ runs more → length more ≢ 0 → text_of value ≡ (done ++ (run_text r ++ 43 ∷ [])) ++ text_of more
text_of-next value rest [] done r is e some = absurd (some refl)
text_of-next value rest (c ∷ more) done r is e some =
    let next : text_of rest ≡ run_text r ++ 43 ∷ text_of (c ∷ more) =
    ap (λ rs. join_with_byte 43 (map run_text rs)) (e ∙ ap (λ rs. r ∷ rs) (runs-front c more))
    ∙ ap (λ rs. run_text r ++ 43 ∷ join_with_byte 43 (map run_text rs)) (sym (runs-front c more)) in
    is ∙ ap (λ l. done ++ l) next ∙ between done (run_text r) (text_of (c ∷ more))

pub text_of-last : (value rest more done : List ℕ) (r : ByteRun) → text_of value ≡ done ++ text_of rest → runs rest ≡ r ∷ runs more → length more ≡ 0 → text_of value ≡ (done ++ run_text r) ++ text_of more
text_of-last value rest [] done r is e none =
    is ∙ ap (λ rs. done ++ join_with_byte 43 (map run_text rs)) e ∙ sym (append-nil (done ++ run_text r))
text_of-last value rest (c ∷ more) done r is e none = absurd (omega arith)

-- A run of a value that has at most so many bytes
record IsRun (limit : ℕ) (r : ByteRun) : Type 0 where
  small : r.byte < 256
  some : 1 ≤ r.count
  fits : r.count ≤ limit

abbrev run_bytes : ByteRun → List ℕ
run_bytes r = replicate r.count r.byte

weaker : (limit : ℕ) (rs : List ByteRun) → AllByRecursion (IsRun limit) rs → AllByRecursion (IsRun (suc limit)) rs
weaker limit [] h = tt
weaker limit (r ∷ rs) h = (record { small = h.0.small; some = h.0.some; fits = omega (arith, h.0.fits) }, weaker limit rs h.1)

with_front-IsRun : (limit b : ℕ) (rs : List ByteRun) → b < 256 → AllByRecursion (IsRun limit) rs → AllByRecursion (IsRun (suc limit)) (with_front b rs)
with_front-IsRun limit b [] small h = (record { small = small; some = omega arith; fits = omega arith }, tt)
with_front-IsRun limit b (r ∷ rs) small h =
    elim (b == r.byte) as (λ t. AllByRecursion (IsRun (suc limit)) (cond t (run b (r.count + 1) ∷ rs) (run b 1 ∷ r ∷ rs))) [
      | true ↦ (record { small = small; some = omega arith; fits = omega (arith, h.0.fits) }, weaker limit rs h.1)
      | false ↦ (record { small = small; some = omega arith; fits = omega arith }, weaker limit (r ∷ rs) h)
    ]

runs-IsRun : (bytes : List ℕ) → AllByRecursion (λ b. b < 256) bytes → AllByRecursion (IsRun (length bytes)) (runs bytes)
runs-IsRun [] h = tt
runs-IsRun (b ∷ bytes) h = with_front-IsRun (length bytes) b (runs bytes) h.0 (runs-IsRun bytes h.1)

expanded : (b : ℕ) (r : ByteRun) (rs : List ByteRun) (same : Bool) → (same ≡ true → b ≡ r.byte)
    → flat_map run_bytes (cond same (run b (r.count + 1) ∷ rs) (run b 1 ∷ r ∷ rs)) ≡ b ∷ (run_bytes r ++ flat_map run_bytes rs)
expanded b r rs true e =
    ap (λ n. replicate n b ++ flat_map run_bytes rs) (add-one r.count) ∙ ap (λ x. b ∷ (replicate r.count x ++ flat_map run_bytes rs)) (e refl)
expanded b r rs false e = refl

flat_map-with_front : (b : ℕ) (rs : List ByteRun) → flat_map run_bytes (with_front b rs) ≡ b ∷ flat_map run_bytes rs
flat_map-with_front b [] = refl
flat_map-with_front b (r ∷ rs) = expanded b r rs (b == r.byte) (λ e. eqb-true b r.byte e)

flat_map-runs : (bytes : List ℕ) → flat_map run_bytes (runs bytes) ≡ bytes
flat_map-runs [] = refl
flat_map-runs (b ∷ bytes) = flat_map-with_front b (runs bytes) ∙ ap (λ l. b ∷ l) (flat_map-runs bytes)

-- a run is written as a term
record IsWritten (r : ByteRun) : Type 0 where
  term : Term
  is_term : IsTerm term
  is_text : term_text term ≡ run_text r
  is_value : term_bytes term ≡ run_bytes r

written : (limit : ℕ) (r : ByteRun) → IsRun limit r → limit ≤ 4096 → (one : Bool) → (r.count == 1) ≡ one → IsWritten r
written limit r h small true e =
    record {
      term = listed (r.byte ∷ []);
      is_term = (omega arith, (h.small, tt));
      is_text = ap (λ t. cond t (hex r.byte) (starred r.byte r.count)) (sym e);
      is_value = ap (λ n. replicate n r.byte) (sym (eqb-true r.count 1 e));
    }
written limit r h small false e =
    record {
      term = repeated r.byte r.count;
      is_term = (h.small, h.some, omega (arith, h.fits));
      is_text = ap (λ t. cond t (hex r.byte) (starred r.byte r.count)) (sym e);
      is_value = refl;
    }

record AreWritten (rs : List ByteRun) : Type 0 where
  terms : List Term
  are_terms : AllByRecursion IsTerm terms
  are_texts : map term_text terms ≡ map run_text rs
  is_value : flat_map term_bytes terms ≡ flat_map run_bytes rs
  as_many : length terms ≡ length rs

all_written : (limit : ℕ) (rs : List ByteRun) → AllByRecursion (IsRun limit) rs → limit ≤ 4096 → AreWritten rs
all_written limit [] h small = record { terms = []; are_terms = tt; are_texts = refl; is_value = refl; as_many = refl }
all_written limit (r ∷ rs) h small =
    let first = written limit r h.0 small (r.count == 1) refl in
    let rest = all_written limit rs h.1 small in
    record {
      terms = first.term ∷ rest.terms;
      are_terms = (first.is_term, rest.are_terms);
      are_texts = rw (first.is_text, rest.are_texts);
      is_value = rw (first.is_value, rest.is_value);
      as_many = ap suc rest.as_many;
    }

-- what is printed of a value is a text of it
pub Spells-text_of : (value : List ℕ) → AllByRecursion (λ b. b < 256) value → 0 < length value → length value ≤ 4096 → SpellsValue (text_of value) value
Spells-text_of [] bytes some fits = absurd (omega arith)
Spells-text_of (b ∷ value) bytes some fits =
    let all = all_written _ (runs (b ∷ value)) (runs-IsRun (b ∷ value) bytes) fits in
    record {
      terms = all.terms;
      some = omega (arith, all.as_many, ap length (runs-front b value));
      are_terms = all.are_terms;
      is_text = ap (join_with_byte 43) (sym all.are_texts);
      is_value = sym (all.is_value ∙ flat_map-runs (b ∷ value));
      fits = fits;
    }
