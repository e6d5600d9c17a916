-- The parts between the `+` of a text, as terms.
use Rattle.std.proofs.Common.{◌≡◌, ℕ, zero, suc, ◌+◌, ◌/◌, ◌%◌, ◌<◌, ◌≤◌, Bool, false, List, [], ◌∷◌, ◌++◌, length, refl, sym, ap, subst, ◌∙◌, arith, get_or, take, drop, append-nil, length-append, map}
use Rattle.std.specs.Prelude.{◌==◌}
use Rattle.std.specs.List.{flat_map, slice_split, join_with_byte, AllByRecursion}
use Rattle.std.specs.Fmt.{decimal}
use Rattle.std.specs.Str.Parse.{AllDigits}
use Rattle.std.proofs.lemmas.Bool.Decides.{nat_tests}
use Rattle.std.proofs.lemmas.Fmt.{digits_decimal}
use Rattle.std.proofs.lemmas.List.{map-append, length-map, take-map, take_more, take_all}
use Rattle.std.proofs.lemmas.List.Concat.{flat_map-append}
use Rattle.std.proofs.lemmas.List.Elements.{All-from_recursion}
use Rattle.std.proofs.lemmas.List.Splits.{slice_split_at, slice_split_none, length-slice_split, join_with_byte-slice_split}
use Rattle.std.proofs.lemmas.Str.Parse.{numerals_by_value, tells_digits, digit_from_value}
use Rattle.journal_command.specs.Values.{digit, hex, Term, listed, repeated, IsTerm, term_text, term_bytes, SpellsValue, AddsTerm, NoTermFits}
use Rattle.journal_command.proofs.Digits.{digit-ge}
use Rattle.journal_command.proofs.Terms.{same_from_term_text}

abbrev is_plus : ℕ → Bool
is_plus b = b == 43

-- what stands between the `+` of a text
abbrev pub parts : List ℕ → List (List ℕ)
parts text = slice_split is_plus text

-- The parts are terms that stand for the value
pub record AreTerms (ps : List (List ℕ)) (value : List ℕ) : Type 0 where
  pub terms : List Term
  pub are_terms : AllByRecursion IsTerm terms
  pub are_texts : ps ≡ map term_text terms
  pub is_value : value ≡ flat_map term_bytes terms

are_terms_push : (ts : List Term) (t : Term) → AllByRecursion IsTerm ts → IsTerm t → AllByRecursion IsTerm (ts ++ t ∷ [])
are_terms_push [] t h is = (is, tt)
are_terms_push (x ∷ ts) t h is = (h.0, are_terms_push ts t h.1 is)

are_terms_take : (n : ℕ) (ts : List Term) → AllByRecursion IsTerm ts → AllByRecursion IsTerm (take n ts)
are_terms_take zero ts h = tt
are_terms_take (suc n) [] h = tt
are_terms_take (suc n) (t ∷ ts) h = (h.0, are_terms_take n ts h.1)

pub AreTerms-push : (ps : List (List ℕ)) (p old new : List ℕ) → AreTerms ps old → AddsTerm p old new → AreTerms (ps ++ p ∷ []) new
AreTerms-push ps p old new h a =
    record {
      terms = h.terms ++ a.term ∷ [];
      are_terms = are_terms_push h.terms a.term h.are_terms a.is_term;
      are_texts = rw (map-append, ← h.are_texts, ← a.is_text);
      is_value = a.is_value ∙ rw (flat_map-append, append-nil, ← h.is_value);
    }

-- one more part was taken
pub AreTerms-more : (ps : List (List ℕ)) (n : ℕ) (p old new : List ℕ) → n < length ps → p ≡ get_or ps n p → AreTerms (take n ps) old → AddsTerm p old new → AreTerms (take (n + 1) ps) new
AreTerms-more ps n p old new l e h a =
    subst (λ qs. AreTerms qs new) (sym (take_more ps n p l ∙ ap (λ q. take n ps ++ q ∷ []) (sym e))) (AreTerms-push _ p old new h a)

-- parts are the terms of one value
same_value : (ts us : List Term) → AllByRecursion IsTerm ts → AllByRecursion IsTerm us → map term_text ts ≡ map term_text us → flat_map term_bytes ts ≡ flat_map term_bytes us
same_value [] [] p q e = refl
same_value [] (u ∷ us) p q e = cc
same_value (t ∷ ts) [] p q e = cc
same_value (t ∷ ts) (u ∷ us) p q e =
    let first = same_from_term_text t u p.0 q.0 (ap (λ l. get_or l 0 []) e) in
    let rest = same_value ts us p.1 q.1 (ap (drop 1) e) in
    cc

pub same_from_AreTerms : (ps : List (List ℕ)) (v w : List ℕ) → AreTerms ps v → AreTerms ps w → v ≡ w
same_from_AreTerms ps v w a b =
    a.is_value ∙ same_value a.terms b.terms a.are_terms b.are_terms (sym a.are_texts ∙ b.are_texts) ∙ sym b.is_value

-- where one part adds nothing to the terms before it, the whole is no value
none_further : (us : List Term) (n before : ℕ) (p old : List ℕ) → AllByRecursion IsTerm us → n < length us → p ≡ get_or (map term_text us) n p
    → length old ≡ before + length (flat_map term_bytes (take n us)) → NoTermFits p old → before + length (flat_map term_bytes us) ≤ 4096 → ⊥
none_further [] n before p old h l e len refuses fits = omega arith
none_further (u ∷ us) zero before p old h l e len refuses fits =
    refuses u h.0 e (omega (arith, len, fits, length-append (term_bytes u) (flat_map term_bytes us)))
none_further (u ∷ us) (suc n) before p old h l e len refuses fits =
    none_further us n (before + length (term_bytes u)) p old h.1 (omega arith) e
    (omega (arith, len, length-append (term_bytes u) (flat_map term_bytes (take n us))))
    refuses (omega (arith, fits, length-append (term_bytes u) (flat_map term_bytes us)))

pub none_from_part : (ps : List (List ℕ)) (n : ℕ) (p old : List ℕ) → AreTerms (take n ps) old → n < length ps → p ≡ get_or ps n p → NoTermFits p old → (value : List ℕ) → AreTerms ps value → length value ≤ 4096 → ⊥
none_from_part ps n p old before l e refuses value whole fits =
    let front : AreTerms (take n ps) (flat_map term_bytes (take n whole.terms)) =
    record { terms = take n whole.terms; are_terms = are_terms_take n whole.terms whole.are_terms; are_texts = ap (take n) whole.are_texts ∙ take-map term_text n whole.terms; is_value = refl } in
    none_further whole.terms n 0 p old whole.are_terms (omega (arith, l, ap length whole.are_texts, length-map whole.terms term_text))
    (e ∙ ap (λ q. get_or q n p) whole.are_texts)
    (omega (arith, ap length (same_from_AreTerms _ _ _ before front))) refuses (omega (arith, fits, ap length whole.is_value))

-- a term has no `+`
hex_unplussed : (n : ℕ) → is_plus (digit n) ≡ false
hex_unplussed n = let high = digit-ge n in grind (arith, nat_tests)

digits_unplussed : (bytes : List ℕ) → AllByRecursion (λ b. is_plus b ≡ false) (flat_map hex bytes)
digits_unplussed [] = tt
digits_unplussed (b ∷ bytes) =
    (hex_unplussed (b / 16), (hex_unplussed (b % 16), digits_unplussed bytes))

number_unplussed : (ds : List ℕ) → AllDigits 10 ds → AllByRecursion (λ b. is_plus b ≡ false) ds
number_unplussed [] h = tt
number_unplussed (d ∷ ds) h =
    let range = digit_from_value d h.0 in
    (grind (arith, nat_tests), number_unplussed ds h.1)

unplussed : (t : Term) → IsTerm t → AllByRecursion (λ b. is_plus b ≡ false) (term_text t)
unplussed (listed bytes) h = digits_unplussed bytes
unplussed (repeated b n) h = (hex_unplussed (b / 16), (hex_unplussed (b % 16), (refl, number_unplussed (decimal n) (digits_decimal (numerals_by_value _ tells_digits) n (omega (arith, h.2))))))

parts-join : (ts : List Term) → 0 < length ts → AllByRecursion IsTerm ts → parts (join_with_byte 43 (map term_text ts)) ≡ map term_text ts
parts-join [] l h = absurd (omega arith)
parts-join (t ∷ []) l h = slice_split_none is_plus (term_text t) (All-from_recursion (λ b. is_plus b ≡ false) _ (unplussed t h.0))
parts-join (t ∷ u ∷ ts) l h =
    slice_split_at is_plus (term_text t) 43 _ (All-from_recursion (λ b. is_plus b ≡ false) _ (unplussed t h.0)) refl
    ∙ ap (λ l. term_text t ∷ l) (parts-join (u ∷ ts) (omega arith) h.1)

pub AreTerms-from_spells : (text value : List ℕ) → SpellsValue text value → AreTerms (parts text) value
AreTerms-from_spells text value s =
    record { terms = s.terms; are_terms = s.are_terms; are_texts = ap parts s.is_text ∙ parts-join s.terms s.some s.are_terms; is_value = s.is_value }

-- all parts were taken, and their bytes fit
pub Spells-from_terms : (text value : List ℕ) (n size : ℕ) → n ≡ length (parts text) → AreTerms (take n (parts text)) value → size ≤ 4096 → size ≡ length value → SpellsValue text value
Spells-from_terms text value n size all taken fits len =
    let h = rw (take_all n (parts text) (omega arith)) at taken in
    record {
      terms = h.terms;
      some = omega (arith, length-slice_split is_plus text, ap length h.are_texts, length-map h.terms term_text);
      are_terms = h.are_terms;
      is_text = sym (join_with_byte-slice_split 43 text) ∙ ap (join_with_byte 43) h.are_texts;
      is_value = h.is_value;
      fits = omega arith;
    }

-- no text spells two values
pub same_from_Spells : (text v w : List ℕ) → SpellsValue text v → SpellsValue text w → v ≡ w
same_from_Spells text v w a b = same_from_AreTerms (parts text) v w (AreTerms-from_spells text v a) (AreTerms-from_spells text w b)
