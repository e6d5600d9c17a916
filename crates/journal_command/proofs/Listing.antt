-- The numbers that a text lists, as the parts between its commas.
use Rattle.std.proofs.Common.{◌≡◌, ◌≢◌, ℕ, zero, suc, ◌+◌, ◌<◌, ◌≤◌, Bool, false, List, [], ◌∷◌, ◌++◌, length, refl, sym, ap, subst, ◌∙◌, arith, get_or, take, map}
use Rattle.std.specs.Prelude.{◌==◌}
use Rattle.std.specs.List.{slice_split, join_with_byte, AllByRecursion}
use Rattle.std.specs.Fmt.{decimal}
use Rattle.std.specs.Str.Parse.{AllDigits}
use Rattle.std.proofs.lemmas.Bool.Decides.{nat_tests}
use Rattle.std.proofs.lemmas.Fmt.{digits_decimal}
use Rattle.std.proofs.lemmas.List.{map-append, length-map, length-take, take_more, take_all}
use Rattle.std.proofs.lemmas.List.Elements.{All-from_recursion}
use Rattle.std.proofs.lemmas.List.Splits.{slice_split_at, slice_split_none, length-slice_split, join_with_byte-slice_split}
use Rattle.std.proofs.lemmas.Str.Parse.{numerals_by_value, tells_digits, digit_from_value}
use Rattle.journal_command.specs.Commands.{IsNumber, Lists}

abbrev is_comma : ℕ → Bool
is_comma b = b == 44

-- what stands between the commas of a text
abbrev pub parts : List ℕ → List (List ℕ)
parts text = slice_split is_comma text

-- The parts are the numbers
pub record AreNumbers (ps : List (List ℕ)) (numbers : List ℕ) : Type 0 where
  pub are_numbers : AllByRecursion IsNumber numbers
  pub are_texts : ps ≡ map decimal numbers

are_numbers_push : (ns : List ℕ) (n : ℕ) → AllByRecursion IsNumber ns → IsNumber n → AllByRecursion IsNumber (ns ++ n ∷ [])
are_numbers_push [] n h is = (is, tt)
are_numbers_push (x ∷ ns) n h is = (h.0, are_numbers_push ns n h.1 is)

AreNumbers-push : (ps : List (List ℕ)) (p : List ℕ) (ns : List ℕ) (n : ℕ) → AreNumbers ps ns → IsNumber n → p ≡ decimal n → AreNumbers (ps ++ p ∷ []) (ns ++ n ∷ [])
AreNumbers-push ps p ns n h small is =
    record { are_numbers = are_numbers_push ns n h.are_numbers small; are_texts = rw (map-append, ← h.are_texts, ← is) }

-- one more part was taken
pub AreNumbers-more : (ps : List (List ℕ)) (k : ℕ) (p : List ℕ) (old new : List ℕ) (n : ℕ) → k < length ps → p ≡ get_or ps k p → AreNumbers (take k ps) old → IsNumber n → p ≡ decimal n → new ≡ old ++ n ∷ [] → AreNumbers (take (k + 1) ps) new
AreNumbers-more ps k p old new n l e h small text is =
    let more = sym (take_more ps k p l ∙ ap (λ q. take k ps ++ q ∷ []) (sym e)) in
    rw is (subst (λ qs. AreNumbers qs (old ++ n ∷ [])) more (AreNumbers-push _ p old n h small text))

-- a number has no comma
number_uncommaed : (ds : List ℕ) → AllDigits 10 ds → AllByRecursion (λ b. is_comma b ≡ false) ds
number_uncommaed [] h = tt
number_uncommaed (d ∷ ds) h =
    let range = digit_from_value d h.0 in
    (grind (arith, nat_tests), number_uncommaed ds h.1)

uncommaed : (n : ℕ) → IsNumber n → AllByRecursion (λ b. is_comma b ≡ false) (decimal n)
uncommaed n small = number_uncommaed (decimal n) (digits_decimal (numerals_by_value _ tells_digits) n (omega arith))

parts-join : (ns : List ℕ) → 0 < length ns → AllByRecursion IsNumber ns → parts (join_with_byte 44 (map decimal ns)) ≡ map decimal ns
parts-join [] l h = absurd (omega arith)
parts-join (n ∷ []) l h = slice_split_none is_comma (decimal n) (All-from_recursion (λ b. is_comma b ≡ false) _ (uncommaed n h.0))
parts-join (n ∷ m ∷ ns) l h =
    slice_split_at is_comma (decimal n) 44 _ (All-from_recursion (λ b. is_comma b ≡ false) _ (uncommaed n h.0)) refl
    ∙ ap (λ l. decimal n ∷ l) (parts-join (m ∷ ns) (omega arith) h.1)

pub AreNumbers-from_lists : (text numbers : List ℕ) → Lists text numbers → AreNumbers (parts text) numbers
AreNumbers-from_lists text numbers s =
    record { are_numbers = s.are_numbers; are_texts = ap parts s.is_text ∙ parts-join numbers s.some s.are_numbers }

-- all parts were taken, and there is room for them
pub Lists-from_numbers : (text numbers : List ℕ) (n size : ℕ) → n ≡ length (parts text) → AreNumbers (take n (parts text)) numbers → size ≤ 10000 → size ≡ length numbers → Lists text numbers
Lists-from_numbers text numbers n size all taken fits len =
    let h = rw (take_all n (parts text) (omega arith)) at taken in
    record {
      some = omega (arith, length-slice_split is_comma text, ap length h.are_texts, length-map numbers decimal);
      fits = omega arith;
      are_numbers = h.are_numbers;
      is_text = sym (join_with_byte-slice_split 44 text) ∙ ap (join_with_byte 44) h.are_texts;
    }

number_at : (ns : List ℕ) (k : ℕ) (p : List ℕ) → AllByRecursion IsNumber ns → k < length ns → p ≡ get_or (map decimal ns) k p → ((n : ℕ) → IsNumber n → p ≢ decimal n) → ⊥
number_at [] k p h l e none = omega arith
number_at (n ∷ ns) zero p h l e none = none n h.0 e
number_at (n ∷ ns) (suc k) p h l e none = number_at ns k p h.1 (omega arith) e none

-- where one part is no number, the text lists none
pub lists_none-part : (text : List ℕ) (k : ℕ) (p : List ℕ) → k < length (parts text) → p ≡ get_or (parts text) k p → ((n : ℕ) → IsNumber n → p ≢ decimal n) → (numbers : List ℕ) → Lists text numbers → ⊥
lists_none-part text k p l e none numbers lists =
    let h = AreNumbers-from_lists text numbers lists in
    number_at numbers k p h.are_numbers (omega (arith, l, ap length h.are_texts, length-map numbers decimal)) (e ∙ ap (λ q. get_or q k p) h.are_texts) none

-- nor where it has too many parts
pub lists_none-full : (text old : List ℕ) (k size : ℕ) → k < length (parts text) → AreNumbers (take k (parts text)) old → size ≡ length old → size ≡ 10000 → (numbers : List ℕ) → Lists text numbers → ⊥
lists_none-full text old k size l taken len full numbers lists =
    let h = AreNumbers-from_lists text numbers lists in
    omega (arith, l, lists.fits, ap length h.are_texts, ap length taken.are_texts, length-map numbers decimal, length-map old decimal, length-take k (parts text))
