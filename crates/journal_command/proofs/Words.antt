-- The words of a line.
use Rattle.std.proofs.Common.{◌≡◌, ℕ, ◌+◌, ◌-◌, ◌<◌, ◌≤◌, Bool, true, false, cond, List, [], ◌∷◌, length, Some, None, refl, sym, ap, ◌∙◌, arith, take, drop, length-drop}
use Rattle.std.specs.Prelude.{◌≢◌, ◌==◌, position, nat_lt}
use Rattle.std.specs.List.{position_or_len}
use Rattle.std.proofs.lemmas.Bool.Decides.{nat_tests}
use Rattle.std.proofs.lemmas.List.{take_all}
use Rattle.std.proofs.lemmas.List.Splits.{slice_split_first, slice_split_none, length-slice_split}
use Rattle.std.proofs.lemmas.List.Sums.{fails_before_first}
use Rattle.journal_command.specs.Commands.{line_words}

abbrev is_space : ℕ → Bool
is_space b = b == 32

abbrev first : List ℕ → ℕ
first xs = position_or_len is_space xs

found_at : (xs : List ℕ) (at : ℕ) (t : Bool) → nat_lt (first xs) (length xs) ≡ t → cond t (Some (first xs)) None ≡ Some at → (first xs < length xs) × (first xs ≡ at)
found_at xs at true e is = (grind (arith, nat_tests), cc)
found_at xs at false e is = cc

not_found : (xs : List ℕ) (t : Bool) → nat_lt (first xs) (length xs) ≡ t → cond t (Some (first xs)) None ≡ None → length xs ≤ first xs
not_found xs true e is = cc
not_found xs false e is = grind (arith, nat_tests)

-- the first word, and the words behind its space
pub words-first : (xs : List ℕ) (at : ℕ) → position is_space xs ≡ Some at → line_words xs ≡ take at xs ∷ line_words (take (length xs - (at + 1)) (drop (at + 1) xs))
words-first xs at is =
    let found = found_at xs at (nat_lt (first xs) (length xs)) refl is in
    let behind = take_all (length xs - (at + 1)) (drop (at + 1) xs) (omega (arith, length-drop (at + 1) xs)) in
    slice_split_first is_space xs 0 found.0 ∙ ap (λ n. take n xs ∷ line_words (drop (n + 1) xs)) found.1 ∙ ap (λ l. take at xs ∷ line_words l) (sym behind)

-- a word alone
pub words-last : (xs : List ℕ) → position is_space xs ≡ None → line_words xs ≡ xs ∷ []
words-last xs is =
    let late = not_found xs (nat_lt (first xs) (length xs)) refl is in
    slice_split_none is_space xs (λ k d h. fails_before_first is_space xs k d (omega arith))

-- a line has a word
pub words_some : (xs : List ℕ) → line_words xs ≢ []
words_some xs none = omega (arith, length-slice_split is_space xs, ap length none)
