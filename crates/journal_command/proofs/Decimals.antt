-- What `parse` tells of a text that is not padded.
use Rattle.std.proofs.Common.{◌≡◌, ◌≢◌, ℕ, zero, suc, ◌<◌, ◌≤◌, ◌^◌, false, List, length, get_or, Result, Ok, Err, sym, arith}
use Rattle.std.specs.Prelude.{IfSome, IfNone}
use Rattle.std.specs.Result.{OkIff, result_ok}
use Rattle.std.specs.Fmt.{decimal}
use Rattle.std.specs.Str.{IsUtf8}
use Rattle.std.specs.Str.Parse.{ParsesUnsigned, AllDigits, digits_value}
use Rattle.std.proofs.lemmas.Bool.Decides.{nat_tests}
use Rattle.std.proofs.lemmas.Fmt.{decimal-digits_value, parse-decimal, digits_decimal, first_decimal, decimal_nonempty, length-decimal-le, IsAscii-decimal}
use Rattle.std.proofs.lemmas.Str.{IsUtf8-from_ascii}
use Rattle.std.proofs.lemmas.Str.Parse.{IsNumeralModel, numerals_by_value, tells_digits, parse_plain, digit_at}
use Rattle.journal_command.specs.Numbers.{is_padded}

digits : IsNumeralModel (AllDigits 10) (digits_value 10)
digits = numerals_by_value _ tells_digits

unsigned : (bs : List ℕ) → is_padded bs ≡ false → get_or bs 0 0 ≢ 43
unsigned bs e = grind (arith, nat_tests)

unpadded : (bs : List ℕ) → is_padded bs ≡ false → get_or bs 0 0 ≡ 48 → length bs ≤ 1
unpadded bs e z = grind (arith, nat_tests)

from_ok : {E : Type 0} (k : ℕ) → 2 ^ k ≤ 2 ^ 64 → (bs : List ℕ) (r : Result ℕ E) → is_padded bs ≡ false → OkIff r (AllDigits 10 bs × (0 < length bs) × (digits_value 10 bs < 2 ^ k)) (digits_value 10 bs)
    → IfSome (result_ok r) (λ n. (n < 2 ^ k) × (bs ≡ decimal n))
from_ok k fits bs (Ok n) plain ((all, some, small), is) =
    rw is (small, sym (decimal-digits_value digits bs all some (λ e. omega (arith, unpadded bs plain e)) (omega arith)))
from_ok k fits bs (Err e) plain h = tt

-- what is read is the number's text, of a number of so many bits
pub decimal_from_parse : {E : Type 0} (k : ℕ) → 2 ^ k ≤ 2 ^ 64 → (bs : List ℕ) (r : Result ℕ E) → is_padded bs ≡ false → ParsesUnsigned k 10 bs r → IfSome (result_ok r) (λ n. (n < 2 ^ k) × (bs ≡ decimal n))
decimal_from_parse k fits bs r plain h = from_ok k fits bs r plain (parse_plain digits k bs r h (unsigned bs plain))

-- each number's text is read
pub decimal_is_parsed : {E : Type 0} (k : ℕ) → 2 ^ k ≤ 2 ^ 64 → (bs : List ℕ) (r : Result ℕ E) → ParsesUnsigned k 10 bs r → IfNone (result_ok r) ((n : ℕ) → n < 2 ^ k → bs ≢ decimal n)
decimal_is_parsed k fits bs (Ok x) h = tt
decimal_is_parsed k fits bs (Err e) h = λ n small is. let read = parse-decimal k n bs (Err e) small (omega arith) is h in cc

-- it is not padded
pub is_padded-decimal : (n : ℕ) → n < 2 ^ 64 → is_padded (decimal n) ≡ false
is_padded-decimal zero small =
    let first = digit_at (decimal 0) 0 (digits_decimal digits 0 small) (decimal_nonempty 0 small) in
    let short = length-decimal-le 1 0 (omega arith) (omega arith) small in
    grind (arith, nat_tests)
is_padded-decimal (suc n) small =
    let first = first_decimal (suc n) (omega arith) small in
    grind (arith, nat_tests)

-- and it is text
pub IsUtf8-decimal : (n : ℕ) → n < 2 ^ 64 → IsUtf8 (decimal n)
IsUtf8-decimal n small = IsUtf8-from_ascii _ (IsAscii-decimal n small)
