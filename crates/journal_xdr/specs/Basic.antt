-- The items of RFC 4506, section 4, that the service uses.
use Rattle.std.specs.Prelude.{◌≡◌, ℕ, ◌-◌, ◌%◌, ◌^◌, ◌<◌, ◌==◌, nat_lt, nat_le, Bool, true, false, if◌then◌else◌, List, [], ◌∷◌, ◌++◌, length, take, drop, replicate, Option, Some, None, is_some}
use Rattle.std.specs.List.{list_all}
use Rattle.std.specs.Str.{bytes_eq}
use Rattle.std.specs.Int.{Width, w32, w64, byte_len, to_be_bytes, from_be_bytes}
use Rattle.journal_xdr.specs.Items.{Item, ◌>>=◌, pair, coded, such_that, tagged, only, variant}

-- this many bytes
abbrev pub raw : ℕ → Item (List ℕ)
raw n = record {
  Has = λ v. length v ≡ n;
  spelling = λ v. v;
  reading = λ bytes. if nat_lt (length bytes) n then None else Some (take n bytes, drop n bytes);
}

-- the number that bytes spell, the highest first
unfoldable pub spelled_number : Width → List ℕ → Option ℕ
spelled_number w bytes = if bytes_eq (to_be_bytes w (from_be_bytes w bytes)) bytes then Some (from_be_bytes w bytes) else None

-- a number of this width, below limit
abbrev pub number : Width → ℕ → Item ℕ
number w limit = record {
  Has = λ n. n < limit;
  spelling = λ n. to_be_bytes w n;
  reading = (coded (raw (byte_len w)) (spelled_number w) (to_be_bytes w)).reading;
}

-- unsigned integer (4.2), and unsigned hyper (4.5)
unfoldable pub word : Item ℕ
word = number w32 (2 ^ 32)

unfoldable pub hyper : Item ℕ
hyper = number w64 (2 ^ 64)

-- how many zeros fill n bytes up to a multiple of four
abbrev pub padding : ℕ → ℕ
padding n = (4 - n % 4) % 4

-- fixed-length opaque data (4.9): the bytes, and zeros
unfoldable pub fixed : ℕ → Item (List ℕ)
fixed n = record {
  Has = λ v. length v ≡ n;
  spelling = λ v. v ++ replicate (padding n) 0;
  reading = λ bytes. (pair (raw n) (raw (padding n))).reading bytes >>= λ x. if list_all (λ b. b == 0) x.0.1 then Some (x.0.0, x.1) else None;
}

-- variable-length opaque data (4.10) of at most limit bytes: their length, and then they
unfoldable pub opaque : ℕ → Item (List ℕ)
opaque limit = tagged (such_that (λ n. nat_le n limit) word) fixed length

-- a string (4.11) of at most limit bytes: spelled as opaque data
unfoldable pub string : ℕ → Item (List ℕ)
string limit = opaque limit

-- the value of a number, by a table of those that are listed
abbrev pub listed : {T : Type 0} → List (ℕ × T) → ℕ → Option T
listed [] n = None
listed (entry ∷ table) n = if n == entry.0 then Some entry.1 else listed table n

-- enumeration (4.3): numbers, of which meaning says what each stands for, if anything
abbrev pub enumeration : {T : Type 0} → (ℕ → Option T) → (T → ℕ) → Item T
enumeration meaning code = coded word meaning code

-- boolean (4.4): an enumeration
abbrev pub truth_of : ℕ → Option Bool
truth_of n = listed ((0, false) ∷ (1, true) ∷ []) n

abbrev pub number_of_truth : Bool → ℕ
number_of_truth true = 1
number_of_truth false = 0

unfoldable pub boolean : Item Bool
boolean = enumeration truth_of number_of_truth

-- optional data (4.19): a boolean, and the value where it is true
abbrev pub present : {T : Type 0} → Item T → Bool → Item (Option T)
present a true = variant a (λ v. Some v) (λ o. o)
present a false = only None

abbrev pub optional : {T : Type 0} → Item T → Item (Option T)
optional a = tagged boolean (present a) is_some

-- a number that is always this one
abbrev pub constant : ℕ → Item (Unit {0})
constant n = coded word (λ m. if m == n then Some tt else None) (λ u. n)
