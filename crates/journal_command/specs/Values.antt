-- The text of a value: which values a text spells, and as which text a value is printed.
use Rattle.std.specs.Prelude.{ℕ, ◌≡◌, ◌+◌, ◌/◌, ◌%◌, ◌<◌, ◌≤◌, ◌==◌, nat_lt, if◌then◌else◌, List, [], ◌∷◌, ◌++◌, length, map, replicate}
use Rattle.std.specs.List.{flat_map, join_with_byte, AllByRecursion}
use Rattle.std.specs.Fmt.{decimal}

-- the hexadecimal digit of a number below 16, in lower case
abbrev pub digit : ℕ → ℕ
digit n = if nat_lt n 10 then 48 + n else 87 + n

-- the two digits of a byte
abbrev pub hex : ℕ → List ℕ
hex byte = digit (byte / 16) ∷ digit (byte % 16) ∷ []

-- a byte, `*` and a count
abbrev pub starred : ℕ → ℕ → List ℕ
starred byte count = hex byte ++ 42 ∷ decimal count

-- A term of a text: some bytes, or one byte and how often it comes
pub data Term : Type 0 where
  listed : List ℕ → Term
  repeated : ℕ → ℕ → Term

abbrev pub IsTerm : Term → Type 0
IsTerm (listed bytes) = (0 < length bytes) × AllByRecursion (λ byte. byte < 256) bytes
IsTerm (repeated byte count) = (byte < 256) × (1 ≤ count) × (count ≤ 4096)

-- how a term is written
abbrev pub term_text : Term → List ℕ
term_text (listed bytes) = flat_map hex bytes
term_text (repeated byte count) = starred byte count

-- the bytes that it stands for
abbrev pub term_bytes : Term → List ℕ
term_bytes (listed bytes) = bytes
term_bytes (repeated byte count) = replicate count byte

-- The text spells the value: it is terms joined by `+`, which stand for the value's bytes, at most
-- 4096
pub record SpellsValue (text value : List ℕ) : Type 0 where
  pub terms : List Term
  pub some : 0 < length terms
  pub are_terms : AllByRecursion IsTerm terms
  pub is_text : text ≡ join_with_byte 43 (map term_text terms)
  pub is_value : value ≡ flat_map term_bytes terms
  pub fits : length value ≤ 4096

-- Equal bytes, one after another
pub record ByteRun : Type 0 where
  pub byte : ℕ
  pub count : ℕ

abbrev pub run : ℕ → ℕ → ByteRun
run byte count = record { byte = byte; count = count }

-- runs with one more byte in front
abbrev pub with_front : ℕ → List ByteRun → List ByteRun
with_front byte [] = run byte 1 ∷ []
with_front byte (r ∷ rs) = if byte == r.byte then run byte (r.count + 1) ∷ rs else run byte 1 ∷ r ∷ rs

-- the maximal runs of a value's bytes
abbrev pub runs : List ℕ → List ByteRun
runs [] = []
runs (byte ∷ bytes) = with_front byte (runs bytes)

abbrev pub run_text : ByteRun → List ℕ
run_text r = if r.count == 1 then hex r.byte else starred r.byte r.count

-- how a value is printed
abbrev pub text_of : List ℕ → List ℕ
text_of value = join_with_byte 43 (map run_text (runs value))

-- The text is a term, and new is old with its bytes at the end
pub record AddsTerm (text old new : List ℕ) : Type 0 where
  pub term : Term
  pub is_term : IsTerm term
  pub is_text : text ≡ term_text term
  pub is_value : new ≡ old ++ term_bytes term

-- the text is no term whose bytes fit after old
abbrev pub NoTermFits : List ℕ → List ℕ → Type 0
NoTermFits text old = (t : Term) → IsTerm t → text ≡ term_text t → length old + length (term_bytes t) ≤ 4096 → ⊥
