-- Terms: a text is at most one, and which bytes a term adds.
use Rattle.std.proofs.Common.{◌≡◌, ◌≢◌, ℕ, ◌+◌, ◌-◌, ◌/◌, ◌<◌, ◌≤◌, List, [], ◌∷◌, ◌++◌, length, sym, ap, ◌∙◌, arith, get_or, take, drop, append-nil, length-append}
use Rattle.std.specs.Prelude.{replicate}
use Rattle.std.specs.List.{flat_map, AllByRecursion}
use Rattle.std.specs.Fmt.{decimal}
use Rattle.std.proofs.lemmas.Fmt.{decimal_injective}
use Rattle.std.proofs.lemmas.List.{length-replicate, take_all}
use Rattle.journal_command.specs.Values.{hex, Term, listed, repeated, IsTerm, term_text, term_bytes, AddsTerm, NoTermFits}
use Rattle.journal_command.proofs.Digits.{digit-ge, hex_injective, hexes_behind, hexes_injective, length-hexes}

abbrev IsByte : ℕ → Type 0
IsByte b = b < 256

-- no byte's digits are followed by a star, but in a term that repeats it
listed_unstarred : (bytes : List ℕ) → get_or (flat_map hex bytes) 2 0 ≢ 42
listed_unstarred [] e = omega arith
listed_unstarred (b ∷ []) e = omega arith
listed_unstarred (b ∷ c ∷ bytes) e = omega (arith, digit-ge (c / 16))

-- a text is at most one term
pub same_from_term_text : (t u : Term) → IsTerm t → IsTerm u → term_text t ≡ term_text u → term_bytes t ≡ term_bytes u
same_from_term_text (listed bs) (listed cs) p q e = hexes_injective bs cs e
same_from_term_text (listed bs) (repeated c n) p q e = absurd (listed_unstarred bs (ap (λ l. get_or l 2 0) e))
same_from_term_text (repeated b m) (listed cs) p q e = absurd (listed_unstarred cs (ap (λ l. get_or l 2 0) (sym e)))
same_from_term_text (repeated b m) (repeated c n) p q e =
    let byte = hex_injective b c (ap (λ l. get_or l 0 0 ∷ get_or l 1 0 ∷ []) e) in
    let count = decimal_injective m n (omega (arith, p.2)) (omega (arith, q.2)) (ap (drop 3) e) in
    cc

pub no_run_fits : (high low : ℕ) (text old : List ℕ)
    → ((byte count : ℕ) → byte < 256 → 1 ≤ count → count ≤ 4096 → high ∷ low ∷ [] ≡ hex byte → text ≡ decimal count → length old + count ≤ 4096 → ⊥)
    → NoTermFits (high ∷ low ∷ 42 ∷ text) old
no_run_fits high low text old refuses (listed bytes) is_term is_text fits =
    listed_unstarred bytes (ap (λ l. get_or l 2 0) (sym is_text))
no_run_fits high low text old refuses (repeated byte count) (small, some, most) is_text fits =
    refuses byte count small some most (ap (λ l. get_or l 0 0 ∷ get_or l 1 0 ∷ []) is_text) (ap (drop 3) is_text)
    (omega (arith, length-replicate count byte))

-- what a resize to so many more leaves
pub filled_up : (items : List ℕ) (len size count byte : ℕ) → len ≡ size → size ≡ length items → take (len + count) items ++ replicate (len + count - size) byte ≡ items ++ replicate count byte
filled_up items len size count byte e f =
    let all : take (len + count) items ≡ items = take_all (len + count) items (omega arith) in
    let more : len + count - size ≡ count = omega arith in
    rw (all, more)

pub adds_run : (high low byte count : ℕ) (text old new : List ℕ) → high ∷ low ∷ [] ≡ hex byte → text ≡ decimal count → byte < 256 → 1 ≤ count → count ≤ 4096 → new ≡ old ++ replicate count byte → AddsTerm (high ∷ low ∷ 42 ∷ text) old new
adds_run high low byte count text old new digits number small some most is =
    record { term = repeated byte count; is_term = (small, some, most); is_text = ap (λ l. get_or l 0 0 ∷ get_or l 1 0 ∷ 42 ∷ text) digits ∙ ap (λ l. hex byte ++ 42 ∷ l) number; is_value = is }

-- Some bytes of the text were read, and rest is behind their digits
pub record HasRead (text rest old new : List ℕ) : Type 0 where
  pub bytes : List ℕ
  pub small : AllByRecursion IsByte bytes
  pub is_text : text ≡ flat_map hex bytes ++ rest
  pub is_value : new ≡ old ++ bytes

small_behind : (bs : List ℕ) (b : ℕ) (ds : List ℕ) → AllByRecursion IsByte (bs ++ b ∷ ds) → b < 256
small_behind [] b ds h = h.0
small_behind (x ∷ bs) b ds h = small_behind bs b ds h.1

pub no_bytes_fit : (text rest old new : List ℕ) → get_or text 2 0 ≢ 42 → HasRead text rest old new → (length rest ≡ 0 → length text ≡ 0)
    → ((byte : ℕ) → byte < 256 → get_or rest 0 0 ∷ get_or rest 1 0 ∷ [] ≡ hex byte → 2 ≤ length rest → length new + 1 ≤ 4096 → ⊥)
    → NoTermFits text old
no_bytes_fit text rest old new unstarred r ends refuses (listed cs) (some, small) is_text fits =
    let more = hexes_behind r.bytes cs rest (sym is_text ∙ r.is_text) in
    elim more.0 as (λ ds. cs ≡ r.bytes ++ ds → flat_map hex ds ≡ rest → ⊥) [
      | [] ↦ λ same here. omega (arith, some, length-hexes cs, ap length is_text, ends (sym (ap length here)))
      | d ∷ ds ↦ λ same here. refuses d (small_behind r.bytes d ds (rw same at small)) (ap (λ l. get_or l 0 0 ∷ get_or l 1 0 ∷ []) (sym here))
          (omega (arith, ap length here))
          (omega (arith, ap length r.is_value, length-append old r.bytes, ap length same, length-append r.bytes (d ∷ ds)))
    ] more.1 more.2
no_bytes_fit text rest old new unstarred r ends refuses (repeated byte count) is_term is_text fits =
    unstarred (ap (λ l. get_or l 2 0) is_text)

pub adds_bytes : (text rest old new : List ℕ) → HasRead text rest old new → length rest ≡ 0 → length text ≢ 0 → AddsTerm text old new
adds_bytes text [] old new r none some =
    let is_text = r.is_text ∙ append-nil _ in
    record { term = listed r.bytes; is_term = (omega (arith, some, ap length is_text, length-hexes r.bytes), r.small); is_text = is_text; is_value = r.is_value }
adds_bytes text (x ∷ rest) old new r none some = absurd (omega arith)
