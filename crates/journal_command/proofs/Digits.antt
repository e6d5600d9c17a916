-- Hexadecimal digits.
use Rattle.std.proofs.Common.{◌≡◌, ℕ, ◌*◌, ◌/◌, ◌%◌, ◌≤◌, List, [], ◌∷◌, ◌++◌, length, refl, sym, ap, ◌∙◌, arith, get_or, drop, append-nil}
use Rattle.std.specs.List.{flat_map}
use Rattle.std.proofs.lemmas.Bool.Decides.{nat_tests}
use Rattle.journal_command.specs.Values.{digit, hex}

pub digit-ge : (n : ℕ) → 48 ≤ digit n
digit-ge n = grind (arith, nat_tests)

digit_injective : (m n : ℕ) → digit m ≡ digit n → m ≡ n
digit_injective m n e = grind (arith, nat_tests)

pub hex_injective : (a b : ℕ) → hex a ≡ hex b → a ≡ b
hex_injective a b e =
    let high : a / 16 ≡ b / 16 = digit_injective _ _ (ap (λ l. get_or l 0 0) e) in
    let low : a % 16 ≡ b % 16 = digit_injective _ _ (ap (λ l. get_or l 1 0) e) in
    omega arith

pub hex_first : (a b : ℕ) (xs ys : List ℕ) → hex a ++ xs ≡ hex b ++ ys → (a ≡ b) × (xs ≡ ys)
hex_first a b xs ys e =
    (hex_injective a b (ap (λ l. get_or l 0 0 ∷ get_or l 1 0 ∷ []) e), ap (drop 2) e)

-- what the bytes after bs spell is what stands behind the digits of bs
pub hexes_behind : (bs cs rest : List ℕ) → flat_map hex cs ≡ flat_map hex bs ++ rest → (ds : List ℕ) × (cs ≡ bs ++ ds) × (flat_map hex ds ≡ rest)
hexes_behind [] cs rest e = (cs, refl, e)
hexes_behind (b ∷ bs) [] rest e = cc
hexes_behind (b ∷ bs) (c ∷ cs) rest e =
    let first = hex_first c b (flat_map hex cs) (flat_map hex bs ++ rest) e in
    let more = hexes_behind bs cs rest first.1 in
    (more.0, cc, more.2)

pub length-hexes : (bs : List ℕ) → length (flat_map hex bs) ≡ 2 * length bs
length-hexes [] = refl
length-hexes (b ∷ bs) = omega (arith, length-hexes bs)

no_bytes : (bs : List ℕ) → length bs ≡ 0 → bs ≡ []
no_bytes [] e = refl
no_bytes (b ∷ bs) e = absurd (omega arith)

pub hexes_injective : (bs cs : List ℕ) → flat_map hex bs ≡ flat_map hex cs → bs ≡ cs
hexes_injective bs cs e =
    let more = hexes_behind bs cs [] (sym e ∙ sym (append-nil _)) in
    let none = no_bytes more.0 (omega (arith, length-hexes more.0, ap length more.2)) in
    sym (more.1 ∙ ap (λ l. bs ++ l) none ∙ append-nil bs)
