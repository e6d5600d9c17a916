-- Bytes of another size.
use Rattle.std.proofs.Common.{ℕ, ◌≡◌, ◌<◌, ◌≤◌, ◌-◌, List, ◌++◌, length, take, replicate, Option, Some, None, refl, sym, ap, ◌∙◌, arith, rules}
use Rattle.std.specs.Prelude.{unwrap_or}
use Rattle.std.proofs.lemmas.List.{same_lists, places, length-append, length-take, length-replicate, append-nil, take-append-le}
use Rattle.journal_filestore.specs.Operations.{resized}

pub length-resized : (c : List ℕ) (size : Option ℕ) → length (resized c size) ≡ unwrap_or size (length c)
length-resized c None = refl
length-resized c (Some size) = simp (length-append, length-take, length-replicate) (omega arith)

grown : (c : List ℕ) (size : ℕ) → length c ≤ size → take size (c ++ replicate size 0) ≡ c ++ replicate (size - length c) 0
grown c size more = same_lists _ _ (search (rules, places)) (λ i d h. grind (arith, places))

-- where no bytes are cut off, zeros come behind them
pub resized-grown : (c : List ℕ) (s : ℕ) (size : Option ℕ) → length c ≡ s → s ≤ unwrap_or size s → c ++ replicate (unwrap_or size s - s) 0 ≡ resized c size
resized-grown c s None whole more = ap (λ n. c ++ replicate n 0) (let e : s - s ≡ 0 = omega arith in e) ∙ append-nil c
resized-grown c s (Some size) whole more =
    ap (λ n. c ++ replicate (size - n) 0) (sym whole) ∙ sym (grown c size (omega (arith, whole, more)))

-- where some are, they are gone
pub resized-cut : (c : List ℕ) (s : ℕ) (size : Option ℕ) → length c ≡ s → unwrap_or size s < s → take (unwrap_or size s) c ≡ resized c size
resized-cut c s None whole less = absurd (omega (arith, less))
resized-cut c s (Some size) whole less = sym (take-append-le size c _ (omega (arith, whole, less)))
