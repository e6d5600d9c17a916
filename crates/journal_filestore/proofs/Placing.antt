-- Bytes placed in a block that ends with zeros.
use Rattle.std.proofs.Common.{ℕ, ◌≡◌, ◌≤◌, ◌+◌, ◌-◌, max, List, ◌++◌, length, take, drop, replicate, refl, sym, ap, ◌∙◌, arith, append_assoc, rules}
use Rattle.std.proofs.lemmas.List.{same_lists, places, length-append, length-take, length-drop, length-replicate}
use Rattle.journal_filestore.specs.Operations.{placed, with_data}

front : (c : List ℕ) (k s offset : ℕ) → length c ≡ s → offset ≤ k → s ≤ k → take offset (c ++ replicate (k - s) 0) ≡ take offset (c ++ replicate offset 0)
front c k s offset whole fits small = same_lists _ _ (search (rules, places)) (λ i d h. grind (arith, places))

back : (c : List ℕ) (k s e : ℕ) → length c ≡ s → e ≤ k → s ≤ k → drop e (c ++ replicate (k - s) 0) ≡ drop e c ++ replicate (k - max s e) 0
back c k s e whole fits small = same_lists _ _ (search (rules, places)) (λ i d h. grind (arith, places))

pub length-placed : (c : List ℕ) (offset : ℕ) (bs : List ℕ) → length (placed c offset bs) ≡ max (length c) (offset + length bs)
length-placed c offset bs = simp (length-append, length-take, length-drop, length-replicate) (omega arith)

-- the bytes of the file are placed as those of the block are, and zeros follow them
pub with_data-placed : (k : ℕ) (c : List ℕ) (offset : ℕ) (bs : List ℕ) → length c ≤ k → offset + length bs ≤ k
    → with_data (c ++ replicate (k - length c) 0) offset bs ≡ placed c offset bs ++ replicate (k - max (length c) (offset + length bs)) 0
with_data-placed k c offset bs small fits =
    ap (λ t. t ++ bs ++ drop (offset + length bs) (c ++ replicate (k - length c) 0)) (front c k (length c) offset refl (omega arith) small)
    ∙ ap (λ t. take offset (c ++ replicate offset 0) ++ bs ++ t) (back c k (length c) (offset + length bs) refl fits small)
    ∙ sym (append_assoc (take offset (c ++ replicate offset 0) ++ bs) _ _)
