-- The block of a description.
use Rattle.std.proofs.Common.{ℕ, zero, suc, ◌≡◌, ◌<◌, ◌≤◌, ◌-◌, ◌^◌, List, [], ◌∷◌, ◌++◌, length, take, drop, replicate, refl, sym, ap, subst, ◌∙◌, lit≤}
use Rattle.std.specs.Int.{w64, to_le_bytes}
use Rattle.std.specs.Prelude.{◌↔◌, Bool, IsTrue}
use Rattle.std.proofs.lemmas.List.{length-drop, take-append-drop, take_at, drop_at, drop-replicate}
use Rattle.std.proofs.lemmas.List.Elements.{All-head, All-tail, All-nil, All-cons}
use Rattle.std.proofs.lemmas.Nat.{from_le_bytes-to_le_bytes_8}
use Rattle.journal_treestore.specs.declared.description.Description.{Description}
use Rattle.journal_treestore.specs.Bytes.{with_piece, long_at}
use Rattle.journal_treestore.specs.Descriptions.{MAGIC, description_front, description_bytes, description_from, AllZero}

abbrev zeros : ℕ → List ℕ
zeros n = replicate n 0

zeros-AllZero : (xs : List ℕ) → AllZero xs → xs ≡ zeros (length xs)
zeros-AllZero [] all = refl
zeros-AllZero (x ∷ xs) all =
    ap (λ y. y ∷ xs) (All-head (λ (y : ℕ). y ≡ 0) x xs all) ∙ ap (λ ys. 0 ∷ ys) (zeros-AllZero xs (All-tail (λ (y : ℕ). y ≡ 0) x xs all))

AllZero-zeros : (n : ℕ) → AllZero (zeros n)
AllZero-zeros zero = All-nil (λ (y : ℕ). y ≡ 0)
AllZero-zeros (suc n) = All-cons (λ (y : ℕ). y ≡ 0) 0 (zeros n) refl (AllZero-zeros n)

padded-AllZero : (v : List ℕ) (k s : ℕ) → length v ≡ k → s ≤ k → AllZero (drop s v) → v ≡ take s v ++ zeros (k - s)
padded-AllZero v k s whole small all =
    sym (take-append-drop s v)
    ∙ ap (λ ys. take s v ++ ys) (zeros-AllZero (drop s v) all)
    ∙ ap (λ n. take s v ++ zeros n) (length-drop s v ∙ ap (λ n. n - s) whole)

AllZero-padded : (v : List ℕ) (n s : ℕ) → length (take s v) ≡ s → v ≡ take s v ++ zeros n → AllZero (drop s v)
AllZero-padded v n s whole padded =
    subst AllZero (sym (ap (drop s) padded ∙ drop_at (take s v) (zeros n) s whole)) (AllZero-zeros n)

pub length-front : (d : Description) → length (description_front d) ≡ 40
unfolding description_front
length-front d = refl

-- the pieces of the front over zeros
pub front_pieces : (n m k : ℕ) → with_piece (with_piece (with_piece (with_piece (with_piece (zeros 40) 0 MAGIC) 8 (to_le_bytes w64 3)) 16 (to_le_bytes w64 n)) 24 (to_le_bytes w64 m)) 32 (to_le_bytes w64 k)
    ≡ description_front (record { blocks = n; numbers = m; disk = k })
unfolding description_front
front_pieces n m k = refl

-- the block begins with it
pub block_begins : (bytes : List ℕ) (d : Description) → bytes ≡ description_bytes d → take 40 bytes ≡ description_front d
unfolding description_bytes
block_begins bytes d is = ap (take 40) is ∙ take_at (description_front d) _ 40 (length-front d)

-- with that front, it is the block of the description where the rest is zero
pub block_decides : (bytes tail : List ℕ) (d : Description) (b : Bool) → length bytes ≡ 4096 → take 40 bytes ≡ description_front d → tail ≡ drop 40 bytes → (IsTrue b ↔ AllZero tail) → IsTrue b ↔ (bytes ≡ description_bytes d)
unfolding description_bytes
block_decides bytes tail d b whole front is_tail decides = (
  (λ is. padded-AllZero bytes 4096 40 whole (lit≤ tt) (subst AllZero is_tail (decides.0 is)) ∙ ap (λ x. x ++ zeros (4096 - 40)) front),
  (λ is. decides.1 (subst AllZero (sym is_tail)
      (AllZero-padded bytes (4096 - 40) 40 (ap length front ∙ length-front d) (is ∙ ap (λ x. x ++ zeros (4096 - 40)) (sym front))))),
)

-- the front over a block of zeros
pub block_pieces : (d : Description) → with_piece (zeros 4096) 0 (description_front d) ≡ description_bytes d
unfolding description_bytes description_front
block_pieces d = ap (λ k. description_front d ++ drop k (zeros 4096)) (length-front d) ∙ ap (λ x. description_front d ++ x) (drop-replicate 40 4096 0)

-- what is written is read
front_read : (d : Description) (rest : List ℕ) → d.blocks < 2 ^ 64 → d.numbers < 2 ^ 64 → d.disk < 2 ^ 64 → description_from (description_front d ++ rest) ≡ d
unfolding description_front long_at
front_read d rest a b c = λ i. record { blocks = from_le_bytes-to_le_bytes_8 d.blocks a i; numbers = from_le_bytes-to_le_bytes_8 d.numbers b i; disk = from_le_bytes-to_le_bytes_8 d.disk c i }

pub description_read : (d : Description) → d.blocks < 2 ^ 64 → d.numbers < 2 ^ 64 → d.disk < 2 ^ 64 → description_from (description_bytes d) ≡ d
unfolding description_bytes
description_read d a b c = front_read d (zeros 4056) a b c
