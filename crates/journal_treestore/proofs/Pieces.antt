-- The bytes from a place on, one by one, and pieces that stand behind others.
use Rattle.std.proofs.Common.{ℕ, ◌≡◌, ◌<◌, ◌≤◌, ◌+◌, ◌-◌, List, [], ◌∷◌, ◌++◌, length, take, drop, get_or, refl, sym, ap, ◌∙◌, arith}
use Rattle.std.specs.Prelude.{slice_range}
use Rattle.std.proofs.lemmas.List.{drop_more, take_at, drop_at}
use Rattle.std.proofs.Math.Seq.{drop-append-add}
use Rattle.journal_treestore.specs.Bytes.{with_piece}

next : (v : List ℕ) (i j : ℕ) → j ≡ i + 1 → i < length v → drop i v ≡ get_or v i 0 ∷ drop j v
next v i j is low = drop_more v i 0 low ∙ ap (λ k. get_or v i 0 ∷ drop k v) (sym is)

pub two_bytes : (v : List ℕ) (at : ℕ) → at + 2 ≤ length v → slice_range v at (at + 2) ≡ get_or v at 0 ∷ get_or v (at + 1) 0 ∷ []
two_bytes v at room =
    ap (λ k. take k (drop at v)) (let e : at + 2 - at ≡ 2 = omega arith in e)
    ∙ ap (take 2) (next v at (at + 1) refl (omega arith))
    ∙ ap (λ r. get_or v at 0 ∷ take 1 r) (next v (at + 1) (at + 2) (omega arith) (omega arith))

pub four_bytes : (v : List ℕ) (at : ℕ) → at + 4 ≤ length v
    → slice_range v at (at + 4) ≡ get_or v at 0 ∷ get_or v (at + 1) 0 ∷ get_or v (at + 2) 0 ∷ get_or v (at + 3) 0 ∷ []
four_bytes v at room =
    ap (λ k. take k (drop at v)) (let e : at + 4 - at ≡ 4 = omega arith in e)
    ∙ ap (take 4) (next v at (at + 1) refl (omega arith))
    ∙ ap (λ r. get_or v at 0 ∷ take 3 r) (next v (at + 1) (at + 2) (omega arith) (omega arith))
    ∙ ap (λ r. get_or v at 0 ∷ get_or v (at + 1) 0 ∷ take 2 r) (next v (at + 2) (at + 3) (omega arith) (omega arith))
    ∙ ap (λ r. get_or v at 0 ∷ get_or v (at + 1) 0 ∷ get_or v (at + 2) 0 ∷ take 1 r) (next v (at + 3) (at + 4) (omega arith) (omega arith))

pub eight_bytes : (v : List ℕ) (at : ℕ) → at + 8 ≤ length v
    → slice_range v at (at + 8) ≡ get_or v at 0 ∷ get_or v (at + 1) 0 ∷ get_or v (at + 2) 0 ∷ get_or v (at + 3) 0
    ∷ get_or v (at + 4) 0 ∷ get_or v (at + 5) 0 ∷ get_or v (at + 6) 0 ∷ get_or v (at + 7) 0 ∷ []
eight_bytes v at room =
    ap (λ k. take k (drop at v)) (let e : at + 8 - at ≡ 8 = omega arith in e)
    ∙ ap (take 8) (next v at (at + 1) refl (omega arith))
    ∙ ap (λ r. get_or v at 0 ∷ take 7 r) (next v (at + 1) (at + 2) (omega arith) (omega arith))
    ∙ ap (λ r. get_or v at 0 ∷ get_or v (at + 1) 0 ∷ take 6 r) (next v (at + 2) (at + 3) (omega arith) (omega arith))
    ∙ ap (λ r. get_or v at 0 ∷ get_or v (at + 1) 0 ∷ get_or v (at + 2) 0 ∷ take 5 r) (next v (at + 3) (at + 4) (omega arith) (omega arith))
    ∙ ap (λ r. get_or v at 0 ∷ get_or v (at + 1) 0 ∷ get_or v (at + 2) 0 ∷ get_or v (at + 3) 0 ∷ take 4 r) (next v (at + 4) (at + 5) (omega arith) (omega arith))
    ∙ ap (λ r. get_or v at 0 ∷ get_or v (at + 1) 0 ∷ get_or v (at + 2) 0 ∷ get_or v (at + 3) 0 ∷ get_or v (at + 4) 0 ∷ take 3 r) (next v (at + 5) (at + 6) (omega arith) (omega arith))
    ∙ ap (λ r. get_or v at 0 ∷ get_or v (at + 1) 0 ∷ get_or v (at + 2) 0 ∷ get_or v (at + 3) 0 ∷ get_or v (at + 4) 0 ∷ get_or v (at + 5) 0 ∷ take 2 r) (next v (at + 6) (at + 7) (omega arith) (omega arith))
    ∙ ap (λ r. get_or v at 0 ∷ get_or v (at + 1) 0 ∷ get_or v (at + 2) 0 ∷ get_or v (at + 3) 0 ∷ get_or v (at + 4) 0 ∷ get_or v (at + 5) 0 ∷ get_or v (at + 6) 0 ∷ take 1 r) (next v (at + 7) (at + 8) (omega arith) (omega arith))

-- a piece right behind a front
pub behind : (front rest piece : List ℕ) (at : ℕ) → length front ≡ at → with_piece (front ++ rest) at piece ≡ front ++ piece ++ drop (length piece) rest
behind front rest piece at is =
    ap (λ x. x ++ piece ++ drop (at + length piece) (front ++ rest)) (take_at front rest at is)
    ∙ ap (λ x. front ++ piece ++ x) (ap (λ k. drop (k + length piece) (front ++ rest)) (sym is) ∙ drop-append-add front rest (length piece))

-- what stands behind a front is read
pub slice_behind : (front piece rest : List ℕ) (at to : ℕ) → length front ≡ at → to ≡ at + length piece → slice_range (front ++ (piece ++ rest)) at to ≡ piece
slice_behind front piece rest at to is end =
    ap (λ k. take k (drop at (front ++ (piece ++ rest)))) (let e : to - at ≡ length piece = omega (arith, end) in e)
    ∙ ap (take (length piece)) (drop_at front (piece ++ rest) at is)
    ∙ take_at piece rest (length piece) refl
