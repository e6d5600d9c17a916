-- The pieces of an inode over zeros are its bytes.
use Rattle.std.proofs.Common.{ℕ, ◌≡◌, ◌≤◌, ◌+◌, ◌-◌, List, [], ◌∷◌, ◌++◌, length, take, drop, replicate, Option, Some, None, refl, sym, ap, ◌∙◌, append_assoc, append-nil, length-append, arith, w16, w32, w64}
use Rattle.std.specs.Prelude.{flat_map}
use Rattle.std.specs.Int.{to_le_bytes}
use Rattle.std.proofs.lemmas.List.{take_at, drop-replicate, replicate-append-replicate, length-replicate}
use Rattle.std.proofs.Math.Seq.{drop-append-add}
use Rattle.journal_treestore.specs.Bytes.{with_piece}
use Rattle.journal_treestore.specs.Inodes.{front_bytes, verifier_bytes, verifier_flag, rest_bytes}
use Rattle.journal_treestore.proofs.Pieces.{behind}
use Rattle.journal_treestore.proofs.Splicing.{length-bytes_of}

-- the pieces of the front over 48 zeros
pub front_pieces : (k l m g s o gr d p ts tn us un : ℕ)
    → with_piece (with_piece (with_piece (with_piece (with_piece (with_piece (with_piece (with_piece (with_piece (with_piece (with_piece (with_piece
    (replicate 48 0) 0 (k ∷ l ∷ [])) 2 (to_le_bytes w16 m)) 4 (to_le_bytes w32 g)) 8 (to_le_bytes w64 s)) 16 (to_le_bytes w32 o)) 20 (to_le_bytes w32 gr)) 24 (to_le_bytes w32 d)) 28 (to_le_bytes w32 p))
    32 (to_le_bytes w32 ts)) 36 (to_le_bytes w32 tn)) 40 (to_le_bytes w32 us)) 44 (to_le_bytes w32 un)
    ≡ front_bytes k l m g s o gr d p (record { secs = ts; nanos = tn }) (record { secs = us; nanos = un })
unfolding front_bytes
front_pieces k l m g s o gr d p ts tn us un = refl

-- from left to right
regrouped : (f b z v n r t : List ℕ) → f ++ b ++ z ++ v ++ n ++ r ++ t ≡ f ++ (b ++ z ++ v ++ n ++ r ++ t)
regrouped f b z v n r t =
    ap (λ x. x ++ v ++ n ++ r ++ t) (append_assoc f b z)
    ∙ ap (λ x. x ++ n ++ r ++ t) (append_assoc f (b ++ z) v)
    ∙ ap (λ x. x ++ r ++ t) (append_assoc f (b ++ z ++ v) n)
    ∙ ap (λ x. x ++ t) (append_assoc f (b ++ z ++ v ++ n) r)
    ∙ append_assoc f (b ++ z ++ v ++ n ++ r) t

pub length-verifier : (verifier : Option ℕ) → length (verifier_bytes verifier) ≡ 8
length-verifier None = refl
length-verifier (Some v) = refl

-- the front, the blocks, the index block, the verifier, the name and the last byte over 512 zeros
pub whole_pieces : (front blocks : List ℕ) (index : ℕ) (verifier : Option ℕ) (name : List ℕ) → length front ≡ 48 → length blocks ≡ 48 → length name ≤ 255
    → with_piece (with_piece (with_piece (with_piece (take 48 (with_piece (replicate 512 0) 0 front) ++ flat_map (to_le_bytes w32) blocks ++ drop 240 (with_piece (replicate 512 0) 0 front)) 240 (to_le_bytes w32 index)) 248 (verifier_bytes verifier)) 256 name)
    511 (verifier_flag verifier ∷ [])
    ≡ front ++ rest_bytes blocks index verifier name
whole_pieces front blocks index verifier name at many few =
    ap (λ v. with_piece (with_piece (with_piece (with_piece (take 48 v ++ ns ++ drop 240 v) 240 x) 248 vs) 256 name) 511 flag) first
    ∙ ap (λ v. with_piece (with_piece (with_piece (with_piece v 240 x) 248 vs) 256 name) 511 flag) second
    ∙ ap (λ v. with_piece (with_piece (with_piece v 248 vs) 256 name) 511 flag) index_put
    ∙ ap (λ v. with_piece (with_piece v 256 name) 511 flag) (behind (front ++ b ++ replicate 4 0) (replicate 264 0) vs 248 before_verifier ∙ ap (λ w. front ++ b ++ replicate 4 0 ++ vs ++ w) third)
    ∙ ap (λ v. with_piece v 511 flag) (behind (front ++ b ++ replicate 4 0 ++ vs) (replicate 256 0) name 256 before_name ∙ ap (λ w. front ++ b ++ replicate 4 0 ++ vs ++ name ++ w) fourth ∙ sym (append_assoc (front ++ b ++ replicate 4 0 ++ vs ++ name) r (replicate 1 0)))
    ∙ behind (front ++ b ++ replicate 4 0 ++ vs ++ name ++ r) (replicate 1 0) flag 511 before_flag
    ∙ append-nil (front ++ b ++ replicate 4 0 ++ vs ++ name ++ r ++ flag)
    ∙ regrouped front b (replicate 4 0) vs name r flag
  where
    ns : List ℕ
    ns = flat_map (to_le_bytes w32) blocks

    x : List ℕ
    x = to_le_bytes w32 index

    b : List ℕ
    b = flat_map (to_le_bytes w32) blocks ++ to_le_bytes w32 index

    vs : List ℕ
    vs = verifier_bytes verifier

    r : List ℕ
    r = replicate (255 - length name) 0

    flag : List ℕ
    flag = verifier_flag verifier ∷ []

    zeros : List ℕ
    zeros = replicate 4 0

    first : with_piece (replicate 512 0) 0 front ≡ front ++ replicate 464 0
    first = ap (λ k. front ++ drop k (replicate 512 0)) (let e : 0 + length front ≡ 48 = omega (arith, at) in e) ∙ ap (λ x. front ++ x) (drop-replicate 48 512 0)

    kept : drop 240 (front ++ replicate 464 0) ≡ replicate 272 0
    kept =
        ap (λ k. drop k (front ++ replicate 464 0)) (let e : 240 ≡ length front + 192 = omega (arith, at) in e)
        ∙ drop-append-add front (replicate 464 0) 192
        ∙ drop-replicate 192 464 0

    second : take 48 (front ++ replicate 464 0) ++ ns ++ drop 240 (front ++ replicate 464 0) ≡ front ++ ns ++ replicate 272 0
    second =
        ap (λ x. x ++ ns ++ drop 240 (front ++ replicate 464 0)) (take_at front (replicate 464 0) 48 at)
        ∙ ap (λ x. front ++ ns ++ x) kept

    before_index : length (front ++ ns) ≡ 240
    before_index = let bs = length-bytes_of blocks in length-append front ns ∙ omega (arith, at, many, bs)

    index_put : with_piece (front ++ ns ++ replicate 272 0) 240 x ≡ front ++ b ++ replicate 4 0 ++ replicate 264 0
    index_put =
        behind (front ++ ns) (replicate 272 0) x 240 before_index
        ∙ ap (λ y. front ++ ns ++ x ++ y) (drop-replicate 4 272 0 ∙ sym (replicate-append-replicate 4 264 0))
        ∙ ap (λ y. y ++ (replicate 4 0 ++ replicate 264 0)) (append_assoc front ns x)
        ∙ sym (append_assoc (front ++ b) (replicate 4 0) (replicate 264 0))

    third : drop {A = ℕ} (length vs) (replicate 264 0) ≡ replicate 256 0
    third = ap (λ k. drop {A = ℕ} k (replicate 264 0)) (length-verifier verifier) ∙ drop-replicate 8 264 0

    fourth : drop {A = ℕ} (length name) (replicate 256 0) ≡ replicate (255 - length name) 0 ++ replicate 1 0
    fourth =
        drop-replicate (length name) 256 0
        ∙ ap (λ k. replicate {A = ℕ} k 0) (let e : 256 - length name ≡ 255 - length name + 1 = omega (arith, few) in e)
        ∙ sym (replicate-append-replicate (255 - length name) 1 0)

    length-numbers : length b ≡ 196
    length-numbers =
        let bs = length-bytes_of blocks in
        let xs : length x ≡ 4 = refl in
        length-append ns x ∙ omega (arith, many, bs, xs)

    before_verifier : length (front ++ b ++ replicate 4 0) ≡ 248
    before_verifier =
        let bs = length-numbers in
        let zs : length zeros ≡ 4 = refl in
        length-append (front ++ b) (replicate 4 0) ∙ ap (λ n. n + length zeros) (length-append front b) ∙ omega (arith, at, bs, zs)

    before_name : length (front ++ b ++ replicate 4 0 ++ vs) ≡ 256
    before_name = let l = length-verifier verifier in length-append (front ++ b ++ replicate 4 0) vs ∙ omega (arith, before_verifier, l)

    before_flag : length (front ++ b ++ replicate 4 0 ++ vs ++ name ++ r) ≡ 511
    before_flag =
        let l = length-replicate {A = ℕ} (255 - length name) 0 in
        length-append (front ++ b ++ replicate 4 0 ++ vs ++ name) r ∙ ap (λ n. n + length r) (length-append (front ++ b ++ replicate 4 0 ++ vs) name) ∙ omega (arith, before_name, few, l)
