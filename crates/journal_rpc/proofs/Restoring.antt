-- Taking back what has come since.
use Rattle.std.proofs.Common.{◌≡◌, ℕ, suc, ◌+◌, ◌<◌, ◌≤◌, List, [], ◌∷◌, ◌++◌, length, take, drop, sym, ap, ◌∙◌, arith}
use Rattle.std.proofs.lemmas.List.{length-append}
use Rattle.std.proofs.Math.Seq.{take-append_seam, drop-append_seam, take-append-add}
use Rattle.journal_rpc.specs.declared.marking.Marking.{Marking}
use Rattle.journal_rpc.specs.declared.part.Part.{Part}
use Rattle.journal_rpc.specs.Stream.{Stream, ExtendsStream, Grown, Completed}
use Rattle.journal_rpc.proofs.Streams.{stream}

same_length : (xs ys : List (List ℕ)) → xs ≡ ys → length xs ≡ length ys
same_length xs ys e = ap (λ (zs : List (List ℕ)). length zs) e

-- the last record that is complete becomes the one that is begun
pub one_back : (old : Stream) (m : Marking) (ws : List (List ℕ)) (r begun : List ℕ) (p q : Part) → length old.records < length ws + 1
    → ExtendsStream old (stream m (ws ++ r ∷ []) begun p) → ExtendsStream old (stream m ws r q)
one_back old m ws r begun p q lt (Grown e k is b) = absurd (omega (arith, length-append ws (r ∷ []), same_length _ _ is))
one_back old m ws r begun p q lt (Completed e [] k is) =
    let lens = same_length _ _ is in
    let same : length ws ≡ length old.records = omega (arith, length-append ws (r ∷ []), length-append old.records ((old.begun ++ e) ∷ []), lens) in
    let left : ws ≡ old.records = sym (take-append_seam ws (r ∷ [])) ∙ ap (take (length ws)) is ∙ ap (λ k. take k (old.records ++ (old.begun ++ e) ∷ [])) same ∙ take-append_seam old.records ((old.begun ++ e) ∷ []) in
    let right : r ∷ [] ≡ (old.begun ++ e) ∷ [] = sym (drop-append_seam ws (r ∷ [])) ∙ ap (drop (length ws)) is ∙ ap (λ k. drop k (old.records ++ (old.begun ++ e) ∷ [])) same ∙ drop-append_seam old.records ((old.begun ++ e) ∷ []) in
    Grown e k left (cc right)
one_back old m ws r begun p q lt (Completed e (y ∷ more) k is) =
    let lens = same_length _ _ is in
    let x = old.begun ++ e in
    let same : length ws ≡ length old.records + suc (length more) = omega (arith, length-append ws (r ∷ []), length-append old.records (x ∷ y ∷ more), lens) in
    let left : ws ≡ old.records ++ x ∷ take (length more) (y ∷ more) =
    sym (take-append_seam ws (r ∷ [])) ∙ ap (take (length ws)) is ∙ ap (λ k. take k (old.records ++ x ∷ y ∷ more)) same ∙ take-append-add old.records (x ∷ y ∷ more) (suc (length more)) in
    Completed e (take (length more) (y ∷ more)) k left

-- with as many complete records as there were, only the record that was begun has grown
pub all_back : (old : Stream) (m : Marking) (records : List (List ℕ)) (begun : List ℕ) (p : Part) → length records ≤ length old.records
    → ExtendsStream old (stream m records begun p) → stream m records (take (length old.begun) begun) old.part ≡ old
all_back old m records begun p le (Grown e k is b) =
    ap (λ (n : Marking). stream n records (take (length old.begun) begun) old.part) k
    ∙ ap (λ (rs : List (List ℕ)). stream old.marking rs (take (length old.begun) begun) old.part) is
    ∙ ap (λ (x : List ℕ). stream old.marking old.records x old.part) (ap (take (length old.begun)) b ∙ take-append_seam old.begun e)
all_back old m records begun p le (Completed e more k is) = absurd (omega (arith, length-append old.records ((old.begun ++ e) ∷ more), same_length _ _ is))
