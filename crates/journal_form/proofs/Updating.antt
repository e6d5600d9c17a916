-- What a log's updates make of a block that some of them were made of already.
use Rattle.std.proofs.Common.{◌≡◌, ◌<◌, ◌≤◌, ◌+◌, ℕ, zero, suc, ◌==◌, ◌||◌, Bool, true, false, cond, List, [], ◌∷◌, ◌++◌, take, Some, Option, unwrap_or, refl, sym, ap, ◌∙◌, arith, slice_get}
use Rattle.std.proofs.lemmas.Bool.{eq-eqb}
use Rattle.std.proofs.lemmas.Option.{get_or_from_slice_get, slice_get_within}
use Rattle.std.proofs.Math.Seq.{take-suc}
use Rattle.journal_block.specs.declared.update.Update.{Update}
use Rattle.journal_block.specs.Block.{Bytes}
use Rattle.journal_block.specs.Updates.{updated, updates_block}
use Rattle.journal_block.specs.UpdateLaws.{updated-append, updated-named, updated-unnamed}

-- a block that none updates, none of the first updates
unnamed_take : (us : List Update) (k b : ℕ) → updates_block us b ≡ false → updates_block (take k us) b ≡ false
unnamed_take us zero b none = refl
unnamed_take [] (suc k) b none = refl
unnamed_take (u ∷ us) (suc k) b none = by_case (u.block == b) refl (unnamed_take us k b)
  where
    by_case : (here : Bool) → (u.block == b) ≡ here → (updates_block us b ≡ false → updates_block (take k us) b ≡ false)
        → updates_block (take (suc k) (u ∷ us)) b ≡ false
    by_case true here rest =
        let wrong : true ≡ false = sym (ap (λ (t : Bool). t || updates_block us b) here) ∙ none in let impossible : ⊥ = cc in absurd impossible
    by_case false here rest = ap (λ (t : Bool). t || updates_block (take k us) b) here
        ∙ rest (sym (ap (λ (t : Bool). t || updates_block us b) here) ∙ none)

take_fewer : (us : List Update) (n k : ℕ) → k ≤ n → take k (take n us) ≡ take k us
take_fewer us n zero le = refl
take_fewer us zero (suc k) le = absurd (omega (arith, le))
take_fewer [] (suc n) (suc k) le = refl
take_fewer (u ∷ us) (suc n) (suc k) le = ap (λ (t : List Update). u ∷ t) (take_fewer us n k (omega (arith, le)))

-- where the first updates were made of a block, all of them make of it what they made of it before
pub updated_again : (us : List Update) (n k b : ℕ) (x : Bytes) → k ≤ n
    → updated (take n us) b (updated (take k us) b x) ≡ updated (take n us) b x
updated_again us n k b x le = by_case (updates_block (take n us) b) refl
  where
    by_case : (named : Bool) → updates_block (take n us) b ≡ named
        → updated (take n us) b (updated (take k us) b x) ≡ updated (take n us) b x
    by_case true named = updated-named (take n us) b (updated (take k us) b x) x named
    by_case false none = ap (updated (take n us) b) (updated-unnamed (take k us) b x fewer)
      where
        fewer : updates_block (take k us) b ≡ false
        fewer = sym (ap (λ (t : List Update). updates_block t b) (take_fewer us n k le)) ∙ unnamed_take (take n us) k b none

-- one update more
pub updated_more : (us : List Update) (k b : ℕ) (u : Update) (x : Bytes) → slice_get us k ≡ Some u
    → updated (take (k + 1) us) b x ≡ cond (u.block == b) u.bytes (updated (take k us) b x)
updated_more us k b u x here =
    (λ i. updated (split i) b x) ∙ updated-append (take k us) (u ∷ []) b x
  where
    split : take (k + 1) us ≡ take k us ++ u ∷ []
    split = (λ i. take (one i) us) ∙ take-suc us k u (slice_get_within us k u here)
        ∙ (λ i. take k us ++ get_or_from_slice_get us k u u here i ∷ [])
      where
        one : k + 1 ≡ suc k
        one = omega arith

-- the block of an update is updated
pub named_at : (us : List Update) (n k : ℕ) (u : Update) → k < n → slice_get us k ≡ Some u → updates_block (take n us) u.block ≡ true
named_at us zero k u lt here = absurd (omega (arith, lt))
named_at [] (suc n) k u lt here = let k_lt = slice_get_within [] k u here in absurd (omega (arith, k_lt))
named_at (v ∷ us) (suc n) zero u lt here =
    ap (λ (t : Bool). t || updates_block (take n us) u.block) (eq-eqb v.block u.block (ap (λ (o : Option Update). (unwrap_or o u).block) here))
named_at (v ∷ us) (suc n) (suc k) u lt here =
    ap (λ (t : Bool). v.block == u.block || t) (named_at us n k u (omega (arith, lt)) here) ∙ or_true (v.block == u.block)
  where
    or_true : (t : Bool) → t || true ≡ true
    or_true true = refl
    or_true false = refl
