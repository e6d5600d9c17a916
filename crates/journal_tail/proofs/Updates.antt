-- Lists of updates, with no block twice.
use Rattle.std.proofs.Common.{◌≡◌, ◌≢◌, ◌+◌, ◌==◌, ◌||◌, not, ℕ, Bool, true, false, cond, List, [], ◌∷◌, refl, sym, ap, ◌∙◌}
use Rattle.std.specs.List.{All}
use Rattle.std.proofs.lemmas.Bool.{eq-eqb, eqb-true, false≢true, cond-true, cond-false}
use Rattle.std.proofs.lemmas.List.Elements.{All-nil, All-cons}
use Rattle.std.proofs.lemmas.List.Kept.{AllPairs-cons}
use Rattle.std.proofs.lemmas.List.Sums.{sum_by-cons}
use Rattle.journal_block.specs.declared.update.Update.{Update}
use Rattle.journal_block.specs.Updates.{Content, updated, with_updates, updates_block}
use Rattle.journal_block.specs.UpdateLaws.{updated-unnamed}
use Rattle.journal_memlog.specs.Logs.{HasDistinctBlocks, fresh_count}

or_false : (x y : Bool) → (x || y) ≡ false → (x ≡ false) × (y ≡ false)
or_false true y is = absurd (false≢true (sym is))
or_false false y is = (refl, is)

-- a block that no update names is none of theirs
pub others_apart : (b : ℕ) (us : List Update) → updates_block us b ≡ false → All (λ u. b ≢ u.block) us
others_apart b [] none = All-nil (λ (u : Update). b ≢ u.block)
others_apart b (u ∷ us) none =
    let parts = or_false (u.block == b) (updates_block us b) none in
    All-cons (λ (v : Update). b ≢ v.block) u us
    (λ (is : b ≡ u.block). false≢true (sym parts.0 ∙ eq-eqb u.block b (sym is)))
    (others_apart b us parts.1)

pub distinct_cons : (u : Update) (us : List Update) → updates_block us u.block ≡ false → HasDistinctBlocks us → HasDistinctBlocks (u ∷ us)
distinct_cons u us none distinct = AllPairs-cons (λ (t v : Update). t.block ≢ v.block) u us (others_apart u.block us none) distinct

pub fresh_cons : (tail : List Update) (u : Update) (us : List Update)
    → fresh_count tail (u ∷ us) ≡ cond (not (updates_block tail u.block)) 1 0 + fresh_count tail us
fresh_cons tail u us = sum_by-cons (λ w. cond (not (updates_block tail w.block)) 1 0) u us

-- the first update's block has its bytes, where no other is of it
pub updated_first : (blocks : Content) (u : Update) (us : List Update) → updates_block us u.block ≡ false
    → with_updates blocks (u ∷ us) u.block ≡ u.bytes
updated_first blocks u us none =
    updated-unnamed us u.block (cond (u.block == u.block) u.bytes (blocks u.block)) none
    ∙ cond-true (u.block == u.block) u.bytes (blocks u.block) (eq-eqb u.block u.block refl)

-- and other blocks have those that they have without it
pub updated_later : (blocks : Content) (u : Update) (us : List Update) (b : ℕ) → (b ≡ u.block → ⊥)
    → with_updates blocks (u ∷ us) b ≡ with_updates blocks us b
updated_later blocks u us b other = by (u.block == b) refl
  where
    by : (here : Bool) → (u.block == b) ≡ here → with_updates blocks (u ∷ us) b ≡ with_updates blocks us b
    by true here = absurd (other (sym (eqb-true u.block b here)))
    by false here = ap (updated us b) (cond-false (u.block == b) u.bytes (blocks b) here)
