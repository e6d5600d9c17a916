-- Laws of every list of updates.
use Rattle.std.proofs.Common.{◌≡◌, ℕ, ◌==◌, ◌||◌, Bool, true, false, cond, List, [], ◌∷◌, ◌++◌, refl, sym, ap, ◌∙◌}
use Rattle.std.proofs.lemmas.Bool.{cond-true, cond-false}
use Rattle.journal_block.specs.declared.update.Update.{Update}
use Rattle.journal_block.specs.Block.{Bytes}
use Rattle.journal_block.specs.Updates.{updated, updates_block}

-- some updates, and then others
pub updated-append : (first later : List Update) (b : ℕ) (bytes : Bytes)
    → updated (first ++ later) b bytes ≡ updated later b (updated first b bytes)
updated-append [] later b bytes = refl
updated-append (u ∷ first) later b bytes = updated-append first later b (cond (u.block == b) u.bytes bytes)

-- a block that is updated does not show what it held before
pub updated-named : (updates : List Update) (b : ℕ) (x y : Bytes) → updates_block updates b ≡ true
    → updated updates b x ≡ updated updates b y
updated-named [] b x y named = let impossible : ⊥ = cc in absurd impossible
updated-named (u ∷ later) b x y named = by_case (u.block == b) refl
    (updated-named later b (cond (u.block == b) u.bytes x) (cond (u.block == b) u.bytes y))
  where
    by_case : (here : Bool) → (u.block == b) ≡ here
        → (updates_block later b ≡ true → updated (u ∷ later) b x ≡ updated (u ∷ later) b y)
        → updated (u ∷ later) b x ≡ updated (u ∷ later) b y
    by_case true here rest =
        ap (updated later b) (cond-true (u.block == b) u.bytes x here ∙ sym (cond-true (u.block == b) u.bytes y here))
    by_case false here rest = rest (sym (ap (λ (t : Bool). t || updates_block later b) here) ∙ named)

-- a block that is not updated stays
pub updated-unnamed : (updates : List Update) (b : ℕ) (bytes : Bytes) → updates_block updates b ≡ false
    → updated updates b bytes ≡ bytes
updated-unnamed [] b bytes unnamed = refl
updated-unnamed (u ∷ later) b bytes unnamed = by_case (u.block == b) refl
    (updated-unnamed later b (cond (u.block == b) u.bytes bytes))
  where
    by_case : (here : Bool) → (u.block == b) ≡ here
        → (updates_block later b ≡ false → updated (u ∷ later) b bytes ≡ cond (u.block == b) u.bytes bytes)
        → updated (u ∷ later) b bytes ≡ bytes
    by_case true here rest =
        let wrong : true ≡ false = sym (ap (λ (t : Bool). t || updates_block later b) here) ∙ unnamed in
        let impossible : ⊥ = cc in absurd impossible
    by_case false here rest =
        rest (sym (ap (λ (t : Bool). t || updates_block later b) here) ∙ unnamed) ∙ cond-false (u.block == b) u.bytes bytes here
