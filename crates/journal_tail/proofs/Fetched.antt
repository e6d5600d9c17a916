-- The last of some updates that is of a block, and what memory knows by it.
use Rattle.std.proofs.Common.{◌≡◌, ◌==◌, ◌||◌, ℕ, Bool, true, false, cond, List, [], ◌∷◌, ◌++◌, length, refl, ap, ◌∙◌, append_assoc, arith}
use Rattle.std.proofs.lemmas.Bool.{eq-eqb, eqb-true, cond-true}
use Rattle.journal_block.specs.declared.update.Update.{Update}
use Rattle.journal_block.specs.Block.{Bytes}
use Rattle.journal_block.specs.Updates.{updated, updates_block}
use Rattle.journal_block.specs.UpdateLaws.{updated-append, updated-unnamed}
use Rattle.journal_memlog.specs.Laws.{updates_block-append}

pub or_right : (x y : Bool) → y ≡ true → (x || y) ≡ true
or_right true y is = refl
or_right false y is = is

pub or_left : (x y : Bool) → y ≡ false → (x || y) ≡ x
or_left true y is = refl
or_left false y is = is

or_none : (x y : Bool) → (x ≡ true → ⊥) → y ≡ false → (x || y) ≡ false
or_none true y none is = absurd (none refl)
or_none false y none is = is

pub none_of : {A : Type 0} (ws : List A) → length ws ≡ 0 → ws ≡ []
none_of [] none = refl
none_of (w ∷ ws) none = absurd (omega (arith, none))

module _ (us left done : List Update) (b : ℕ) (split : us ≡ left ++ done) (unnamed : updates_block done b ≡ false) where
  module _ (rest : List Update) (u : Update) (took : left ≡ rest ++ u ∷ []) where
    whole : us ≡ rest ++ u ∷ done
    whole = split ∙ ap (λ (ws : List Update). ws ++ done) took ∙ append_assoc rest (u ∷ []) done

    pub last_named : u.block ≡ b → updates_block us b ≡ true
    last_named is =
        ap (λ (ws : List Update). updates_block ws b) whole
        ∙ updates_block-append rest (u ∷ done) b
        ∙ or_right (updates_block rest b) (updates_block (u ∷ done) b) (ap (λ (t : Bool). t || updates_block done b) (eq-eqb u.block b is))

    pub last_bytes : u.block ≡ b → updated us b [] ≡ u.bytes
    last_bytes is =
        ap (λ (ws : List Update). updated ws b []) whole
        ∙ updated-append rest (u ∷ done) b []
        ∙ updated-unnamed done b (cond (u.block == b) u.bytes (updated rest b [])) unnamed
        ∙ cond-true (u.block == b) u.bytes (updated rest b []) (eq-eqb u.block b is)

    pub passed : (u.block ≡ b → ⊥) → (us ≡ rest ++ u ∷ done) × (updates_block (u ∷ done) b ≡ false)
    passed other = (whole, or_none (u.block == b) (updates_block done b) (λ is. other (eqb-true u.block b is)) unnamed)

  pub none_named : length left ≡ 0 → updates_block us b ≡ false
  none_named none = ap (λ (ws : List Update). updates_block ws b) (split ∙ ap (λ (ws : List Update). ws ++ done) (none_of left none)) ∙ unnamed

-- what memory knows of a block: as the updates have it, or as what was fetched before them has it
module _ (fetched us : List Update) (b : ℕ) where
  pub known_later : updates_block us b ≡ true → updates_block (fetched ++ us) b ≡ true
  known_later named = updates_block-append fetched us b ∙ or_right (updates_block fetched b) (updates_block us b) named

  pub known_later_bytes : (bytes : Bytes) → ((x : Bytes) → updated us b x ≡ bytes) → updated (fetched ++ us) b [] ≡ bytes
  known_later_bytes bytes is = updated-append fetched us b [] ∙ is (updated fetched b [])

  pub known_before : updates_block us b ≡ false → updates_block (fetched ++ us) b ≡ updates_block fetched b
  known_before unnamed = updates_block-append fetched us b ∙ or_left (updates_block fetched b) (updates_block us b) unnamed

  pub known_before_bytes : updates_block us b ≡ false → updated (fetched ++ us) b [] ≡ updated fetched b []
  known_before_bytes unnamed = updated-append fetched us b [] ∙ updated-unnamed us b (updated fetched b []) unnamed
