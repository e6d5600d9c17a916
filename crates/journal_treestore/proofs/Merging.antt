-- Entries are put in any order where their blocks are different.
use Rattle.std.proofs.Common.{◌≡◌, ◌≢◌, ℕ, Bool, true, false, cond, eqb, refl, sym, ap, ◌∙◌, ◌⊎◌, inl, inr}
use Rattle.std.proofs.lemmas.Bool.{cases_eq, eq-eqb, ne_eqb}
use Rattle.journal_treestore.specs.declared.entry.Entry.{Entry}
use Rattle.journal_treestore.specs.Entries.{with_entry}
use Rattle.journal_treestore.specs.Positions.{Position, IsPosition, with_put}
use Rattle.journal_treestore.specs.Views.{View}
use Rattle.journal_treestore.specs.Sound.{IsSoundView}
use Rattle.journal_treestore.specs.Steps.{Seat, IsPlaced, IsSeat}
use Rattle.journal_treestore.proofs.Changing.{one_directory}

-- two blocks in either order
module _ (V : View) (b p c q : ℕ) (e f : Entry) (apart : b ≢ c) where
  first-block : (with_put V b p e).block c ≡ V.block c
  first-block = ap (λ t. cond t (with_entry (V.block b) p e) (V.block c)) (ne_eqb c b (λ s. apart (sym s)))

  other-block : (with_put V c q f).block b ≡ V.block b
  other-block = ap (λ t. cond t (with_entry (V.block c) q f) (V.block b)) (ne_eqb b c apart)

  same-blocks : (i : ℕ) → (with_put (with_put V b p e) c q f).block i ≡ (with_put (with_put V c q f) b p e).block i
  same-blocks i = by (cases_eq i b) (cases_eq i c)
    where
      left : (t : Bool) → eqb i b ≡ t → (u : Bool) → eqb i c ≡ u → (with_put (with_put V b p e) c q f).block i ≡ cond u (with_entry (V.block c) q f) (cond t (with_entry (V.block b) p e) (V.block i))
      left t is u at =
          ap (λ v. cond (eqb i c) (with_entry v q f) (cond (eqb i b) (with_entry (V.block b) p e) (V.block i))) first-block
          ∙ ap (λ u. cond u (with_entry (V.block c) q f) (cond (eqb i b) (with_entry (V.block b) p e) (V.block i))) at
          ∙ ap (λ t. cond u (with_entry (V.block c) q f) (cond t (with_entry (V.block b) p e) (V.block i))) is

      right : (t : Bool) → eqb i b ≡ t → (u : Bool) → eqb i c ≡ u → (with_put (with_put V c q f) b p e).block i ≡ cond t (with_entry (V.block b) p e) (cond u (with_entry (V.block c) q f) (V.block i))
      right t is u at =
          ap (λ v. cond (eqb i b) (with_entry v p e) (cond (eqb i c) (with_entry (V.block c) q f) (V.block i))) other-block
          ∙ ap (λ t. cond t (with_entry (V.block b) p e) (cond (eqb i c) (with_entry (V.block c) q f) (V.block i))) is
          ∙ ap (λ u. cond t (with_entry (V.block b) p e) (cond u (with_entry (V.block c) q f) (V.block i))) at

      both : (t : Bool) → eqb i b ≡ t → (u : Bool) → eqb i c ≡ u
          → cond u (with_entry (V.block c) q f) (cond t (with_entry (V.block b) p e) (V.block i)) ≡ cond t (with_entry (V.block b) p e) (cond u (with_entry (V.block c) q f) (V.block i))
          → (with_put (with_put V b p e) c q f).block i ≡ (with_put (with_put V c q f) b p e).block i
      both t is u at same = left t is u at ∙ same ∙ sym (right t is u at)

      by : (i ≡ b) ⊎ (i ≡ b → ⊥) → (i ≡ c) ⊎ (i ≡ c → ⊥) → (with_put (with_put V b p e) c q f).block i ≡ (with_put (with_put V c q f) b p e).block i
      by (inl x) (inl y) = absurd (apart (sym x ∙ y))
      by (inl x) (inr y) = both true (eq-eqb i b x) false (ne_eqb i c y) refl
      by (inr x) (inl y) = both false (ne_eqb i b x) true (eq-eqb i c y) refl
      by (inr x) (inr y) = both false (ne_eqb i b x) false (ne_eqb i c y) refl

  pub put-order : with_put (with_put V b p e) c q f ≡ with_put (with_put V c q f) b p e
  put-order = λ z. record { numbers = V.numbers; first_data = V.first_data; data_blocks = V.data_blocks; inode = V.inode; owner = V.owner; block = λ i. same-blocks i z }

-- ── a node takes the place of one that is replaced in another directory ──

module _ (V : View) (r s : Seat) (sound : IsSoundView V) (seat : IsSeat V r) (placed : IsPlaced V s) (two : s.d ≢ r.d) where
  -- blocks of two directories are different
  apart : (p q : Position) → IsPosition V r.h p → IsPosition V s.h q → p.b ≢ q.b
  apart p q at by same =
      two (sym (one_directory V r.d s.d r.h s.h p.j q.j (sound.inodes r.d r.h seat.placed.is) (sound.inodes s.d s.h placed.is) (λ e. at.some (sym at.is ∙ e)) (at.is ∙ same ∙ sym by.is)).0)
