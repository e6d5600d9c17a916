-- Blocks of a file are written, one after another.
use Rattle.std.proofs.Common.{◌≡◌, ◌≢◌, ℕ, zero, suc, ◌<◌, Bool, true, false, cond, eqb, List, refl, sym, ap, ◌⊎◌, inl, inr, ◌∙◌, arith}
use Rattle.std.proofs.lemmas.Bool.{cases_eq, eq-eqb, ne_eqb}
use Rattle.journal_treestore.specs.declared.owner.Owner.{Owner}
use Rattle.journal_treestore.specs.Views.{View, with_owner, with_block}
use Rattle.journal_treecalls.specs.Blocks.{owner_of}
use Rattle.journal_treecalls.specs.Overlays.{Laying, lay, lay_at, laid}

-- ── one block ──

lay-block : (X : View) (n was b p : ℕ) (v : List ℕ) (x : ℕ) → (lay X n was b p v).block x ≡ cond (eqb x b) v (X.block x)
lay-block X n was b p v x = by (eqb was 0)
  where
    by : (t : Bool) → (cond t (with_owner (with_block X b v) b (owner_of n p)) (with_block X b v)).block x ≡ cond (eqb x b) v (X.block x)
    by true = refl
    by false = refl

lay-owner : (X : View) (n was b p : ℕ) (v : List ℕ) (x : ℕ) → (lay X n was b p v).owner x ≡ cond (eqb was 0) (cond (eqb x b) (owner_of n p) (X.owner x)) (X.owner x)
lay-owner X n was b p v x = by (eqb was 0)
  where
    by : (t : Bool) → (cond t (with_owner (with_block X b v) b (owner_of n p)) (with_block X b v)).owner x ≡ cond t (cond (eqb x b) (owner_of n p) (X.owner x)) (X.owner x)
    by true = refl
    by false = refl

-- what a block and a record have nothing to do with stays
lay-keeps : {A : Type 0} (f : View → A) → ((X : View) (b : ℕ) (v : List ℕ) → f (with_block X b v) ≡ f X) → ((X : View) (b : ℕ) (o : Owner) → f (with_owner X b o) ≡ f X)
    → (X : View) (n : ℕ) (l : Laying) → f (lay_at X n l) ≡ f X
lay-keeps f blocks owners X n l = by l.stays (eqb l.was 0)
  where
    by : (t u : Bool) → f (cond t X (cond u (with_owner (with_block X l.block l.bytes) l.block (owner_of n l.place)) (with_block X l.block l.bytes))) ≡ f X
    by false true = owners (with_block X l.block l.bytes) l.block (owner_of n l.place) ∙ blocks X l.block l.bytes
    by false false = blocks X l.block l.bytes
    by true u = refl

-- ── the first ones of a row ──

module _ (U : View) (n : ℕ) (row : ℕ → Laying) where
  pub laid-none : laid U n row 0 ≡ U
  unfolding laid
  laid-none = refl

  pub laid-more : (m : ℕ) → laid U n row (suc m) ≡ lay_at (laid U n row m) n (row m)
  unfolding laid
  laid-more m = refl

  pub laid-keeps : {A : Type 0} (f : View → A) → ((X : View) (b : ℕ) (v : List ℕ) → f (with_block X b v) ≡ f X) → ((X : View) (b : ℕ) (o : Owner) → f (with_owner X b o) ≡ f X) → (m : ℕ) → f (laid U n row m) ≡ f U
  laid-keeps f blocks owners zero = ap f laid-none
  laid-keeps f blocks owners (suc m) = ap f (laid-more m) ∙ lay-keeps f blocks owners (laid U n row m) n (row m) ∙ laid-keeps f blocks owners m

  -- block after block
  at-block : (m x : ℕ) → (t : Bool) → (row m).stays ≡ t → (laid U n row (suc m)).block x ≡ cond t ((laid U n row m).block x) (cond (eqb x (row m).block) (row m).bytes ((laid U n row m).block x))
  at-block m x t is =
      ap (λ (W : View). W.block x) (laid-more m)
      ∙ ap (λ t. (cond t (laid U n row m) (lay (laid U n row m) n (row m).was (row m).block (row m).place (row m).bytes)).block x) is
      ∙ by t
    where
      by : (t : Bool) → (cond t (laid U n row m) (lay (laid U n row m) n (row m).was (row m).block (row m).place (row m).bytes)).block x
          ≡ cond t ((laid U n row m).block x) (cond (eqb x (row m).block) (row m).bytes ((laid U n row m).block x))
      by false = lay-block (laid U n row m) n (row m).was (row m).block (row m).place (row m).bytes x
      by true = refl

  pub block-unlaid : (x m : ℕ) → ((i : ℕ) → i < m → (row i).stays ≡ false → x ≢ (row i).block) → (laid U n row m).block x ≡ U.block x
  block-unlaid x zero other = ap (λ (W : View). W.block x) laid-none
  block-unlaid x (suc m) other = by (row m).stays refl ∙ block-unlaid x m (λ i low. other i (omega (arith, low)))
    where
      by : (t : Bool) → (row m).stays ≡ t → (laid U n row (suc m)).block x ≡ (laid U n row m).block x
      by true is = at-block m x true is
      by false is = at-block m x false is ∙ ap (λ t. cond t (row m).bytes ((laid U n row m).block x)) (ne_eqb x (row m).block (other m (omega arith) is))

  pub block-laid : (i m : ℕ) → i < m → (row i).stays ≡ false → ((k : ℕ) → k < m → k ≢ i → (row i).block ≢ (row k).block) → (laid U n row m).block (row i).block ≡ (row i).bytes
  block-laid i zero low is apart = absurd (omega (arith, low))
  block-laid i (suc m) low is apart = by (cases_eq m i) (λ low. block-laid i m low is (λ k l. apart k (omega (arith, l))))
    where
      by : (m ≡ i) ⊎ (m ≡ i → ⊥) → (i < m → (laid U n row m).block (row i).block ≡ (row i).bytes) → (laid U n row (suc m)).block (row i).block ≡ (row i).bytes
      by (inl same) before =
          at-block m (row i).block false (ap (λ m. (row m).stays) same ∙ is)
          ∙ ap (λ t. cond t (row m).bytes ((laid U n row m).block (row i).block)) (eq-eqb (row i).block (row m).block (ap (λ m. (row m).block) (sym same)))
          ∙ ap (λ m. (row m).bytes) same
      by (inr other) before = rest (row m).stays refl ∙ before (omega (arith, low, other))
        where
          rest : (t : Bool) → (row m).stays ≡ t → (laid U n row (suc m)).block (row i).block ≡ (laid U n row m).block (row i).block
          rest true at = at-block m (row i).block true at
          rest false at = at-block m (row i).block false at ∙ ap (λ t. cond t (row m).bytes ((laid U n row m).block (row i).block)) (ne_eqb (row i).block (row m).block (apart m (omega arith) other))

  -- record after record
  at-owner : (m x : ℕ) → (t u : Bool) → (row m).stays ≡ t → eqb (row m).was 0 ≡ u
      → (laid U n row (suc m)).owner x ≡ cond t ((laid U n row m).owner x) (cond u (cond (eqb x (row m).block) (owner_of n (row m).place) ((laid U n row m).owner x)) ((laid U n row m).owner x))
  at-owner m x t u is was =
      ap (λ (W : View). W.owner x) (laid-more m)
      ∙ ap (λ t. (cond t (laid U n row m) (lay (laid U n row m) n (row m).was (row m).block (row m).place (row m).bytes)).owner x) is
      ∙ by t
      ∙ ap (λ u. cond t ((laid U n row m).owner x) (cond u (cond (eqb x (row m).block) (owner_of n (row m).place) ((laid U n row m).owner x)) ((laid U n row m).owner x))) was
    where
      by : (t : Bool) → (cond t (laid U n row m) (lay (laid U n row m) n (row m).was (row m).block (row m).place (row m).bytes)).owner x
          ≡ cond t ((laid U n row m).owner x) (cond (eqb (row m).was 0) (cond (eqb x (row m).block) (owner_of n (row m).place) ((laid U n row m).owner x)) ((laid U n row m).owner x))
      by false = lay-owner (laid U n row m) n (row m).was (row m).block (row m).place (row m).bytes x
      by true = refl

  pub owner-unlaid : (x m : ℕ) → ((i : ℕ) → i < m → (row i).stays ≡ false → (row i).was ≡ 0 → x ≢ (row i).block) → (laid U n row m).owner x ≡ U.owner x
  owner-unlaid x zero other = ap (λ (W : View). W.owner x) laid-none
  owner-unlaid x (suc m) other = by (row m).stays refl (cases_eq (row m).was 0) ∙ owner-unlaid x m (λ i low. other i (omega (arith, low)))
    where
      by : (t : Bool) → (row m).stays ≡ t → ((row m).was ≡ 0) ⊎ ((row m).was ≡ 0 → ⊥) → (laid U n row (suc m)).owner x ≡ (laid U n row m).owner x
      by true is _ = at-owner m x true (eqb (row m).was 0) is refl
      by false is (inr some) = at-owner m x false false is (ne_eqb (row m).was 0 some)
      by false is (inl none) = at-owner m x false true is (eq-eqb (row m).was 0 none) ∙ ap (λ t. cond t (owner_of n (row m).place) ((laid U n row m).owner x)) (ne_eqb x (row m).block (other m (omega arith) is none))

  pub owner-laid : (i m : ℕ) → i < m → (row i).stays ≡ false → (row i).was ≡ 0 → ((k : ℕ) → k < m → k ≢ i → (row i).block ≢ (row k).block) → (laid U n row m).owner (row i).block ≡ owner_of n (row i).place
  owner-laid i zero low is none apart = absurd (omega (arith, low))
  owner-laid i (suc m) low is none apart = by (cases_eq m i) (λ low. owner-laid i m low is none (λ k l. apart k (omega (arith, l))))
    where
      by : (m ≡ i) ⊎ (m ≡ i → ⊥) → (i < m → (laid U n row m).owner (row i).block ≡ owner_of n (row i).place) → (laid U n row (suc m)).owner (row i).block ≡ owner_of n (row i).place
      by (inl same) before =
          at-owner m (row i).block false true (ap (λ m. (row m).stays) same ∙ is) (eq-eqb (row m).was 0 (ap (λ m. (row m).was) same ∙ none))
          ∙ ap (λ t. cond t (owner_of n (row m).place) ((laid U n row m).owner (row i).block)) (eq-eqb (row i).block (row m).block (ap (λ m. (row m).block) (sym same)))
          ∙ ap (λ m. owner_of n (row m).place) same
      by (inr other) before = rest (row m).stays (eqb (row m).was 0) refl refl ∙ before (omega (arith, low, other))
        where
          rest : (t u : Bool) → (row m).stays ≡ t → eqb (row m).was 0 ≡ u → (laid U n row (suc m)).owner (row i).block ≡ (laid U n row m).owner (row i).block
          rest true u at is_u = at-owner m (row i).block true u at is_u
          rest false false at is_u = at-owner m (row i).block false false at is_u
          rest false true at is_u = at-owner m (row i).block false true at is_u ∙ ap (λ t. cond t (owner_of n (row m).place) ((laid U n row m).owner (row i).block)) (ne_eqb (row i).block (row m).block (apart m (omega arith) other))
