-- The numbers of a directory's blocks, as they were read.
use Rattle.std.proofs.Common.{◌≡◌, ◌≢◌, ℕ, ◌-◌, ◌*◌, ◌<◌, ◌≤◌, cond, Bool, true, List, [], get_or, Option, Some, None, refl, sym, ap, subst, ◌⊎◌, inl, inr, ◌∙◌}
use Rattle.std.specs.Prelude.{nat_lt}
use Rattle.std.proofs.lemmas.Bool.{cases_lt, lt-ltb, le-ltb, eq-eqb, ne_eqb}
use Rattle.journal_treestore.specs.declared.inode.Head.{Head}
use Rattle.journal_treestore.specs.Bytes.{word_at}
use Rattle.journal_treestore.specs.Views.{View, held_of, number_in, block_at}
use Rattle.journal_treestore.proofs.Indexing.{directory-first, directory-level}
use Rattle.journal_treecalls.specs.declared.seats.BlockNumbers.{BlockNumbers}
use Rattle.journal_treecalls.specs.Disks.{Learns}
use Rattle.journal_treecalls.specs.Fetches.{file_index}
use Rattle.journal_treecalls.specs.Targets.{block_of}
use Rattle.journal_treecalls.specs.Seats.{number_after, number_of, HasBlocks, HasLevels}
use Rattle.journal_treecalls.proofs.Learning.{learns-as, learns-then}

-- ── the first index block ──

pub levels-none : (old new : View → Type 0) (h : Head) (leaf : ℕ) → Learns old new (λ V. file_index V h 0 ≡ leaf) → leaf ≡ 0 → Learns old new (λ V. HasLevels V h None)
levels-none old new h leaf l none = learns-as old new _ _ l (λ V m is. is ∙ none)

pub levels-some : (first old new : View → Type 0) (h : Head) (leaf : ℕ) (v : List ℕ) → Learns first old (λ V. file_index V h 0 ≡ leaf) → leaf ≢ 0 → Learns old new (λ V. V.block leaf ≡ v) → Learns first new (λ V. HasLevels V h (Some v))
levels-some first old new h leaf v l some k = learns-then first old new _ _ l k _ (λ V m is block. ((λ z. some (sym is ∙ z)), ap V.block is ∙ block))

-- ── the number of block j ──

abbrev number_by : (low first : Bool) → BlockNumbers → ℕ → ℕ
number_by low first b j = cond low (cond first (get_or b.first j 0) (number_after b.levels (j - 48))) 0

pub number-far : (b : BlockNumbers) (j : ℕ) → 388 ≤ j → 0 ≡ number_of b j
number-far b j far = sym (ap (λ t. number_by t (nat_lt j 48) b j) (le-ltb j 388 far))

pub number-first : (b : BlockNumbers) (j : ℕ) → j < 388 → j < 48 → get_or b.first j 0 ≡ number_of b j
number-first b j low first = sym (ap (λ t. number_by t (nat_lt j 48) b j) (lt-ltb j 388 low) ∙ ap (λ t. number_by true t b j) (lt-ltb j 48 first))

pub number-level : (b : BlockNumbers) (j : ℕ) → j < 388 → 48 ≤ j → number_after b.levels (j - 48) ≡ number_of b j
number-level b j low past = sym (ap (λ t. number_by t (nat_lt j 48) b j) (lt-ltb j 388 low) ∙ ap (λ t. number_by true t b j) (le-ltb j 48 past))

-- ── they are those of the directory ──

module _ (V : View) (h : Head) where
  -- by the words of the index block
  after-is : (o : Option (List ℕ)) → HasLevels V h o → (k : ℕ) → number_after o k ≡ number_in V (file_index V h 0) k
  after-is None none k = sym (ap (λ b. number_in V b k) none)
  after-is (Some v) some k =
      ap (λ v. word_at v (4 * k)) (sym some.1)
      ∙ sym (ap (λ t. cond t 0 (word_at (V.block (file_index V h 0)) (4 * k))) (ne_eqb (file_index V h 0) 0 some.0))

  blocks-are : (b : BlockNumbers) → b.first ≡ h.blocks → HasLevels V h b.levels → HasBlocks V h b
  blocks-are b first levels j = by (cases_lt j 388) (cases_lt j 48)
    where
      by : (j < 388) ⊎ (388 ≤ j) → (j < 48) ⊎ (48 ≤ j) → number_of b j ≡ (block_of V h j).number
      by (inr far) _ = sym (number-far b j far) ∙ sym (ap (λ t. cond t (block_at V (held_of h []) j) 0) (le-ltb j 388 far))
      by (inl low) (inl at) = sym (number-first b j low at) ∙ ap (λ bs. get_or bs j 0) first ∙ sym (directory-first V (held_of h []) j at)
      by (inl low) (inr past) = sym (number-level b j low past) ∙ after-is b.levels levels (j - 48) ∙ sym (directory-level V (held_of h []) j past low)

pub numbers-read : (old new : View → Type 0) (h : Head) (o : Option (List ℕ)) → Learns old new (λ V. HasLevels V h o) → Learns old new (λ V. HasBlocks V h (record { first = h.blocks; levels = o }))
numbers-read old new h o l = learns-as old new _ _ l (λ V m levels. blocks-are V h (record { first = h.blocks; levels = o }) refl levels)
