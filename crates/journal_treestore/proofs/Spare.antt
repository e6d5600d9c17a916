-- A block that nobody has is overwritten, and its record: the disk stays sound and shows the same
-- tree.
use Rattle.std.proofs.Common.{◌≡◌, ◌≢◌, ℕ, ◌+◌, ◌/◌, ◌%◌, cond, eqb, List, length, take, Some, refl, sym, ap, ◌⊎◌, inl, inr, ◌∙◌}
use Rattle.std.proofs.lemmas.Bool.{cases_eq, eq-eqb, ne_eqb}
use Rattle.journal_tree.specs.declared.reply.Kind.{Kind}
use Rattle.journal_tree.specs.declared.reply.Kind.TheVariants.{Directory, File, Link}
use Rattle.journal_tree.specs.Trees.Body.{file, link}
use Rattle.journal_treestore.specs.declared.owner.Owner.{Owner}
use Rattle.journal_treestore.specs.Entries.{no_entry, entry_from}
use Rattle.journal_treestore.specs.Views.{Held, Seen, View, block_at, with_owner, with_block, bytes_of, body_of, slot_of, tree_of, directory_block, entry_in, entry_by, entry_of, entry_at}
use Rattle.journal_treestore.specs.Views.Seen.{free, used}
use Rattle.journal_treestore.specs.Sound.{IsSoundView}
use Rattle.journal_treestore.specs.Steps.{IsUnowned}
use Rattle.journal_treestore.proofs.Indexing.{block_at-frame, bytes_of-frame, bytes_in-frame, sound-frame}
use Rattle.journal_treestore.proofs.Changing.{AreInodes, at-directory, directory-frame}

-- a block of which the named owner says that it has it not is nobody's
pub nobody_has : (V : View) (b : ℕ) → IsSoundView V → b ≢ 0 → IsUnowned V b → (n : ℕ) (h : Held) (j : ℕ) → V.inode n ≡ used h → block_at V h j ≢ b
nobody_has V b sound some unowned n h j is has =
    unowned.not_at h (ap V.inode (ap (λ (o : Owner). o.number) owner) ∙ is) (ap (block_at V h) (ap (λ (o : Owner). o.place) owner) ∙ has)
  where
    owner : V.owner b ≡ record { number = n; place = j }
    owner = ap V.owner (sym has) ∙ (sound.inodes n h is).owned j (λ z. some (sym has ∙ z))

-- the block and its record are written
abbrev pub spare_view : View → ℕ → List ℕ → Owner → View
spare_view V b v o = with_owner (with_block V b v) b o

module _ (V : View) (sound : IsSoundView V) (b : ℕ) (some : b ≢ 0) (unowned : IsUnowned V b) (v : List ℕ) (o : Owner) where
  abbrev V1 : View
  V1 = spare_view V b v o

  pub apart : (n : ℕ) (h : Held) (j : ℕ) → V.inode n ≡ used h → block_at V h j ≢ b
  apart n h j is = nobody_has V b sound some unowned n h j is

  pub spare-block : (c : ℕ) → c ≢ b → (spare_view V b v o).block c ≡ V.block c
  spare-block c other = ap (λ t. cond t v (V.block c)) (ne_eqb c b other)

  pub spare-block-here : (spare_view V b v o).block b ≡ v
  spare-block-here = ap (λ t. cond t v (V.block b)) (eq-eqb b b refl)

  pub spare-owner : (c : ℕ) → c ≢ b → (spare_view V b v o).owner c ≡ V.owner c
  spare-owner c other = ap (λ t. cond t o (V.owner c)) (ne_eqb c b other)

  pub spare-owner-here : (spare_view V b v o).owner b ≡ o
  spare-owner-here = ap (λ t. cond t o (V.owner b)) (eq-eqb b b refl)

  -- each inode has the blocks that it had
  pub blocks-spare : (n : ℕ) (h : Held) → V.inode n ≡ used h → (p : ℕ) → block_at (spare_view V b v o) h p ≡ block_at V h p
  blocks-spare n h is = block_at-frame V (spare_view V b v o) h (λ p _ _. spare-block (block_at V h p) (apart n h p is))

  -- the inodes are sound
  pub inodes-spare : AreInodes (spare_view V b v o)
  inodes-spare n h is =
      let s = sound.inodes n h is in
      sound-frame V (spare_view V b v o) n h refl refl (blocks-spare n h is) (λ p _. spare-owner (block_at V h p) (apart n h p is))
      (λ p there. ap length (spare-block (block_at V h p) (apart n h p is)) ∙ s.sized p there) s

  -- what nodes hold stays
  bytes_of-kept : (n : ℕ) (h : Held) → V.inode n ≡ used h → (l : ℕ) → bytes_of (spare_view V b v o) (block_at (spare_view V b v o) h) l ≡ bytes_of V (block_at V h) l
  bytes_of-kept n h is l =
      bytes_of-frame V (spare_view V b v o) (block_at (spare_view V b v o) h) (block_at V h)
      (λ j. bytes_in-frame V (spare_view V b v o) (block_at V h j) (block_at (spare_view V b v o) h j) (blocks-spare n h is j) (λ _. spare-block (block_at V h j) (apart n h j is))) l

  pub tree-spare : tree_of (spare_view V b v o) ≡ tree_of V
  tree-spare = λ z. record { numbers = V.numbers; blocks = V.data_blocks; at = λ i. by i (V.inode i) refl z }
    where
      body : (i : ℕ) (h : Held) → V.inode i ≡ used h → (kind : Kind) → body_of V1 kind h ≡ body_of V kind h
      body i h at Directory = refl
      body i h at File = ap (λ w. file (take h.size w)) (bytes_of-kept i h at ((h.size + 4095) / 4096))
      body i h at Link = ap (λ w. link (take h.size w)) (bytes_of-kept i h at ((h.size + 4095) / 4096))

      by : (i : ℕ) (x : Seen) → V.inode i ≡ x → slot_of V1 x ≡ slot_of V x
      by i (free a) at = refl
      by i (used h) at = λ z. record { generation = h.generation; node = Some (record { attributes = h.attributes; home = h.home; body = body i h at h.kind z }) }

  -- so do the entries
  pub entry-spare : (a p : ℕ) (h : Held) → V.inode a ≡ used h
      → entry_in (spare_view V b v o) (directory_block (spare_view V b v o) h (p / 512)) (p % 512) ≡ entry_in V (directory_block V h (p / 512)) (p % 512)
  entry-spare a p h at =
      ap (λ b. entry_in V1 b (p % 512)) (directory-frame V (spare_view V b v o) h h (p / 512) (blocks-spare a h at (p / 512)))
      ∙ by (cases_eq (directory_block V h (p / 512)) 0)
    where
      by : (directory_block V h (p / 512) ≡ 0) ⊎ (directory_block V h (p / 512) ≡ 0 → ⊥) → entry_in V1 (directory_block V h (p / 512)) (p % 512) ≡ entry_in V (directory_block V h (p / 512)) (p % 512)
      by (inl none) = ap (λ b. entry_in V1 b (p % 512)) none ∙ sym (ap (λ b. entry_in V b (p % 512)) none)
      by (inr there) =
          ap (λ w. cond (eqb (directory_block V h (p / 512)) 0) no_entry (entry_from w (p % 512)))
          (spare-block (directory_block V h (p / 512)) (λ e. apart a h (p / 512) at ((at-directory V h (p / 512) there).0 ∙ e)))

  pub entries-spare : (a p : ℕ) (x : Seen) → V.inode a ≡ x → entry_of (spare_view V b v o) x p ≡ entry_of V x p
  entries-spare a p (free f) at = refl
  entries-spare a p (used h) at = by h.kind
    where
      by : (kind : Kind) → entry_by V1 kind h p ≡ entry_by V kind h p
      by Directory = entry-spare a p h at
      by File = refl
      by Link = refl

  pub all-entries-spare : entry_at (spare_view V b v o) ≡ entry_at V
  all-entries-spare = λ z. λ a. λ p. entries-spare a p (V.inode a) refl z
