-- A disk that gets more blocks stays sound, and shows the same nodes.
use Rattle.std.proofs.Common.{◌≡◌, ◌≢◌, ◌<◌, ◌≤◌, ℕ, ◌+◌, ◌/◌, ◌%◌, cond, eqb, length, take, Some, refl, sym, ap, subst, ◌⊎◌, inl, inr, ◌∙◌, arith}
use Rattle.std.proofs.lemmas.Bool.{cases_eq}
use Rattle.journal_tree.specs.declared.reply.Kind.{Kind}
use Rattle.journal_tree.specs.declared.reply.Kind.TheVariants.{Directory, File, Link}
use Rattle.journal_tree.specs.Trees.{Tree}
use Rattle.journal_tree.specs.Trees.Body.{file, link}
use Rattle.journal_tree.specs.Rule.{HasTree}
use Rattle.journal_tree.specs.Fit.{HasFit}
use Rattle.journal_treestore.specs.Entries.{no_entry, entry_from}
use Rattle.journal_treestore.specs.Views.{Held, Seen, View, block_at, bytes_of, body_of, slot_of, tree_of, directory_block, entry_in, entry_by, entry_of, entry_at, home_in, homes}
use Rattle.journal_treestore.specs.Views.Seen.{free, used}
use Rattle.journal_treestore.specs.Sound.{IsHung, IsSoundInode, IsSoundView}
use Rattle.journal_treestore.specs.Growths.{IsGrownView, with_blocks, GrowthKeepsTheTree}
use Rattle.journal_treestore.proofs.Indexing.{block_at-frame, bytes_of-frame, bytes_in-frame}
use Rattle.journal_treestore.proofs.Changing.{at-directory, directory-frame}

-- the rules of a tree say nothing of how many blocks there are
tree-wider : (T : Tree) (blocks : ℕ) → HasTree T → HasTree (with_blocks T blocks)
tree-wider T blocks tree = tree

fit-wider : (T : Tree) (blocks : ℕ) → HasFit T → HasFit (with_blocks T blocks)
fit-wider T blocks fit = record { nodes = fit.nodes; born = fit.born; young = fit.young }

module _ (V W : View) (sound : IsSoundView V) (g : IsGrownView V W) where
  -- a block of a sound inode has the same bytes
  same-block : (n : ℕ) (h : Held) (p : ℕ) → V.inode n ≡ used h → block_at V h p ≢ 0 → W.block (block_at V h p) ≡ V.block (block_at V h p)
  same-block n h p is some = let there = (sound.inodes n h is).there p some in g.blocks (block_at V h p) there.0 there.1

  -- so it has the same blocks
  same-blocks : (n : ℕ) (h : Held) → V.inode n ≡ used h → (p : ℕ) → block_at W h p ≡ block_at V h p
  same-blocks n h is = block_at-frame V W h (λ p _ some. same-block n h p is some)

  was : (n : ℕ) (h : Held) → V.inode n ≡ used h → (p : ℕ) → block_at W h p ≢ 0 → block_at V h p ≢ 0
  was n h is p some e = some (same-blocks n h is p ∙ e)

  ends : (b : ℕ) → b < V.first_data + V.data_blocks → b < W.first_data + W.data_blocks
  ends b low = omega (arith, low, g.first_data, g.more)

  -- and is as sound
  inode-sound : (n : ℕ) (h : Held) → V.inode n ≡ used h → IsSoundInode W n h
  inode-sound n h is = let s = sound.inodes n h is in record {
    owned = λ p some. let t = was n h is p some in subst (λ b. W.owner b ≡ record { number = n; place = p }) (sym (same-blocks n h is p)) (g.owners (block_at V h p) (s.there p t).1 ∙ s.owned p t);
    there = λ p some. let t = was n h is p some in subst (λ b. (W.first_data ≤ b) × (b < W.first_data + W.data_blocks)) (sym (same-blocks n h is p)) (
      subst (λ f. f ≤ block_at V h p) (sym g.first_data) (s.there p t).0,
      ends (block_at V h p) (s.there p t).1,
    );
    after = λ p far. same-blocks n h is p ∙ s.after p far;
    sized = λ p some. let t = was n h is p some in subst (λ b. length (W.block b) ≡ 4096) (sym (same-blocks n h is p)) (ap length (same-block n h p is t) ∙ s.sized p t);
    whole = s.whole;
    first = s.first;
  }

  -- ── the tree ──

  same-bytes : (n : ℕ) (h : Held) → V.inode n ≡ used h → (l : ℕ) → bytes_of W (block_at W h) l ≡ bytes_of V (block_at V h) l
  same-bytes n h is l =
      bytes_of-frame V W (block_at W h) (block_at V h) (λ j. bytes_in-frame V W (block_at V h j) (block_at W h j) (same-blocks n h is j) (same-block n h j is)) l

  same-body : (n : ℕ) (h : Held) → V.inode n ≡ used h → (kind : Kind) → body_of W kind h ≡ body_of V kind h
  same-body n h is Directory = refl
  same-body n h is File = ap (λ w. file (take h.size w)) (same-bytes n h is ((h.size + 4095) / 4096))
  same-body n h is Link = ap (λ w. link (take h.size w)) (same-bytes n h is ((h.size + 4095) / 4096))

  same-slot : (n : ℕ) (x : Seen) → V.inode n ≡ x → slot_of W x ≡ slot_of V x
  same-slot n (free a) is = refl
  same-slot n (used h) is = λ z. record { generation = h.generation; node = Some (record { attributes = h.attributes; home = h.home; body = same-body n h is h.kind z }) }

  same-tree : tree_of W ≡ with_blocks (tree_of V) W.data_blocks
  same-tree = λ z. record { numbers = g.numbers z; blocks = W.data_blocks; at = λ n. (ap (slot_of W) (g.inodes n) ∙ same-slot n (V.inode n) refl) z }

  -- ── entries ──

  same-entry : (d p : ℕ) (h : Held) → V.inode d ≡ used h → (kind : Kind) → entry_by W kind h p ≡ entry_by V kind h p
  same-entry d p h is Directory = ap (λ b. entry_in W b (p % 512)) (directory-frame V W h h (p / 512) (same-blocks d h is (p / 512))) ∙ in_block (cases_eq (directory_block V h (p / 512)) 0)
    where
      in_block : (directory_block V h (p / 512) ≡ 0) ⊎ (directory_block V h (p / 512) ≡ 0 → ⊥) → entry_in W (directory_block V h (p / 512)) (p % 512) ≡ entry_in V (directory_block V h (p / 512)) (p % 512)
      in_block (inl none) = ap (λ b. entry_in W b (p % 512)) none ∙ sym (ap (λ b. entry_in V b (p % 512)) none)
      in_block (inr some) =
          let at = (at-directory V h (p / 512) some).0 in
          ap (λ w. cond (eqb (directory_block V h (p / 512)) 0) no_entry (entry_from w (p % 512)))
          (subst (λ b. W.block b ≡ V.block b) at (same-block d h (p / 512) is (λ e. some (sym at ∙ e))))
  same-entry d p h is File = refl
  same-entry d p h is Link = refl

  seen-entry : (d p : ℕ) (x : Seen) → V.inode d ≡ x → entry_of W x p ≡ entry_of V x p
  seen-entry d p (free f) is = refl
  seen-entry d p (used h) is = same-entry d p h is h.kind

  same-entries : entry_at W ≡ entry_at V
  same-entries = λ z. λ d. λ p. (ap (λ (x : Seen). entry_of W x p) (g.inodes d) ∙ seen-entry d p (V.inode d) refl) z

  same-homes : homes W ≡ homes V
  same-homes = λ z. λ n. home_in (g.inodes n z)

  pub grown-sound : IsSoundView W × (tree_of W ≡ with_blocks (tree_of V) W.data_blocks)
  grown-sound = (
    record {
      few_numbers = omega (arith, sound.few_numbers, g.numbers);
      few_blocks = g.few;
      no_data = omega (arith, sound.no_data, g.first_data);
      tree = subst HasTree (sym same-tree) (tree-wider (tree_of V) W.data_blocks sound.tree);
      fit = subst HasFit (sym same-tree) (fit-wider (tree_of V) W.data_blocks sound.fit);
      inodes = λ n h is. inode-sound n h (sym (g.inodes n) ∙ is);
      hung = subst (λ H. IsHung H (entry_at W)) (sym same-homes) (subst (IsHung (homes V)) (sym same-entries) sound.hung);
    },
    same-tree,
  )

pub growth-keeps : GrowthKeepsTheTree
growth-keeps V W sound g = grown-sound V W sound g
