-- A symbolic link gets its text.
use Rattle.std.proofs.Common.{◌≡◌, ◌≢◌, ℕ, ◌+◌, ◌-◌, ◌/◌, ◌<◌, ◌≤◌, cond, List, length, take, replicate, Some, refl, sym, ap, subst, ◌⊎◌, inl, inr, ◌∙◌, arith, length-append}
use Rattle.std.proofs.lemmas.List.{take_at, length-replicate}
use Rattle.std.proofs.lemmas.Bool.{cases_eq, eq-eqb, ne_eqb}
use Rattle.journal_tree.specs.declared.reply.Kind.TheVariants.{Link}
use Rattle.journal_tree.specs.Trees.{Body, Tree, with_slot, with_node}
use Rattle.journal_tree.specs.Trees.Body.{link}
use Rattle.journal_treestore.specs.declared.owner.Owner.{Owner}
use Rattle.journal_treestore.specs.Entries.{no_entry}
use Rattle.journal_treestore.specs.Views.{Held, Seen, View, block_at, zero_block, bytes_in, bytes_of, body_of, slot_of, tree_of, entry_by, entry_of, entry_at, home_in, homes}
use Rattle.journal_treestore.specs.Views.Seen.{used}
use Rattle.journal_treestore.specs.Sound.{IsHung, IsSoundInode, IsSoundView}
use Rattle.journal_treestore.specs.Steps.{Filling, IsFilling, filled_held, text_block, filled_view, filled_node, FillingShows}
use Rattle.journal_treestore.proofs.Indexing.{at-direct, at-index, begin-index, first-after, plain-sound}
use Rattle.journal_treestore.proofs.Changing.{AreInodes, tree-inode, homes-inode, entries-inode, inodes-inode}
use Rattle.journal_treestore.proofs.Planting.{with_home-again}
use Rattle.journal_treestore.proofs.Spare.{spare_view, spare-block-here, spare-owner-here, inodes-spare, tree-spare, all-entries-spare}

text-long : (text : List ℕ) → length text ≤ 4096 → length (text_block text) ≡ 4096
text-long text few = length-append text (replicate (4096 - length text) 0) ∙ ap (λ n. length text + n) (length-replicate {A = ℕ} (4096 - length text) 0) ∙ omega (arith, few)

module _ (V : View) (f : Filling) (sound : IsSoundView V) (filling : IsFilling V f) where
  abbrev owner : Owner
  owner = record { number = f.n; place = 0 }

  abbrev U : View
  U = spare_view V f.b (text_block f.text) (record { number = f.n; place = 0 })

  abbrev k : Held
  k = filled_held f

  old : IsSoundInode V f.n f.h
  old = sound.inodes f.n f.h filling.is

  block : U.block f.b ≡ text_block f.text
  block = spare-block-here V sound f.b filling.some filling.unowned (text_block f.text) owner

  first-block : (j : ℕ) → j ≡ 0 → k.blocks j ≡ f.b
  first-block j is = ap (λ t. cond t f.b (f.h.blocks j)) (eq-eqb j 0 is)

  other-block : (j : ℕ) → j ≢ 0 → k.blocks j ≡ 0
  other-block j other =
      ap (λ t. cond t f.b (f.h.blocks j)) (ne_eqb j 0 other)
      ∙ first-after V f.n f.h old j (let s = filling.sized in let few = filling.few in omega (arith, s, few, other))

  none : f.h.index ≡ 0
  none = sym (at-index V f.h) ∙ old.after 2147483648 (subst (λ b. f.h.size ≤ b) (sym begin-index) (let s = filling.sized in let few = filling.few in omega (arith, s, few)))

  -- its inode is sound
  new : IsSoundInode U f.n k
  new =
      plain-sound U f.n k none (λ j past. other-block j (λ e. absurd (omega (arith, e, past))))
      (λ j some. owned j some (cases_eq j 0))
      (λ j some. there j some (cases_eq j 0))
      (λ j far. other-block j (λ e. absurd (let s = filling.sized in let long = filling.long in omega (arith, far, e, s, long))))
      (λ j some. sized j some (cases_eq j 0))
      (λ e. absurd (cc (sym filling.kind ∙ e)))
    where
      owned : (j : ℕ) → k.blocks j ≢ 0 → (j ≡ 0) ⊎ (j ≡ 0 → ⊥) → U.owner (k.blocks j) ≡ record { number = f.n; place = j }
      owned j some (inl is) = ap U.owner (first-block j is) ∙ spare-owner-here V sound f.b filling.some filling.unowned (text_block f.text) owner ∙ ap (λ j. record { number = f.n; place = j }) (sym is)
      owned j some (inr other) = absurd (some (other-block j other))

      there : (j : ℕ) → k.blocks j ≢ 0 → (j ≡ 0) ⊎ (j ≡ 0 → ⊥) → (V.first_data ≤ k.blocks j) × (k.blocks j < V.first_data + V.data_blocks)
      there j some (inl is) = subst (λ c. (V.first_data ≤ c) × (c < V.first_data + V.data_blocks)) (sym (first-block j is)) (filling.from, filling.to)
      there j some (inr other) = absurd (some (other-block j other))

      sized : (j : ℕ) → k.blocks j ≢ 0 → (j ≡ 0) ⊎ (j ≡ 0 → ⊥) → length (U.block (k.blocks j)) ≡ 4096
      sized j some (inl is) = ap (λ c. length (U.block c)) (first-block j is) ∙ ap length block ∙ text-long f.text (let few = filling.few in omega (arith, few))
      sized j some (inr other) = absurd (some (other-block j other))

  -- and has the text
  body : body_of U f.h.kind k ≡ link f.text
  body =
      ap (λ kind. body_of U kind k) filling.kind
      ∙ ap link (
      ap (λ n. take n (bytes_of U (block_at U k) ((n + 4095) / 4096))) filling.sized
      ∙ ap (λ n. take (length f.text) (bytes_of U (block_at U k) n)) one
      ∙ ap (λ b. take (length f.text) (bytes_in U b)) (at-direct U k 0 (omega arith) ∙ first-block 0 refl)
      ∙ ap (take (length f.text)) held
      ∙ take_at f.text (replicate (4096 - length f.text) 0) (length f.text) refl)
    where
      one : (length f.text + 4095) / 4096 ≡ 1
      one = let long = filling.long in let few = filling.few in omega (arith, long, few)

      held : bytes_in U f.b ≡ text_block f.text
      held = ap (λ t. cond t (zero_block) (U.block f.b)) (ne_eqb f.b 0 filling.some) ∙ block

  pub tree-filled : tree_of (filled_view V f) ≡ with_node (tree_of V) f.n (Some (filled_node f))
  tree-filled =
      tree-inode U f.n (used k)
      ∙ ap (λ (T : Tree). with_slot T f.n (slot_of U (used k))) (tree-spare V sound f.b filling.some filling.unowned (text_block f.text) owner)
      ∙ ap (λ (b : Body). with_slot (tree_of V) f.n (record { generation = f.h.generation; node = Some (record { attributes = f.h.attributes; home = f.h.home; body = b }) })) body
      ∙ ap (λ g. with_slot (tree_of V) f.n (record { generation = g; node = Some (filled_node f) })) (sym (ap (λ (y : Seen). (slot_of V y).generation) filling.is))

  pub inodes-filled : AreInodes (filled_view V f)
  inodes-filled = inodes-inode U f.n (used k) (inodes-spare V sound f.b filling.some filling.unowned (text_block f.text) owner) (λ g is. by g (cc))
    where
      by : (g : Held) → k ≡ g → IsSoundInode U f.n g
      by g is = subst (IsSoundInode U f.n) is new

  pub hung-filled : IsHung (homes (filled_view V f)) (entry_at (filled_view V f))
  hung-filled = subst (λ H. IsHung H (entry_at (filled_view V f))) (sym homes-are) (subst (IsHung (homes V)) (sym entries) sound.hung)
    where
      homes-are : homes (filled_view V f) ≡ homes V
      homes-are = homes-inode U f.n (used k) ∙ with_home-again (homes V) f.n (Some f.h.home) (ap home_in filling.is)

      none : (h : Held) → h.kind ≡ Link → (place : ℕ) → entry_by U h.kind h place ≡ no_entry
      none h kind place = ap (λ kind. entry_by U kind h place) kind

      entries : entry_at (filled_view V f) ≡ entry_at V
      entries =
          entries-inode U f.n (used k) (λ place. none k filling.kind place ∙ sym (ap (λ y. entry_of U y place) filling.is ∙ none f.h filling.kind place))
          ∙ all-entries-spare V sound f.b filling.some filling.unowned (text_block f.text) owner

pub filling-shows : FillingShows
filling-shows V f sound filling = record {
  tree = tree-filled V f sound filling;
  inodes = inodes-filled V f sound filling;
  hung = hung-filled V f sound filling;
}
