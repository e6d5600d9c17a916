-- A view whose only inode in use is an empty root's has a sound tree.
use Rattle.std.proofs.Common.{ℕ, ◌≡◌, ◌≢◌, ◌≤◌, ◌/◌, ◌%◌, ◌==◌, inl, Bool, true, false, cond, List, [], option_map, Some, None, refl, sym, ap, subst, ◌∙◌, arith}
use Rattle.std.specs.Prelude.{nat_lt}
use Rattle.std.proofs.lemmas.Bool.{eqb-true}
use Rattle.journal_tree.specs.declared.limits.TheConstants.{ROOT}
use Rattle.journal_tree.specs.Trees.{Home, Node, Slot, Tree}
use Rattle.journal_tree.specs.Rule.{IsTree, HasTree, stem_of, stems, first_root, first_tree}
use Rattle.journal_tree.specs.Fit.{IsFit, HasFit}
use Rattle.journal_tree.proofs.Pages.{begins}
use Rattle.journal_treestore.specs.declared.entry.Entry.{Entry}
use Rattle.journal_treestore.specs.Entries.{no_entry}
use Rattle.journal_treestore.specs.Owners.{no_owner}
use Rattle.journal_treestore.specs.Places.{first_data, data_blocks}
use Rattle.journal_treestore.specs.Views.{Held, Seen, View, held_of, block_at, directory_block, slot_of, tree_of, entry_in, entry_of, entry_at, home_in, homes}
use Rattle.journal_treestore.specs.Views.Seen.{free, used}
use Rattle.journal_treestore.proofs.Indexing.{no-index}
use Rattle.journal_treestore.specs.Sound.{IsHung, IsSoundInode, IsSoundView}
use Rattle.journal_treeform.specs.declared.new_tree.NewTree.{NewTree}
use Rattle.journal_treeform.specs.NewDisks.{root_head, new_root, new_tree, IsPossible}
use Rattle.journal_treeform.proofs.Zeros.{zero-item}

abbrev pub root_held : NewTree → Held
root_held t = held_of (root_head t) []

abbrev pub new_inode : NewTree → ℕ → Seen
new_inode t n = cond (n == ROOT) (used (root_held t)) (free 0)

-- such a view: what its blocks hold counts for nothing
abbrev pub new_view : NewTree → (ℕ → List ℕ) → View
new_view t block = record {
  numbers = t.cut.numbers;
  first_data = first_data t.cut;
  data_blocks = data_blocks t.cut;
  inode = new_inode t;
  owner = λ b. no_owner;
  block = block;
}

-- what the number of the root has, where it is this node, and what all others have
abbrev slot_by : Node → Bool → Slot
slot_by x b = cond b (record { generation = 1; node = Some x }) (record { generation = 0; node = None })

module _ (t : NewTree) (p : IsPossible t) where
  -- ── the tree ──

  abbrev T : Tree
  T = new_tree t

  same-stems : (n : ℕ) → stems T n ≡ stems (first_tree t.cut.numbers (data_blocks t.cut) t.made) n
  same-stems n = by (n == ROOT)
    where
      by : (b : Bool) → option_map stem_of (slot_by (new_root t) b).node ≡ option_map stem_of (slot_by (first_root t.made) b).node
      by true = refl
      by false = refl

  is-tree : HasTree T
  is-tree = subst (IsTree t.cut.numbers) (sym (λ z n. same-stems n z)) (begins t.cut.numbers (data_blocks t.cut) t.made p.cut.rooted)

  is-fit : HasFit T
  is-fit = record {
    nodes = λ n x is. node (n == ROOT) x is;
    born = λ n x is. old (n == ROOT) x is;
    young = λ n. young (n == ROOT);
  }
    where
      node : (b : Bool) (x : Node) → (slot_by (new_root t) b).node ≡ Some x → IsFit x
      node true x is =
          let e : new_root t ≡ x = cc (is) in
          subst IsFit e (record { home = inl refl; place = omega arith; body = (omega arith, (0, refl)); mode = p.mode; owner = p.owner; group = p.group; mtime = p.made; ctime = p.made; verifier = tt })
      node false x is = absurd (cc (is))

      old : (b : Bool) (x : Node) → (slot_by (new_root t) b).node ≡ Some x → 1 ≤ (slot_by (new_root t) b).generation
      old true x is = omega arith
      old false x is = absurd (cc (is))

      young : (b : Bool) → (slot_by (new_root t) b).generation ≤ 4294967295
      young true = omega arith
      young false = omega arith

  module _ (block : ℕ → List ℕ) where
    abbrev V : View
    V = new_view t block

    pub tree-is : tree_of V ≡ T
    tree-is = λ z. record { numbers = t.cut.numbers; blocks = data_blocks t.cut; at = λ n. at (n == ROOT) z }
      where
        at : (b : Bool) → slot_of V (cond b (used (root_held t)) (free 0)) ≡ slot_by (new_root t) b
        at true = refl
        at false = refl

    -- ── the root ──

    no-block : (j : ℕ) → (root_held t).blocks j ≡ 0
    no-block j = zero-item 48 j

    none-at : (p : ℕ) → block_at V (root_held t) p ≡ 0
    none-at p = no-index V (root_held t) refl (λ j _. no-block j) p ∙ no-block p

    root-sound : IsSoundInode V ROOT (root_held t)
    root-sound = record {
      owned = λ p some. absurd (some (none-at p));
      there = λ p some. absurd (some (none-at p));
      after = λ p _. none-at p;
      sized = λ p some. absurd (some (none-at p));
      whole = λ _. (0, refl);
      first = λ j _. no-block j;
    }

    inodes : (n : ℕ) (h : Held) → V.inode n ≡ used h → IsSoundInode V n h
    inodes n h is = by (n == ROOT) refl is
      where
        by : (b : Bool) → (n == ROOT) ≡ b → cond b (used (root_held t)) (free 0) ≡ used h → IsSoundInode V n h
        by true root is = let e : root_held t ≡ h = cc (is) in subst (λ k. IsSoundInode V k h) (sym (eqb-true n ROOT root)) (subst (IsSoundInode V ROOT) e root-sound)
        by false other is = absurd (cc (is))

    -- ── entries ──

    none-there : (j : ℕ) → directory_block V (root_held t) j ≡ 0
    none-there j = by (nat_lt j 388)
      where
        by : (b : Bool) → cond b (block_at V (root_held t) j) 0 ≡ 0
        by true = none-at j
        by false = refl

    bare : (d place : ℕ) → entry_at V d place ≡ no_entry
    bare d place = by (d == ROOT)
      where
        by : (b : Bool) → entry_of V (cond b (used (root_held t)) (free 0)) place ≡ no_entry
        by true = ap (λ b. entry_in V b (place % 512)) (none-there (place / 512))
        by false = refl

    is-hung : IsHung (homes V) (entry_at V)
    is-hung = record {
      second = λ _. None;
      back = λ d place some. absurd (some (ap (λ (e : Entry). e.number) (bare d place)));
      hung = λ n home is other. absurd (apart n home (n == ROOT) refl is other);
      seconds = λ n home is other. absurd (apart n home (n == ROOT) refl is other);
      blank = λ d place _. bare d place;
    }
      where
        apart : (n : ℕ) (home : Home) (b : Bool) → (n == ROOT) ≡ b → home_in (cond b (used (root_held t)) (free 0)) ≡ Some home → n ≢ ROOT → ⊥
        apart n home true root is other = other (eqb-true n ROOT root)
        apart n home false root is other = cc (is)

    pub is-sound : IsSoundView V
    is-sound = record {
      few_numbers = p.cut.few_numbers;
      few_blocks = omega (arith, p.cut.few, p.cut.some_data, p.cut.room.later, p.cut.room.records);
      no_data = omega arith;
      tree = subst HasTree (sym tree-is) is-tree;
      fit = subst HasFit (sym tree-is) is-fit;
      inodes = inodes;
      hung = is-hung;
    }
