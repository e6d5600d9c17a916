-- A directory gets a block: it has the places of that, and a node may be put there at once.
use Rattle.std.proofs.Common.{◌≡◌, ◌≢◌, ℕ, ◌+◌, ◌*◌, ◌/◌, ◌<◌, ◌≤◌, true, cond, Option, Some, None, refl, sym, ap, subst, ◌⊎◌, inl, inr, ◌∙◌, arith}
use Rattle.std.specs.Prelude.{option_map, max, nat_lt}
use Rattle.std.proofs.lemmas.Bool.{cases_eq, cases_lt, eq-eqb, ne_eqb, lt-ltb, le-ltb}
use Rattle.journal_tree.specs.declared.limits.TheConstants.{MOST_PLACES}
use Rattle.journal_tree.specs.declared.time.Time.{Time}
use Rattle.journal_tree.specs.Trees.{Node, Tree, with_node, is_directory}
use Rattle.journal_tree.specs.Trees.Body.{directory}
use Rattle.journal_tree.specs.Rule.{stem_of, stems, IsTree, HasTree}
use Rattle.journal_tree.specs.Fit.{IsFit, HasFit}
use Rattle.journal_tree.specs.Changes.{grown_body, opened, touch_place}
use Rattle.journal_tree.proofs.Stems.{with_stem}
use Rattle.journal_tree.proofs.Bounds.{grown-body-fits}
use Rattle.journal_tree.proofs.Changing.{stems-with_slot, HasTree-place, same_generation}
use Rattle.journal_treestore.specs.declared.place.TheConstants.{MOST_DISK_BLOCKS, MOST_NUMBERS}
use Rattle.journal_treestore.specs.Views.{Held, Seen, View, body_of, node_of, slot_of, tree_of}
use Rattle.journal_treestore.specs.Sound.{IsSoundView}
use Rattle.journal_treestore.specs.Steps.{IsSameForm, IsNodeStep, IsGrowth, widened, widen, Shows, GrowingShows, GrowingStaysSound}
use Rattle.journal_treestore.proofs.Viewing.{inode-node}
use Rattle.journal_treestore.proofs.Stepping.{tree-step, shows-step}

-- the stems are those of a directory in which a name is put
same_stems : (T : Tree) (d place : ℕ) (now : Time) → stems (widen T d place) ≡ stems (touch_place T d place now)
same_stems T d place now =
    stems-with_slot T d (record { generation = (T.at d).generation; node = option_map (widened place) (T.at d).node })
    ∙ ap (with_stem (stems T) d) (by (T.at d).node)
    ∙ sym (stems-with_slot T d (record { generation = (T.at d).generation; node = option_map (opened place now) (T.at d).node }))
  where
    by : (o : Option Node) → option_map stem_of (option_map (widened place) o) ≡ option_map stem_of (option_map (opened place now) o)
    by None = refl
    by (Some x) = refl

widened-tree : (T : Tree) (d : ℕ) (x : Node) (place : ℕ) → HasTree T → (T.at d).node ≡ Some x → is_directory x.body ≡ true → HasTree (widen T d place)
widened-tree T d x place tree is kind = subst (IsTree T.numbers) (sym (same_stems T d place x.attributes.mtime)) (HasTree-place T d x place x.attributes.mtime tree is kind).0

widened-node : (place : ℕ) (x : Node) → place < MOST_PLACES → IsFit x → IsFit (widened place x)
widened-node place x low f = record { home = f.home; place = f.place; body = grown-body-fits place x.body low f.body; mode = f.mode; owner = f.owner; group = f.group; mtime = f.mtime; ctime = f.ctime; verifier = f.verifier }

widened-fit : (T : Tree) (d : ℕ) (x : Node) (place : ℕ) → (T.at d).node ≡ Some x → place < MOST_PLACES → HasFit T → HasFit (widen T d place)
widened-fit T d x place is low fit = record {
  nodes = λ n y at. nodes n y at (cases_eq n d);
  born = λ n y at. subst (λ g. 1 ≤ g) (sym (generation n)) (born n y at (cases_eq n d));
  young = λ n. subst (λ g. g ≤ 4294967295) (sym (generation n)) (fit.young n);
}
  where
    generation : (n : ℕ) → ((widen T d place).at n).generation ≡ (T.at n).generation
    generation n = same_generation T d n (option_map (widened place) (T.at d).node)

    here : (n : ℕ) → n ≡ d → ((widen T d place).at n).node ≡ Some (widened place x)
    here n same =
        ap (λ t. (cond t (record { generation = (T.at d).generation; node = option_map (widened place) (T.at d).node }) (T.at n)).node) (eq-eqb n d same)
        ∙ ap (option_map (widened place)) is

    other : (n : ℕ) → n ≢ d → ((widen T d place).at n).node ≡ (T.at n).node
    other n apart = ap (λ t. (cond t (record { generation = (T.at d).generation; node = option_map (widened place) (T.at d).node }) (T.at n)).node) (ne_eqb n d apart)

    nodes : (n : ℕ) (y : Node) → ((widen T d place).at n).node ≡ Some y → (n ≡ d) ⊎ (n ≡ d → ⊥) → IsFit y
    nodes n y at (inl same) = let e : Some (widened place x) ≡ Some y = sym (here n same) ∙ at in let q : widened place x ≡ y = cc in subst IsFit q (widened-node place x low (fit.nodes d x is))
    nodes n y at (inr apart) = fit.nodes n y (sym (other n apart) ∙ at)

    born : (n : ℕ) (y : Node) → ((widen T d place).at n).node ≡ Some y → (n ≡ d) ⊎ (n ≡ d → ⊥) → 1 ≤ (T.at n).generation
    born n y at (inl same) = fit.born n x (ap (λ i. (T.at i).node) same ∙ is)
    born n y at (inr apart) = fit.born n y (sym (other n apart) ∙ at)

-- the greater of two numbers
larger : (a b : ℕ) → b ≤ a → max a b ≡ a
larger a b less = grind arith

smaller : (a b : ℕ) → a ≤ b → max a b ≡ b
smaller a b less = grind arith

module _ (V W : View) (d : ℕ) (h k : Held) (j : ℕ) (sound : IsSoundView V) (growth : IsGrowth V W d h k j) where
  step : IsNodeStep V W d h k
  step = growth.step

  -- the tree's directory has the places
  pub tree-grown : (q : ℕ) → q < 512 → tree_of W ≡ widen (tree_of V) d (512 * j + q)
  tree-grown q low =
      tree-step V W d h k sound step
      ∙ ap (λ x. with_node (tree_of V) d (Some x)) (sym node)
      ∙ ap (λ (y : Seen). with_node (tree_of V) d (option_map (widened (512 * j + q)) (slot_of V y).node)) (sym step.is)
    where
      sized : max h.size (4096 * (j + 1)) / 8 ≡ k.size / 8
      sized = ap (λ n. n / 8) (sym growth.size)

      whole : (blocks : ℕ) × (h.size ≡ 4096 * blocks)
      whole = (sound.inodes d h step.is).whole growth.kind

      grows : grown_body (512 * j + q) (body_of V h.kind h) ≡ body_of W k.kind k
      grows =
          ap (λ kind. grown_body (512 * j + q) (body_of V kind h)) growth.kind
          ∙ ap directory (by (cases_lt (512 * j + q) (h.size / 8)))
          ∙ sym (ap (λ kind. body_of W kind k) growth.still)
        where
          by : (512 * j + q < h.size / 8) ⊎ (h.size / 8 ≤ 512 * j + q) → cond (nat_lt (512 * j + q) (h.size / 8)) (h.size / 8) (512 * ((512 * j + q) / 512 + 1)) ≡ k.size / 8
          by (inl inside) =
              ap (λ t. cond t (h.size / 8) (512 * ((512 * j + q) / 512 + 1))) (lt-ltb (512 * j + q) (h.size / 8) inside)
              ∙ ap (λ n. n / 8) (sym (larger h.size (4096 * (j + 1)) (let e = whole.1 in omega (arith, e, inside, low))))
              ∙ sized
          by (inr past) =
              ap (λ t. cond t (h.size / 8) (512 * ((512 * j + q) / 512 + 1))) (le-ltb (512 * j + q) (h.size / 8) past)
              ∙ (let e : 512 * ((512 * j + q) / 512 + 1) ≡ 4096 * (j + 1) / 8 = omega (arith, low) in e)
              ∙ ap (λ n. n / 8) (sym (smaller h.size (4096 * (j + 1)) (let e = whole.1 in omega (arith, e, past, low))))
              ∙ sized

      node : widened (512 * j + q) (node_of V h) ≡ node_of W k
      node = λ z. record { attributes = sym growth.attributes z; home = sym step.home z; body = grows z }

  pub growing-is-shown : (q : ℕ) → q < 512 → Shows W (widen (tree_of V) d (512 * j + q))
  growing-is-shown q low = let shows = shows-step V W d h k sound step in record { tree = tree-grown q low; inodes = shows.inodes; hung = shows.hung }

pub growing-shows : GrowingShows
growing-shows V W d h k j q sound growth low = growing-is-shown V W d h k j sound growth q low

pub growing-stays-sound : GrowingStaysSound
growing-stays-sound V W d h k j sound growth = record {
  few_numbers = subst (λ n. n ≤ MOST_NUMBERS) (sym form.numbers) sound.few_numbers;
  few_blocks = subst (λ n. n ≤ MOST_DISK_BLOCKS) (sym (ap (λ n. n + W.data_blocks) form.first_data ∙ ap (λ n. V.first_data + n) form.data_blocks)) sound.few_blocks;
  no_data = subst (λ n. 1 ≤ n) (sym form.first_data) sound.no_data;
  tree = subst HasTree (sym shows.tree) (widened-tree (tree_of V) d (node_of V h) (512 * j + 0) sound.tree node kind);
  fit = subst HasFit (sym shows.tree) (widened-fit (tree_of V) d (node_of V h) (512 * j + 0) node (let f = growth.few in omega (arith, f)) sound.fit);
  inodes = shows.inodes;
  hung = shows.hung;
}
  where
    form : IsSameForm V W
    form = growth.step.form

    shows : Shows W (widen (tree_of V) d (512 * j + 0))
    shows = growing-is-shown V W d h k j sound growth 0 (omega arith)

    node : ((tree_of V).at d).node ≡ Some (node_of V h)
    node = inode-node V d h growth.step.is

    kind : is_directory (node_of V h).body ≡ true
    kind = ap (λ k. is_directory (body_of V k h)) growth.kind
