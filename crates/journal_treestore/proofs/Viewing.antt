-- Nodes and their inodes, and what a search of a directory's entries finds.
use Rattle.std.proofs.Common.{◌≡◌, ◌≢◌, ℕ, ◌*◌, ◌/◌, ◌%◌, ◌<◌, ◌≤◌, List, Option, Some, None, refl, sym, ap, subst, ◌⊎◌, inl, inr, ◌∙◌, arith}
use Rattle.std.proofs.lemmas.Bool.{cases_lt}
use Rattle.journal_tree.specs.declared.limits.TheConstants.{ROOT}
use Rattle.journal_tree.specs.declared.reply.Kind.TheVariants.{Directory}
use Rattle.journal_tree.specs.Trees.{Home, Node, root_home, find, find_place}
use Rattle.journal_tree.specs.Rule.{Stem, stem_of}
use Rattle.journal_tree.proofs.Finding.{find-some, find-none, find_place-some}
use Rattle.journal_tree.proofs.Changing.{stem_from_node}
use Rattle.journal_tree.proofs.Hanging.{low, one_name}
use Rattle.journal_treestore.specs.declared.entry.Entry.{Entry}
use Rattle.journal_treestore.specs.declared.owner.Owner.{Owner}
use Rattle.journal_treestore.specs.Entries.{tag_of, no_entry}
use Rattle.journal_treestore.specs.Levels.{IsBlockFor}
use Rattle.journal_treestore.specs.Views.{Held, Seen, View, node_of, slot_of, tree_of, entry_in, entry_by, entry_of, entry_at, home_in, homes}
use Rattle.journal_treestore.specs.Views.Seen.{free, used}
use Rattle.journal_treestore.specs.Sound.{entry_for, IsEntryOf, HasSecond, IsSoundInode, IsSoundView}
use Rattle.journal_treestore.specs.Lookups.{IsMiss, BlocksAreHadOnce}
use Rattle.journal_treestore.proofs.Indexing.{directory-after}

-- the inode of a node
pub node-inode : (V : View) (i : ℕ) (x : Node) → ((tree_of V).at i).node ≡ Some x → (h : Held) × (V.inode i ≡ used h) × (node_of V h ≡ x)
node-inode V i x is = by (V.inode i) refl
  where
    by : (y : Seen) → V.inode i ≡ y → (h : Held) × (V.inode i ≡ used h) × (node_of V h ≡ x)
    by (free g) at = absurd (cc (sym is ∙ ap (λ (y : Seen). (slot_of V y).node) at))
    by (used h) at = let e : Some (node_of V h) ≡ Some x = sym (ap (λ (y : Seen). (slot_of V y).node) at) ∙ is in (h, at, cc)

-- and the node of an inode
pub inode-node : (V : View) (i : ℕ) (h : Held) → V.inode i ≡ used h → ((tree_of V).at i).node ≡ Some (node_of V h)
inode-node V i h is = ap (λ (y : Seen). (slot_of V y).node) is

pub blocks-once : BlocksAreHadOnce
blocks-once V n m g h i j a b some same =
    let x = a.owned i some in
    let y = b.owned j (λ e. some (same ∙ e)) in
    let o = sym x ∙ ap V.owner same ∙ y in
    (ap (λ (o : Owner). o.number) o, ap (λ (o : Owner). o.place) o)

module _ (V : View) (sound : IsSoundView V) where
  -- number 0 has no node
  pub zero_free : homes V 0 ≡ None
  zero_free = by (V.inode 0) refl
    where
      by : (x : Seen) → V.inode 0 ≡ x → homes V 0 ≡ None
      by (free g) at = ap home_in at
      by (used h) at = absurd (cc (sym sound.tree.zero ∙ stem_from_node (tree_of V) 0 (node_of V h) (inode-node V 0 h at)))

  pub used_some : (n : ℕ) (h : Held) → V.inode n ≡ used h → n ≢ 0
  used_some n h is e = absurd (cc (sym zero_free ∙ ap (homes V) (sym e) ∙ ap home_in is))

  -- the root hangs in no directory
  pub root_apart : (d : ℕ) (h g : Held) → V.inode d ≡ used h → V.inode ROOT ≡ used g → g.home.directory ≢ d
  root_apart d h g is at e =
      let s : Some (stem_of (node_of V g)) ≡ Some (record { home = root_home; places = Some sound.tree.root.places }) = sym (stem_from_node (tree_of V) ROOT (node_of V g) (inode-node V ROOT g at)) ∙ sound.tree.root.is in
      let t : stem_of (node_of V g) ≡ record { home = root_home; places = Some sound.tree.root.places } = cc in
      used_some d h is (sym e ∙ ap (λ (s : Stem). s.home.directory) t)

  -- the entry of a node
  pub entry_of_node : (d i : ℕ) (h g : Held) → V.inode d ≡ used h → V.inode i ≡ used g → g.home.directory ≡ d → entry_at V d g.home.place ≡ entry_for i g.home
  entry_of_node d i h g is at directory =
      ap (λ d. entry_at V d g.home.place) (sym directory)
      ∙ sound.hung.hung i g.home (ap home_in at) (λ e. root_apart d h g is (ap V.inode (sym e) ∙ at) directory)

  -- an entry whose inode has the name is found
  pub finds : (d place : ℕ) (name : List ℕ) (g : Held) → (entry_at V d place).number ≢ 0 → V.inode (entry_at V d place).number ≡ used g → g.home.name ≡ name → find (tree_of V) d name ≡ Some (entry_at V d place).number
  finds d place name g some at named = by (find (tree_of V) d name) refl
    where
      o : IsEntryOf (homes V) sound.hung.second d place (entry_at V d place)
      o = sound.hung.back d place some

      home : g.home ≡ o.home
      home = let e : Some g.home ≡ Some o.home = sym (ap home_in at) ∙ o.is in cc

      directory : g.home.directory ≡ d
      directory = ap (λ (h : Home). h.directory) home ∙ o.directory

      node : ((tree_of V).at (entry_at V d place).number).node ≡ Some (node_of V g)
      node = inode-node V (entry_at V d place).number g at

      by : (f : Option ℕ) → find (tree_of V) d name ≡ f → f ≡ Some (entry_at V d place).number
      by None is = absurd (find-none (tree_of V) d name (entry_at V d place).number (node_of V g) is (low (tree_of V) (entry_at V d place).number (node_of V g) sound.tree node) node directory named)
      by (Some m) is =
          let h = find-some (tree_of V) d name m is in
          ap Some (one_name (tree_of V) m (entry_at V d place).number h.0 (node_of V g) sound.tree h.1 node (h.2 ∙ sym directory) (h.3 ∙ sym named))

  -- where an entry is not at the place of its node's home, no node hangs there
  pub not_home : (d place i : ℕ) (h g : Held) → V.inode d ≡ used h → V.inode i ≡ used g → (entry_at V d place).number ≡ i → g.home.place ≢ place → find_place (tree_of V) d place ≡ None
  not_home d place i h g is at names other = by (find_place (tree_of V) d place) refl
    where
      by : (f : Option ℕ) → find_place (tree_of V) d place ≡ f → f ≡ None
      by None found = refl
      by (Some m) found = absurd (other (ap (λ (g : Held). g.home.place) same ∙ ap (λ (h : Home). h.place) home_is ∙ f.3))
        where
          f : (x : Node) × (((tree_of V).at m).node ≡ Some x) × (x.home.directory ≡ d) × (x.home.place ≡ place)
          f = find_place-some (tree_of V) d place m found

          inode : (g : Held) × (V.inode m ≡ used g) × (node_of V g ≡ f.0)
          inode = node-inode V m f.0 f.1

          home_is : inode.0.home ≡ f.0.home
          home_is = ap (λ (x : Node). x.home) inode.2

          e : entry_at V d inode.0.home.place ≡ entry_for m inode.0.home
          e = entry_of_node d m h inode.0 is inode.1 (ap (λ (h : Home). h.directory) home_is ∙ f.2)

          number : i ≡ m
          number = sym names ∙ ap (λ p. (entry_at V d p).number) (sym (ap (λ (h : Home). h.place) home_is ∙ f.3)) ∙ ap (λ (e : Entry). e.number) e

          same : g ≡ inode.0
          same = let q : used g ≡ used inode.0 = sym at ∙ ap V.inode number ∙ inode.1 in cc

  -- where a directory has no place there is no entry
  pub none_after : (d place : ℕ) (h : Held) → V.inode d ≡ used h → h.kind ≡ Directory → h.size / 8 ≤ place → entry_at V d place ≡ no_entry
  none_after d place h is kind after =
      ap (λ y. entry_of V y place) is
      ∙ ap (λ kind. entry_by V kind h place) kind
      ∙ ap (λ b. entry_in V b (place % 512)) (directory-after V d h s (place / 512) far)
    where
      s : IsSoundInode V d h
      s = sound.inodes d h is

      far : h.size ≤ 4096 * (place / 512)
      far = let w = s.whole kind in let e = w.1 in omega (arith, e, after)

  -- an entry that a directory has lies within it
  inside : (d place : ℕ) (h : Held) → V.inode d ≡ used h → h.kind ≡ Directory → (entry_at V d place).number ≢ 0 → place < h.size / 8
  inside d place h is kind some = cases (cases_lt place (h.size / 8))
    where
      cases : (place < h.size / 8) ⊎ (h.size / 8 ≤ place) → place < h.size / 8
      cases (inl low) = low
      cases (inr after) = absurd (some (ap (λ (e : Entry). e.number) (none_after d place h is kind after)))

  -- a node has an entry where its name may lie
  pub entry_for_name : (d i : ℕ) (h g : Held) → V.inode d ≡ used h → V.inode i ≡ used g → g.home.directory ≡ d → (place : ℕ) × IsBlockFor (tag_of g.home.name) (place / 512) × (entry_at V d place ≡ entry_for i g.home)
  entry_for_name d i h g is at directory = by (sound.hung.second i) (sound.hung.seconds i g.home (ap home_in at) (λ e. root_apart d h g is (ap V.inode (sym e) ∙ at) directory))
    where
      by : (o : Option ℕ) → HasSecond (entry_at V) i g.home o → (place : ℕ) × IsBlockFor (tag_of g.home.name) (place / 512) × (entry_at V d place ≡ entry_for i g.home)
      by None block = (g.home.place, block, entry_of_node d i h g is at directory)
      by (Some place) more = (place, more.block, ap (λ d. entry_at V d place) (sym directory) ∙ more.is)

  -- where no entry with the name's tag in a block for it is of a node of that name, there is none
  pub misses : (d : ℕ) (name : List ℕ) (h : Held) → V.inode d ≡ used h → h.kind ≡ Directory → IsMiss V d h name → find (tree_of V) d name ≡ None
  misses d name h is kind miss = by (find (tree_of V) d name) refl
    where
      impossible : (m : ℕ) → find (tree_of V) d name ≡ Some m → ⊥
      impossible m at = miss e.0 g (inside d e.0 h is kind some) (subst (λ n. IsBlockFor (tag_of n) (e.0 / 512)) named e.1) some tag node named
        where
          f : (x : Node) × (((tree_of V).at m).node ≡ Some x) × (x.home.directory ≡ d) × (x.home.name ≡ name)
          f = find-some (tree_of V) d name m at

          inode : (g : Held) × (V.inode m ≡ used g) × (node_of V g ≡ f.0)
          inode = node-inode V m f.0 f.1

          g : Held
          g = inode.0

          home_is : g.home ≡ f.0.home
          home_is = ap (λ (x : Node). x.home) inode.2

          named : g.home.name ≡ name
          named = ap (λ (h : Home). h.name) home_is ∙ f.3

          e : (place : ℕ) × IsBlockFor (tag_of g.home.name) (place / 512) × (entry_at V d place ≡ entry_for m g.home)
          e = entry_for_name d m h g is inode.1 (ap (λ (h : Home). h.directory) home_is ∙ f.2)

          number : (entry_at V d e.0).number ≡ m
          number = ap (λ (e : Entry). e.number) e.2

          some : (entry_at V d e.0).number ≢ 0
          some z = used_some m g inode.1 (sym number ∙ z)

          tag : (entry_at V d e.0).tag ≡ tag_of name
          tag = ap (λ (e : Entry). e.tag) e.2 ∙ ap tag_of named

          node : V.inode (entry_at V d e.0).number ≡ used g
          node = ap V.inode number ∙ inode.1

      by : (f : Option ℕ) → find (tree_of V) d name ≡ f → f ≡ None
      by None at = refl
      by (Some m) at = absurd (impossible m at)

  -- where a directory has no entry at a place, no node hangs there
  pub no_node_at : (d place : ℕ) (h : Held) → V.inode d ≡ used h → (entry_at V d place).number ≡ 0 → find_place (tree_of V) d place ≡ None
  no_node_at d place h is empty = by (find_place (tree_of V) d place) refl
    where
      impossible : (m : ℕ) → find_place (tree_of V) d place ≡ Some m → ⊥
      impossible m at = used_some m inode.0 inode.1 (sym (ap (λ (e : Entry). e.number) e) ∙ ap (λ p. (entry_at V d p).number) (ap (λ (h : Home). h.place) home_is ∙ f.3) ∙ empty)
        where
          f : (x : Node) × (((tree_of V).at m).node ≡ Some x) × (x.home.directory ≡ d) × (x.home.place ≡ place)
          f = find_place-some (tree_of V) d place m at

          inode : (g : Held) × (V.inode m ≡ used g) × (node_of V g ≡ f.0)
          inode = node-inode V m f.0 f.1

          home_is : inode.0.home ≡ f.0.home
          home_is = ap (λ (x : Node). x.home) inode.2

          e : entry_at V d inode.0.home.place ≡ entry_for m inode.0.home
          e = entry_of_node d m h inode.0 is inode.1 (ap (λ (h : Home). h.directory) home_is ∙ f.2)

      by : (f : Option ℕ) → find_place (tree_of V) d place ≡ f → f ≡ None
      by None at = refl
      by (Some m) at = absurd (impossible m at)
