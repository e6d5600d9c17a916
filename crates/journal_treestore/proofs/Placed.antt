-- A node hangs where an entry names it.
use Rattle.std.proofs.Common.{◌≡◌, ◌≢◌, ℕ, ◌/◌, ◌<◌, Option, Some, None, refl, sym, ap, subst, ◌⊎◌, inl, inr, ◌∙◌, arith}
use Rattle.journal_tree.specs.declared.limits.TheConstants.{ROOT}
use Rattle.journal_tree.specs.Trees.{Home, Node, Tree}
use Rattle.journal_tree.specs.Rule.{Stem, stem_of, stems, IsBelow, HasTree}
use Rattle.journal_tree.specs.Rule.IsBelow.{itself, parent}
use Rattle.journal_tree.proofs.Changing.{stem_from_node}
use Rattle.journal_tree.proofs.Hanging.{low, not_root}
use Rattle.journal_treestore.specs.declared.entry.Entry.{Entry}
use Rattle.journal_treestore.specs.Entries.{no_entry, tag_of}
use Rattle.journal_treestore.specs.Levels.{IsBlockFor}
use Rattle.journal_treestore.specs.Positions.{Position, place_at, IsPosition}
use Rattle.journal_treestore.specs.Views.{Held, View, node_of, tree_of, entry_at, home_in, homes}
use Rattle.journal_treestore.specs.Views.Seen.{used}
use Rattle.journal_treestore.specs.Sound.{entry_for, IsEntryOf, IsSecondEntry, HasSecond, IsHung, IsSoundView}
use Rattle.journal_treestore.specs.Steps.{Seat, seat_place, IsSecondAt, IsPlaced}
use Rattle.journal_treestore.proofs.Hanging.{with_home, with_own, IsOwn, cut}
use Rattle.journal_treestore.proofs.Viewing.{inode-node, entry_of_node, root_apart}
use Rattle.journal_treestore.proofs.Changing.{IsSomePosition, places}

-- no node hangs in itself, because the parents lead to the root
not_own : (T : Tree) (n : ℕ) (x : Node) → HasTree T → (T.at n).node ≡ Some x → x.home.directory ≢ n
not_own T n x tree is own = go n (tree.leads n (stem_of x) stem) refl
  where
    stem : stems T n ≡ Some (stem_of x)
    stem = stem_from_node T n x is

    go : (i : ℕ) → IsBelow (stems T) ROOT i → i ≡ n → ⊥
    go _ itself e = not_root T n n x x tree is own is (sym e)
    go _ (parent i s at up) e = go s.home.directory up (ap (λ (s : Stem). s.home.directory) same ∙ own)
      where
        same : s ≡ stem_of x
        same = let q : Some s ≡ Some (stem_of x) = sym at ∙ ap (stems T) e ∙ stem in cc

module _ (V : View) (sound : IsSoundView V) (s : Seat) (placed : IsPlaced V s) where
  pub no_root : s.n ≢ ROOT
  no_root e = root_apart V sound s.d s.h s.g placed.is (ap V.inode (sym e) ∙ placed.node) placed.directory

  -- the entry at its home names it
  pub entry-is : entry_at V s.d (seat_place s) ≡ entry_for s.n s.g.home
  entry-is =
      ap (entry_at V s.d) (sym placed.place)
      ∙ entry_of_node V sound s.d s.n s.h s.g placed.is placed.node placed.directory

  pub names : (entry_at V s.d (seat_place s)).number ≡ s.n
  names = ap (λ (e : Entry). e.number) entry-is

  pub not_d : s.n ≢ s.d
  not_d e = not_own (tree_of V) s.n (node_of V s.g) sound.tree (inode-node V s.n s.g placed.node) (placed.directory ∙ sym e)

  pub small : s.n < 4294967296
  small = let l = low (tree_of V) s.n (node_of V s.g) sound.tree (inode-node V s.n s.g placed.node) in let few = sound.few_numbers in omega (arith, l, few)

  -- the block of its home's place
  pub block-is : s.g.home.place / 512 ≡ s.at.j
  block-is = let e = placed.place in let low = placed.at.low in omega (arith, e, low)

  -- its second entry is where the seat says
  pub second-is : sound.hung.second s.n ≡ places s.more
  second-is = by s.more placed.more
    where
      seconds : HasSecond (entry_at V) s.n s.g.home (sound.hung.second s.n)
      seconds = sound.hung.seconds s.n s.g.home (ap home_in placed.node) no_root

      by : (o : Option Position) → IsSecondAt V s o → sound.hung.second s.n ≡ places o
      by None block = none (sound.hung.second s.n) seconds
        where
          none : (o : Option ℕ) → HasSecond (entry_at V) s.n s.g.home o → o ≡ None
          none None x = refl
          none (Some p) x = absurd (x.needed (subst (IsBlockFor (tag_of s.g.home.name)) (sym block-is) block))
      by (Some p) more = at x.at
        where
          some : (entry_at V s.d (place_at p)).number ≢ 0
          some z = placed.some (sym more.2 ∙ z)

          x : IsEntryOf (homes V) sound.hung.second s.d (place_at p) (entry_at V s.d (place_at p))
          x = sound.hung.back s.d (place_at p) some

          home_is : s.g.home ≡ x.home
          home_is = let e : Some s.g.home ≡ Some x.home = sym (ap home_in placed.node) ∙ ap (homes V) (sym more.2) ∙ x.is in cc

          at : (x.home.place ≡ place_at p) ⊎ (sound.hung.second (entry_at V s.d (place_at p)).number ≡ Some (place_at p)) → sound.hung.second s.n ≡ Some (place_at p)
          at (inl own) = absurd (more.1 (sym own ∙ ap (λ (h : Home). h.place) (sym home_is) ∙ placed.place))
          at (inr is) = ap sound.hung.second (sym more.2) ∙ is

  -- its entries are at these places alone
  pub own-places : (place : ℕ) → (entry_at V s.d place).number ≡ s.n → IsOwn s.d (seat_place s) (places s.more) s.d place
  own-places place its = (refl, by x.at)
    where
      x : IsEntryOf (homes V) sound.hung.second s.d place (entry_at V s.d place)
      x = sound.hung.back s.d place (λ z. placed.some (sym its ∙ z))

      home_is : s.g.home ≡ x.home
      home_is = let e : Some s.g.home ≡ Some x.home = sym (ap home_in placed.node) ∙ ap (homes V) (sym its) ∙ x.is in cc

      by : (x.home.place ≡ place) ⊎ (sound.hung.second (entry_at V s.d place).number ≡ Some place) → (place ≡ seat_place s) ⊎ (places s.more ≡ Some place)
      by (inl own) = inl (sym own ∙ ap (λ (h : Home). h.place) (sym home_is) ∙ placed.place)
      by (inr is) = inr (sym second-is ∙ ap sound.hung.second (sym its) ∙ is)

  pub own-number : (place : ℕ) → (place ≡ seat_place s) ⊎ (places s.more ≡ Some place) → (entry_at V s.d place).number ≡ s.n
  own-number place (inl own) = ap (λ p. (entry_at V s.d p).number) own ∙ names
  own-number place (inr is) = by s.more placed.more is
    where
      by : (o : Option Position) → IsSecondAt V s o → places o ≡ Some place → (entry_at V s.d place).number ≡ s.n
      by None block is = absurd (cc (is))
      by (Some p) more is = let q : place_at p ≡ place = cc in subst (λ p. (entry_at V s.d p).number ≡ s.n) q more.2

  -- the second is in a block in which its name may lie, and the first is not
  pub second-block : (p : Position) → s.more ≡ Some p → IsBlockFor (tag_of s.g.home.name) p.j × (IsBlockFor (tag_of s.g.home.name) s.at.j → ⊥)
  second-block p is = (
    subst (IsBlockFor (tag_of s.g.home.name)) (let low = position.low in let e : place_at p / 512 ≡ p.j = omega (arith, low) in e) x.block,
    λ block. x.needed (subst (IsBlockFor (tag_of s.g.home.name)) (sym block-is) block),
  )
    where
      x : IsSecondEntry (entry_at V) s.n s.g.home (place_at p)
      x = subst (HasSecond (entry_at V) s.n s.g.home) (second-is ∙ ap places is) (sound.hung.seconds s.n s.g.home (ap home_in placed.node) no_root)

      position : IsPosition V s.h p
      position = (subst (IsSecondAt V s) is placed.more).0

  -- the directory has the block of it
  pub some-position : IsSomePosition V s.h s.more
  some-position = by s.more placed.more
    where
      by : (o : Option Position) → IsSecondAt V s o → IsSomePosition V s.h o
      by None block = tt
      by (Some p) more = more.0

  -- it hangs no longer once its entries are gone
  pub cut-own : IsHung (with_home (homes V) s.n None) (with_own (entry_at V) s.d (seat_place s) (places s.more) no_entry)
  cut-own =
      subst (λ d. IsHung (with_home (homes V) s.n None) (with_own (entry_at V) d (seat_place s) (places s.more) no_entry)) placed.directory
      (subst (λ p. IsHung (with_home (homes V) s.n None) (with_own (entry_at V) s.g.home.directory p (places s.more) no_entry)) placed.place
      (cut (homes V) (entry_at V) s.n s.g.home (places s.more) (ap home_in placed.node) no_root sound.hung second-is))

-- a node that an entry of a directory names hangs there
pub hangs-in : (V : View) (d place : ℕ) (g : Held) → IsSoundView V → (entry_at V d place).number ≢ 0 → V.inode (entry_at V d place).number ≡ used g → g.home.directory ≡ d
hangs-in V d place g sound some at = ap (λ (h : Home). h.directory) same ∙ x.directory
  where
    x : IsEntryOf (homes V) sound.hung.second d place (entry_at V d place)
    x = sound.hung.back d place some

    same : g.home ≡ x.home
    same = let e : Some g.home ≡ Some x.home = sym (ap home_in at) ∙ x.is in cc
