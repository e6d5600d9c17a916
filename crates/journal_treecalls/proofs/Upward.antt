-- A walk from a directory up to the root, step by step.
use Rattle.std.proofs.Common.{◌≡◌, ◌≢◌, ℕ, zero, suc, ◌+◌, ◌-◌, ◌<◌, ◌≤◌, Bool, true, false, eqb, Some, None, refl, sym, ap, subst, ◌∙◌, arith}
use Rattle.std.specs.Prelude.{◌||◌, Decides}
use Rattle.std.proofs.lemmas.Bool.{eq-eqb, ne_eqb, or_left}
use Rattle.journal_tree.specs.declared.limits.TheConstants.{ROOT}
use Rattle.journal_tree.specs.Trees.{root_home}
use Rattle.journal_tree.specs.Rule.{Stem, Stems, stem_of, stems, IsBelow}
use Rattle.journal_tree.specs.Walks.{from_parent, meets}
use Rattle.journal_tree.proofs.Walk.{walk-decides}
use Rattle.journal_treestore.specs.declared.inode.Head.{Head}
use Rattle.journal_treestore.specs.declared.inode.Inode.{Inode}
use Rattle.journal_treestore.specs.declared.inode.Inode.TheVariants.{Free, Used}
use Rattle.journal_treestore.specs.Views.{Held, Seen, View, held_of, seen, node_of, slot_of, tree_of}
use Rattle.journal_treestore.specs.Views.Seen.{free, used}
use Rattle.journal_treestore.specs.Sound.{IsSoundView}
use Rattle.journal_treecalls.specs.Disks.{Learns}
use Rattle.journal_treecalls.specs.Targets.{IsInode}
use Rattle.journal_treecalls.specs.Renamings.{TellsAbove}
use Rattle.journal_treecalls.proofs.Learning.{learns-as, learns-then}
use Rattle.journal_treecalls.proofs.Learned.{AreSound}

-- ── what the walk meets ──

module _ (S : Stems) (n : ℕ) where
  meets-itself : (k at : ℕ) → at ≡ n → meets S n k at ≡ true
  unfolding meets
  meets-itself zero at is = eq-eqb at n is
  meets-itself (suc k) at is = or_left (eqb at n) (from_parent (meets S n k) (S at)) (eq-eqb at n is)

  meets-nothing : (k at : ℕ) → at ≢ n → S at ≡ None → meets S n k at ≡ false
  unfolding meets
  meets-nothing zero at other none = ne_eqb at n other
  meets-nothing (suc k) at other none = ap (λ b. b || from_parent (meets S n k) (S at)) (ne_eqb at n other) ∙ ap (from_parent (meets S n k)) none

  meets-above : (k at : ℕ) (s : Stem) → at ≢ n → S at ≡ Some s → meets S n (suc k) at ≡ meets S n k s.home.directory
  unfolding meets
  meets-above k at s other is = ap (λ b. b || from_parent (meets S n k) (S at)) (ne_eqb at n other) ∙ ap (from_parent (meets S n k)) is

  meets-end : (at : ℕ) → meets S n 0 at ≡ eqb at n
  unfolding meets
  meets-end at = refl

-- ── on a disk ──

-- the stem of an inode
pub stem-of : (V : View) (n : ℕ) (g : Held) → V.inode n ≡ used g → stems (tree_of V) n ≡ Some (stem_of (node_of V g))
stem-of V n g is = ap (λ (y : Seen). Rattle.std.specs.Prelude.option_map stem_of (slot_of V y).node) is

no-stem : (V : View) (n f : ℕ) → V.inode n ≡ free f → stems (tree_of V) n ≡ None
no-stem V n f is = ap (λ (y : Seen). Rattle.std.specs.Prelude.option_map stem_of (slot_of V y).node) is

-- the walk from e is at a number, after so many steps
abbrev pub Follows : View → ℕ → ℕ → ℕ → ℕ → ℕ → Type 0
Follows V n e numbers step at = (k : ℕ) → k + step ≡ numbers → meets (stems (tree_of V)) n numbers e ≡ meets (stems (tree_of V)) n k at

module _ (V : View) (sound : IsSoundView V) (n e : ℕ) where
  -- what the whole walk meets decides
  pub tells-above : (numbers : ℕ) (b : Bool) → V.numbers ≡ numbers → ((g : Held) → V.inode n ≡ used g → meets (stems (tree_of V)) n numbers e ≡ b) → TellsAbove V n e b
  tells-above numbers b count met g is = subst (λ b. Decides b (IsBelow (stems (tree_of V)) n e)) (ap (λ k. meets (stems (tree_of V)) n k e) count ∙ met g is)
      (walk-decides V.numbers (stems (tree_of V)) n e (stem_of (node_of V g)) sound.tree (stem-of V n g is))

  -- from the root it meets nothing more
  pub root-meets : (g : Held) → V.inode n ≡ used g → ROOT ≢ n → (k : ℕ) → meets (stems (tree_of V)) n k ROOT ≡ false
  root-meets g is other zero = meets-end (stems (tree_of V)) n ROOT ∙ ne_eqb ROOT n other
  root-meets g is other (suc k) =
      meets-above (stems (tree_of V)) n k ROOT (record { home = root_home; places = Some sound.tree.root.places }) other sound.tree.root.is
      ∙ meets-nothing (stems (tree_of V)) n k 0 (λ z. absurd (cc (sym sound.tree.zero ∙ ap (stems (tree_of V)) z ∙ stem-of V n g is))) sound.tree.zero

-- ── what is learned ──

module _ (first old : View → Type 0) (n e numbers step at : ℕ) (counts : (V : View) → first V → V.numbers ≡ numbers) (l : Learns first old (λ V. Follows V n e numbers step at)) where
  -- how many steps are left
  left : step ≤ numbers → (numbers - step) + step ≡ numbers
  left low = omega (arith, low)

  module _ (sound : AreSound old) where
    count : (V : View) → old V → V.numbers ≡ numbers
    count V m = counts V (l.before V m)

    pub up-met : step ≤ numbers → at ≡ n → Learns first old (λ V. TellsAbove V n e true)
    up-met low is = learns-as first old _ _ l (λ V m f. tells-above V (sound V m) n e numbers true (count V m) (λ g used_is. f (numbers - step) (left low) ∙ meets-itself (stems (tree_of V)) n (numbers - step) at is))

    pub up-root : step ≤ numbers → at ≢ n → at ≡ ROOT → Learns first old (λ V. TellsAbove V n e false)
    up-root low other is = learns-as first old _ _ l (λ V m f. tells-above V (sound V m) n e numbers false (count V m) (λ g used_is.
        f (numbers - step) (left low)
        ∙ ap (meets (stems (tree_of V)) n (numbers - step)) is
        ∙ root-meets V (sound V m) n e g used_is (λ r. other (is ∙ r)) (numbers - step)))

    pub up-end : (b : Bool) → step ≡ numbers → b ≡ eqb at n → Learns first old (λ V. TellsAbove V n e b)
    up-end b last is = learns-as first old _ _ l (λ V m f. tells-above V (sound V m) n e numbers b (count V m) (λ g used_is. f 0 (let e : 0 + step ≡ numbers = omega (arith, last) in e) ∙ meets-end (stems (tree_of V)) n at ∙ sym is))

  module _ (new : View → Type 0) (x : Inode) (j : Learns old new (λ V. IsInode V at x)) where
    pub up-free : (f : ℕ) → AreSound new → step < numbers → at ≢ n → x ≡ Free f → Learns first new (λ V. TellsAbove V n e false)
    up-free f sound low other kind = learns-then first old new _ _ l j _ (λ V m follows is. tells-above V (sound V m) n e numbers false (counts V (l.before V (j.before V m))) (λ g used_is.
        follows (numbers - step) (left (omega (arith, low)))
        ∙ meets-nothing (stems (tree_of V)) n (numbers - step) at other (no-stem V at f (is.1 ∙ ap (λ x. seen x is.0) kind))))

    pub up-used : (head : Head) → at ≢ n → x ≡ Used head → Learns first new (λ V. Follows V n e numbers (step + 1) head.directory)
    up-used head other kind = learns-then first old new _ _ l j _ (λ V m follows is k more.
        follows (suc k) (let e : suc k + step ≡ numbers = omega (arith, more) in e)
        ∙ meets-above (stems (tree_of V)) n k at (stem_of (node_of V (held_of head is.0))) other (stem-of V at (held_of head is.0) (is.1 ∙ ap (λ x. seen x is.0) kind)))
