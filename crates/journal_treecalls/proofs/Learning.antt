-- What is learned, step by step.
use Rattle.std.proofs.Common.{◌≡◌, ℕ, suc, ◌+◌, ◌≤◌, List, [], length, sym, subst, ◌∷◌, ap, ◌∙◌, arith}
use Rattle.journal_tree.specs.declared.time.Time.{Time}
use Rattle.journal_tree.specs.declared.caller.Caller.{Caller}
use Rattle.journal_tree.specs.Op.{Call, Reply, Op}
use Rattle.journal_treestore.specs.Views.{View, tree_of}
use Rattle.journal_treestore.specs.Sound.{IsSoundView}
use Rattle.journal_treecalls.specs.Disks.{Write, written, Learns, Does}

module _ (old new : View → Type 0) where
  -- what follows is learned
  pub learns-as : (P Q : View → Type 0) → Learns old new P → ((V : View) → new V → P V → Q V) → Learns old new Q
  learns-as P Q l f = record { before = l.before; now = λ V m. f V m (l.now V m) }

  -- it stays learned where there are fewer disks
  pub learns-still : (fewer P : View → Type 0) → Learns old new P → ((V : View) → fewer V → new V) → Learns old fewer P
  learns-still fewer P l f = record { before = λ V m. l.before V (f V m); now = λ V m. l.now V (f V m) }

  module _ (last : View → Type 0) (P Q : View → Type 0) (l : Learns old new P) (k : Learns new last Q) where
    -- one after another
    pub learns-then : (R : View → Type 0) → ((V : View) → last V → P V → Q V → R V) → Learns old last R
    learns-then R f = record { before = λ V m. l.before V (k.before V m); now = λ V m. f V m (l.now V (k.before V m)) (k.now V m) }

    pub learns-last : Learns old last Q
    learns-last = learns-then Q (λ V m p q. q)

    pub learns-both : Learns old last (λ V. P V × Q V)
    learns-both = learns-then (λ V. P V × Q V) (λ V m p q. (p, q))

-- a call that only read
pub does-reads : (may_be : View → Type 0) (ws : List Write) (call : Call) (c : Caller) (now : Time) (reply : Reply) → ws ≡ [] → ((V : View) → may_be V → IsSoundView V)
    → ((V : View) → may_be V → Op call c now (tree_of V) reply (tree_of V)) → Does may_be ws call c now reply
does-reads may_be ws call c now reply none sound op = record {
  op = λ V m. subst (λ ws. Op call c now (tree_of V) reply (tree_of (written ws V))) (sym none) (op V m);
  sound = λ V m. subst (λ ws. IsSoundView (written ws V)) (sym none) (sound V m);
}

-- three writes, the last first
pub writes-three : (before first second third : List Write) (a b c : Write) → first ≡ a ∷ before → second ≡ b ∷ first → third ≡ c ∷ second → before ≡ [] → third ≡ c ∷ b ∷ a ∷ []
writes-three before first second third a b c x y z none = z ∙ ap (λ ws. c ∷ ws) (y ∙ ap (λ ws. b ∷ ws) (x ∙ ap (λ ws. a ∷ ws) none))

-- the number of objects that are written
pub none-few : (ws : List Write) (k : ℕ) → ws ≡ [] → length ws ≤ k
none-few ws k is = let e : length ws ≡ 0 = ap length is in omega (arith, e)

pub one-more : (ws before : List Write) (w : Write) (k : ℕ) → ws ≡ w ∷ before → length before ≤ k → length ws ≤ k + 1
one-more ws before w k is few = let e : length ws ≡ suc (length before) = ap length is in omega (arith, e, few)

pub one-longer : (ws before : List Write) (w : Write) → ws ≡ w ∷ before → length ws ≡ length before + 1
one-longer ws before w is = let e : length ws ≡ suc (length before) = ap length is in omega (arith, e)
