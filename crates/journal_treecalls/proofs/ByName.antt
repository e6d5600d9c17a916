-- Ways through the cases of calls by a name in a directory.
use Rattle.std.proofs.Common.{◌≡◌, ℕ, List, Option, Some, None, refl, ap, subst, ◌∙◌}
use Rattle.journal_tree.specs.declared.reply.Handle.{Handle}
use Rattle.journal_tree.specs.declared.name.NameKind.{NameKind}
use Rattle.journal_tree.specs.declared.name.NameKind.TheVariants.{Dot, DotDot, NoName, LongName, Name}
use Rattle.journal_tree.specs.declared.caller.Caller.{Caller}
use Rattle.journal_tree.specs.declared.status.Status.{Status}
use Rattle.journal_tree.specs.Trees.{Node, find}
use Rattle.journal_tree.specs.Calls.{Outcome, refused, target, name_kind, with_name, some_node, on_found, named}
use Rattle.journal_treestore.specs.Views.{View, held_of, node_of, tree_of}
use Rattle.journal_treestore.specs.Views.Seen.{used}
use Rattle.journal_treestore.specs.Sound.{IsSoundView}
use Rattle.journal_treestore.proofs.Viewing.{inode-node}
use Rattle.journal_treecalls.specs.declared.search.Hit.{Hit}
use Rattle.journal_treecalls.specs.declared.named.Named.{Named}
use Rattle.journal_treecalls.specs.Targets.{held}
use Rattle.journal_treecalls.specs.Names.{name_status, IsNamed, IsUnnamed}
use Rattle.journal_treecalls.specs.Names.IsUnnamed.{unsearched, no_name}
use Rattle.journal_treecalls.proofs.Cases.{at-searched, at-unsearched}
use Rattle.journal_treecalls.proofs.Searching.{hit-found, hit-missed}

-- a kind without a status is that of a name
pub is-name : (k : NameKind) (a b : Status) → name_status k a b ≡ None → k ≡ Name
is-name Dot a b is = absurd (cc (is))
is-name DotDot a b is = absurd (cc (is))
is-name NoName a b is = absurd (cc (is))
is-name LongName a b is = absurd (cc (is))
is-name Name a b is = refl

module _ {A : Type 0} (V : View) where
  pub refused-name : (k : NameKind) (a b status : Status) (o : Outcome A) → name_status k a b ≡ Some status → with_name (tree_of V) k a b o ≡ refused status (tree_of V)
  refused-name Dot a b status o is = ap (λ s. refused s (tree_of V)) (cc)
  refused-name DotDot a b status o is = ap (λ s. refused s (tree_of V)) (cc)
  refused-name NoName a b status o is = ap (λ s. refused s (tree_of V)) (cc)
  refused-name LongName a b status o is = ap (λ s. refused s (tree_of V)) (cc)
  refused-name Name a b status o is = absurd (cc (is))

  -- what is not found, and what is
  pub at-none : (f : Option ℕ) (none : Outcome A) (some : ℕ → Node → Outcome A) → f ≡ None → on_found (tree_of V) f none some ≡ none
  at-none f none some is = ap (λ f. on_found (tree_of V) f none some) is

  pub at-some : (f : Option ℕ) (n : ℕ) (x : Rattle.journal_treestore.specs.Views.Held) (none : Outcome A) (some : ℕ → Node → Outcome A) → f ≡ Some n → V.inode n ≡ used x → on_found (tree_of V) f none some ≡ some n (node_of V x)
  at-some f n x none some is at =
      ap (λ f. on_found (tree_of V) f none some) is
      ∙ ap (λ o. some_node o none (some n)) (inode-node V n x at)

  module _ (h : Handle) (c : Caller) (name : List ℕ) (a b : Status) (none : ℕ → Node → Outcome A) (some : ℕ → Node → ℕ → Node → Outcome A) where
    abbrev rest : ℕ → Node → Outcome A
    rest = λ d x. with_name (tree_of V) (name_kind name) a b (on_found (tree_of V) (find (tree_of V) d name) (none d x) (some d x))

    pub at-unnamed : (status : Status) → IsUnnamed V c h name a b status → named c name a b (tree_of V) (target (tree_of V) h) none some ≡ refused status (tree_of V)
    at-unnamed status (unsearched why) = at-unsearched V h rest c status why
    at-unnamed status (no_name r s is) =
        at-searched V h rest c r s
        ∙ refused-name (name_kind name) a b status (on_found (tree_of V) (find (tree_of V) h.number name) (none h.number (node_of V (held r))) (some h.number (node_of V (held r)))) is

    at-named : (n : Named) → IsNamed V c h name n → named c name a b (tree_of V) (target (tree_of V) h) none some
        ≡ on_found (tree_of V) (find (tree_of V) h.number name) (none h.number (node_of V (held n.directory))) (some h.number (node_of V (held n.directory)))
    at-named n is =
        at-searched V h rest c n.directory is.searched
        ∙ ap (λ k. with_name (tree_of V) k a b (on_found (tree_of V) (find (tree_of V) h.number name) (none h.number (node_of V (held n.directory))) (some h.number (node_of V (held n.directory))))) is.named

    pub at-missed : (n : Named) → IsSoundView V → IsNamed V c h name n → n.hit ≡ None → named c name a b (tree_of V) (target (tree_of V) h) none some ≡ none h.number (node_of V (held n.directory))
    at-missed n sound is missed =
        at-named n is
        ∙ at-none (find (tree_of V) h.number name) (none h.number (node_of V (held n.directory))) (some h.number (node_of V (held n.directory)))
        (hit-missed V h.number n.directory name sound is.searched.node.is is.searched.kind (subst (λ o. Rattle.journal_treecalls.specs.Targets.Hits V n.directory.head name o) missed is.hits))

    pub at-hit : (n : Named) (hit : Hit) → IsSoundView V → IsNamed V c h name n → n.hit ≡ Some hit
        → named c name a b (tree_of V) (target (tree_of V) h) none some ≡ some h.number (node_of V (held n.directory)) hit.number (node_of V (held_of hit.head name))
    at-hit n hit sound is here =
        at-named n is
        ∙ at-some (find (tree_of V) h.number name) hit.number (held_of hit.head name) (none h.number (node_of V (held n.directory))) (some h.number (node_of V (held n.directory)))
        (hit-found V h.number n.directory name sound is.searched.node.is is.searched.kind hit hits) hits.is.inside.is.inode
      where
        hits : Rattle.journal_treecalls.specs.Targets.IsHit V n.directory.head name hit
        hits = subst (λ o. Rattle.journal_treecalls.specs.Targets.Hits V n.directory.head name o) here is.hits
