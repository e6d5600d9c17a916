-- LOOKUP, from what was read.
use Rattle.std.proofs.Common.{◌≡◌, ℕ, true, cond, List, Option, Some, None, Ok, Err, refl, sym, ap, ◌∙◌}
use Rattle.std.specs.Prelude.{◌==◌}
use Rattle.std.proofs.lemmas.Bool.{eq-eqb}
use Rattle.journal_tree.specs.declared.reply.Kind.TheVariants.{Directory}
use Rattle.journal_tree.specs.declared.caller.Caller.{Caller}
use Rattle.journal_tree.specs.declared.name.NameKind.TheVariants.{Name}
use Rattle.journal_tree.specs.declared.status.Status.TheVariants.{NoAccess, NoEntry, NotDirectory}
use Rattle.journal_tree.specs.Trees.{Node, Slot, is_directory, find}
use Rattle.journal_tree.specs.Rights.{may_search}
use Rattle.journal_tree.specs.Calls.{Outcome, refused, told, node_or_gone, target, name_kind, in_searched, some_node, on_found}
use Rattle.journal_tree.specs.Names.{found, lookup_name, lookup_case}
use Rattle.journal_tree.specs.Op.Op.{answers_lookup}
use Rattle.journal_treestore.specs.Views.{Held, View, body_of, node_of, slot_of, tree_of, entry_at}
use Rattle.journal_treestore.specs.Views.Seen.{used}
use Rattle.journal_treestore.specs.Lookups.{found_by, InDirectory, LookupFinds, LookupMisses}
use Rattle.journal_treestore.proofs.Viewing.{inode-node, finds, misses}

module _ {A : Type 0} (V : View) where
  -- the handle of a directory that the caller may search
  at_searched : (c : Caller) (d : ℕ) (h : Held) (f : ℕ → Node → Outcome A) → V.inode d ≡ used h → h.kind ≡ Directory → may_search c h.attributes ≡ true
      → in_searched c (tree_of V) (target (tree_of V) (record { number = d; generation = h.generation })) f ≡ f d (node_of V h)
  at_searched c d h f is kind may =
      ap (λ (s : Slot). in_searched c (tree_of V) (node_or_gone d (s.generation == h.generation) s.node) f) (ap (slot_of V) is)
      ∙ ap (λ b. in_searched c (tree_of V) (node_or_gone d b (Some (node_of V h))) f) (eq-eqb h.generation h.generation refl)
      ∙ ap (λ b. cond b (cond (may_search c h.attributes) (f d (node_of V h)) (refused NoAccess (tree_of V))) (refused NotDirectory (tree_of V))) (ap (λ kind. is_directory (body_of V kind h)) kind)
      ∙ ap (λ b. cond b (f d (node_of V h)) (refused NoAccess (tree_of V))) may

  -- what is not found, and what is
  at_none : (f : Option ℕ) (none : Outcome A) (some : ℕ → Node → Outcome A) → f ≡ None → on_found (tree_of V) f none some ≡ none
  at_none f none some is = ap (λ f. on_found (tree_of V) f none some) is

  at_some : (f : Option ℕ) (n : ℕ) (g : Held) (none : Outcome A) (some : ℕ → Node → Outcome A) → f ≡ Some n → V.inode n ≡ used g → on_found (tree_of V) f none some ≡ some n (node_of V g)
  at_some f n g none some is at =
      ap (λ f. on_found (tree_of V) f none some) is
      ∙ ap (λ o. some_node o none (some n)) (inode-node V n g at)

searched : (V : View) (c : Caller) (d : ℕ) (h : Held) (name : List ℕ) → InDirectory V c d h name
    → lookup_case c name (tree_of V) (target (tree_of V) (record { number = d; generation = h.generation })) ≡ lookup_name (tree_of V) d (node_of V h) Name name
searched V c d h name inside =
    at_searched V c d h (λ d x. lookup_name (tree_of V) d x (name_kind name) name) inside.is inside.kind inside.may
    ∙ ap (λ kind. lookup_name (tree_of V) d (node_of V h) kind name) inside.named

pub lookup-finds : LookupFinds
lookup-finds V c d h name place g now sound inside hit = answers_lookup (record { number = d; generation = h.generation }) name c now (tree_of V) (tree_of V) (Ok (found_by V d h (entry_at V d place).number g)) (sym (
    searched V c d h name inside
    ∙ at_some V (find (tree_of V) d name) (entry_at V d place).number g (refused NoEntry (tree_of V)) (found (tree_of V) d (node_of V h))
    (finds V sound d place name g hit.some hit.is hit.named) hit.is
    ∙ ap (λ s. (Ok (record { generation = s; node = told (entry_at V d place).number (node_of V g); directory = told d (node_of V h) }), tree_of V)) (ap (λ y. (slot_of V y).generation) hit.is)))

pub lookup-misses : LookupMisses
lookup-misses V c d h name now sound inside miss = answers_lookup (record { number = d; generation = h.generation }) name c now (tree_of V) (tree_of V) (Err NoEntry) (sym (
    searched V c d h name inside
    ∙ at_none V (find (tree_of V) d name) (refused NoEntry (tree_of V)) (found (tree_of V) d (node_of V h)) (misses V sound d name h inside.is inside.kind miss)))
