-- Calls that make no node are refused after their checks.
use Rattle.std.proofs.Common.{◌≡◌, Bool, true, false, cond, List, [], ℕ, Option, Some, None, Ok, Err, refl, sym, ap, subst, ◌∙◌}
use Rattle.std.specs.Prelude.{Result}
use Rattle.journal_tree.specs.declared.time.Time.{Time}
use Rattle.journal_tree.specs.declared.reply.Handle.{Handle}
use Rattle.journal_tree.specs.declared.caller.Caller.{Caller}
use Rattle.journal_tree.specs.declared.status.Status.{Status}
use Rattle.journal_tree.specs.declared.status.Status.TheVariants.{Exists, NoAccess, NotSupported, Stale}
use Rattle.journal_tree.specs.Trees.{Node}
use Rattle.journal_tree.specs.Rights.{may_rename}
use Rattle.journal_tree.specs.Calls.{Outcome, refused, target, allowed, named as named_case}
use Rattle.journal_tree.specs.Names.{make_other_case}
use Rattle.journal_tree.specs.Op.Call.{mknod, link}
use Rattle.journal_tree.specs.Op.Reply.{not_done}
use Rattle.journal_tree.specs.Op.Op.{answers_mknod, answers_link}
use Rattle.journal_treestore.specs.Views.{View, tree_of}
use Rattle.journal_treestore.specs.Sound.{IsSoundView}
use Rattle.journal_treecalls.specs.declared.node.Record.{Record}
use Rattle.journal_treecalls.specs.declared.search.Hit.{Hit}
use Rattle.journal_treecalls.specs.declared.named.Named.{Named}
use Rattle.journal_treecalls.specs.Disks.{Write, Learns, Does}
use Rattle.journal_treecalls.specs.Targets.{IsTarget}
use Rattle.journal_treecalls.specs.Names.{IsNameFor}
use Rattle.journal_treecalls.specs.Refusals.{status_by, status_of_making, IsRefused}
use Rattle.journal_treecalls.specs.Refusals.IsRefused.{unnamed, named}
use Rattle.journal_treecalls.proofs.Learning.{learns-as, does-reads}
use Rattle.journal_treecalls.proofs.Learned.{AreSound}
use Rattle.journal_treecalls.proofs.Cases.{at-gone, at-node}
use Rattle.journal_treecalls.proofs.ByName.{at-unnamed, at-missed, at-hit}

module _ {A : Type 0} (V : View) (h : Handle) (c : Caller) (name : List ℕ) (sound : IsSoundView V) where
  abbrev missing_case : ℕ → Node → Outcome A
  missing_case = λ d x. allowed (tree_of V) (may_rename c x.attributes) (refused NotSupported (tree_of V))

  abbrev there_case : ℕ → Node → ℕ → Node → Outcome A
  there_case = λ d x n y. refused Exists (tree_of V)

  pub making-refused : (status : Status) → IsRefused V c h name status
      → named_case c name Exists Exists (tree_of V) (target (tree_of V) h) (λ d x. allowed (tree_of V) (may_rename c x.attributes) (refused {A = A} NotSupported (tree_of V))) (λ d x n y. refused Exists (tree_of V)) ≡ refused status (tree_of V)
  making-refused _ (unnamed status why) = at-unnamed V h c name Exists Exists missing_case there_case status why
  making-refused _ (named n is) = by n.hit (may_rename c n.directory.head.attributes) refl refl
    where
      by : (o : Option Hit) (b : Bool) → n.hit ≡ o → may_rename c n.directory.head.attributes ≡ b
          → named_case c name Exists Exists (tree_of V) (target (tree_of V) h) missing_case there_case ≡ refused (status_of_making c n) (tree_of V)
      by (Some hit) b there may =
          at-hit V h c name Exists Exists missing_case there_case n hit sound is there
          ∙ ap (λ o. refused (status_by o (may_rename c n.directory.head.attributes)) (tree_of V)) (sym there)
      by None true missing may =
          at-missed V h c name Exists Exists missing_case there_case n sound is missing
          ∙ ap (λ b. cond b (refused NotSupported (tree_of V)) (refused NoAccess (tree_of V))) may
          ∙ (λ i. refused (status_by (sym missing i) (sym may i)) (tree_of V))
      by None false missing may =
          at-missed V h c name Exists Exists missing_case there_case n sound is missing
          ∙ ap (λ b. cond b (refused NotSupported (tree_of V)) (refused NoAccess (tree_of V))) may
          ∙ (λ i. refused (status_by (sym missing i) (sym may i)) (tree_of V))

-- ── what is learned ──

module _ (first old : View → Type 0) (c : Caller) (h : Handle) (name : List ℕ) (found : Result Named Status) (l : Learns first old (λ V. IsNameFor V c h name Exists Exists found)) where
  pub refused-err : (status : Status) → found ≡ Err status → Learns first old (λ V. IsRefused V c h name status)
  refused-err status is = learns-as first old _ _ l (λ V m n. unnamed status (subst (IsNameFor V c h name Exists Exists) is n))

  pub refused-ok : (n : Named) (status : Status) → found ≡ Ok n → status ≡ status_of_making c n → Learns first old (λ V. IsRefused V c h name status)
  refused-ok n status is tells = learns-as first old _ _ l (λ V m k. subst (IsRefused V c h name) (sym tells) (named n (subst (IsNameFor V c h name Exists Exists) is k)))

-- ── the calls ──

module _ (old new : View → Type 0) (ws : List Write) (none : ws ≡ []) (sound : AreSound new) (c : Caller) (h : Handle) (name : List ℕ) (now : Time) (status : Status) (l : Learns old new (λ V. IsRefused V c h name status)) where
  pub mknod-does : Does new ws (mknod h name) c now (not_done (Err status))
  mknod-does = does-reads new ws (mknod h name) c now (not_done (Err status)) none sound (λ V m.
      answers_mknod h name c now (tree_of V) (tree_of V) (Err status) (sym (making-refused V h c name (sound V m) status (l.now V m))))

-- LINK, of a node to a name in a directory
module _ (first old new : View → Type 0) (ws : List Write) (none : ws ≡ []) (sound : AreSound new) (c : Caller) (h d : Handle) (name : List ℕ) (now : Time) (found : Option Record) (l : Learns first old (λ V. IsTarget V h found)) where
  pub link-none : found ≡ None → ((V : View) → new V → old V) → Does new ws (link h d name) c now (not_done (Err Stale))
  link-none is same = does-reads new ws (link h d name) c now (not_done (Err Stale)) none sound (λ V m.
      answers_link h d name c now (tree_of V) (tree_of V) (Err Stale) (sym (at-gone V h _ (subst (IsTarget V h) is (l.now V (same V m))))))

  pub link-some : (r : Record) (status : Status) → found ≡ Some r → Learns old new (λ V. IsRefused V c d name status) → Does new ws (link h d name) c now (not_done (Err status))
  link-some r status is k = does-reads new ws (link h d name) c now (not_done (Err status)) none sound (λ V m.
      answers_link h d name c now (tree_of V) (tree_of V) (Err status) (sym (
      at-node V h (λ n x. make_other_case c name (tree_of V) (target (tree_of V) d)) r (subst (IsTarget V h) is (l.now V (k.before V m)))
      ∙ making-refused V d c name (sound V m) status (k.now V m))))
