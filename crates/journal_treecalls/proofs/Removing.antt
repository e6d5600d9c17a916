-- REMOVE of a file.
use Rattle.std.proofs.Common.{◌≡◌, ℕ, Bool, true, false, not, cond, List, Some, None, Ok, Err, refl, sym, ap, subst, ◌∙◌}
use Rattle.std.specs.Prelude.{◌&&◌}
use Rattle.journal_tree.specs.declared.time.Time.{Time}
use Rattle.journal_tree.specs.declared.reply.Changed.{Changed}
use Rattle.journal_tree.specs.declared.reply.Handle.{Handle}
use Rattle.journal_tree.specs.declared.reply.Kind.{Kind}
use Rattle.journal_tree.specs.declared.reply.Kind.TheVariants.{Directory, File, Link}
use Rattle.journal_tree.specs.declared.caller.Caller.{Caller}
use Rattle.journal_tree.specs.declared.status.Status.{Status}
use Rattle.journal_tree.specs.declared.status.Status.TheVariants.{NoAccess, NoEntry, IsDirectory}
use Rattle.journal_tree.specs.Times.{IsTime}
use Rattle.journal_tree.specs.Trees.{Node, is_directory}
use Rattle.journal_tree.specs.Rights.{may_rename, may_take}
use Rattle.journal_tree.specs.Calls.{Outcome, refused, target, allowed}
use Rattle.journal_tree.specs.Names.{removed, may_remove, remove_case}
use Rattle.journal_tree.specs.Op.{Op}
use Rattle.journal_tree.specs.Op.Call.{remove}
use Rattle.journal_tree.specs.Op.Reply.{removed as removed_reply}
use Rattle.journal_tree.specs.Op.Op.{answers_remove}
use Rattle.journal_tree.specs.Fit.{IsCaller}
use Rattle.journal_treestore.specs.declared.inode.Head.{Head}
use Rattle.journal_treestore.specs.Entries.{no_entry}
use Rattle.journal_treestore.specs.Views.{Held, View, held_of, body_of, node_of, tree_of, entry_by}
use Rattle.journal_treestore.specs.Sound.{IsSoundView}
use Rattle.journal_treecalls.specs.declared.search.Hit.{Hit}
use Rattle.journal_treecalls.specs.declared.named.Named.{Named}
use Rattle.journal_treecalls.specs.Targets.{held, IsHit, Hits}
use Rattle.journal_treecalls.specs.Names.{IsNamed, IsUnnamed, is_directory_kind, removal_status, changed_of, without_hit}
use Rattle.journal_treecalls.proofs.ByName.{at-unnamed, at-missed, at-hit}
use Rattle.journal_treecalls.proofs.Cutting.{cut-outcome, cut-sound}

module _ (V : View) (h : Handle) (c : Caller) (name : List ℕ) (now : Time) where
  abbrev case : Outcome Changed
  case = remove_case c name now (tree_of V) (target (tree_of V) h)

  -- what is answered where the name is there
  abbrev over : ℕ → Node → ℕ → Node → Outcome Changed
  over = λ d x n y. allowed (tree_of V) (may_remove c x y) (cond (is_directory y.body) (refused IsDirectory (tree_of V)) (removed (tree_of V) d x n now))

  pub remove-unnamed : (status : Status) → IsUnnamed V c h name IsDirectory IsDirectory status → Op (remove h name) c now (tree_of V) (removed_reply (Err status)) (tree_of V)
  remove-unnamed status why = answers_remove h name c now (tree_of V) (tree_of V) (Err status) (sym (at-unnamed V h c name IsDirectory IsDirectory (λ d x. refused NoEntry (tree_of V)) over status why))

  module _ (n : Named) (sound : IsSoundView V) (is : IsNamed V c h name n) where
    pub remove-missed : n.hit ≡ None → Op (remove h name) c now (tree_of V) (removed_reply (Err NoEntry)) (tree_of V)
    remove-missed none = answers_remove h name c now (tree_of V) (tree_of V) (Err NoEntry) (sym (at-missed V h c name IsDirectory IsDirectory (λ d x. refused NoEntry (tree_of V)) over n sound is none))

    module _ (hit : Hit) (here : n.hit ≡ Some hit) where
      abbrev d : Head
      d = n.directory.head

      kind-is : (x : Held) (k : Kind) → is_directory (body_of V k x) ≡ is_directory_kind k
      kind-is x Directory = refl
      kind-is x File = refl
      kind-is x Link = refl

      found : case ≡ cond (may_rename c d.attributes && may_take c d.attributes hit.head.attributes) (cond (is_directory_kind hit.head.kind) (refused IsDirectory (tree_of V)) (removed (tree_of V) h.number (node_of V (held n.directory)) hit.number now)) (refused NoAccess (tree_of V))
      found =
          at-hit V h c name IsDirectory IsDirectory (λ d x. refused NoEntry (tree_of V)) over n hit sound is here
          ∙ ap (λ b. cond (may_rename c d.attributes && may_take c d.attributes hit.head.attributes) (cond b (refused IsDirectory (tree_of V)) (removed (tree_of V) h.number (node_of V (held n.directory)) hit.number now)) (refused NoAccess (tree_of V)))
          (kind-is (held_of hit.head name) hit.head.kind)

      abbrev outcome : Bool → Bool → Outcome Changed
      outcome may dir = cond may (cond dir (refused IsDirectory (tree_of V)) (removed (tree_of V) h.number (node_of V (held n.directory)) hit.number now)) (refused NoAccess (tree_of V))

      pub remove-refused : (status : Status) → removal_status c d hit.head ≡ Some status → Op (remove h name) c now (tree_of V) (removed_reply (Err status)) (tree_of V)
      remove-refused status why = answers_remove h name c now (tree_of V) (tree_of V) (Err status) (sym (found ∙ by (may_rename c d.attributes && may_take c d.attributes hit.head.attributes) (is_directory_kind hit.head.kind) why))
        where
          by : (may dir : Bool) → cond (not may) (Some NoAccess) (cond dir (Some IsDirectory) None) ≡ Some status → outcome may dir ≡ refused status (tree_of V)
          by false dir is = ap (λ s. refused s (tree_of V)) (cc)
          by true true is = ap (λ s. refused s (tree_of V)) (cc)
          by true false is = absurd (cc (is))

      -- the file is removed
      module _ (allowed_is : removal_status c d hit.head ≡ None) where
        passes : (may dir : Bool) → cond (not may) (Some NoAccess) (cond dir (Some IsDirectory) None) ≡ None → (may ≡ true) × (dir ≡ false)
        passes false dir is = absurd (cc (is))
        passes true true is = absurd (cc (is))
        passes true false is = (refl, refl)

        no_directory : is_directory_kind hit.head.kind ≡ false
        no_directory = (passes (may_rename c d.attributes && may_take c d.attributes hit.head.attributes) (is_directory_kind hit.head.kind) allowed_is).1

        is_removed : case ≡ removed (tree_of V) h.number (node_of V (held n.directory)) hit.number now
        is_removed =
            found
            ∙ ap (λ b. outcome b (is_directory_kind hit.head.kind)) (passes (may_rename c d.attributes && may_take c d.attributes hit.head.attributes) (is_directory_kind hit.head.kind) allowed_is).0
            ∙ ap (outcome true) (passes (may_rename c d.attributes && may_take c d.attributes hit.head.attributes) (is_directory_kind hit.head.kind) allowed_is).1

        hits : IsHit V d name hit
        hits = subst (λ o. Hits V n.directory.head name o) here is.hits

        no_entries : (k : Kind) → is_directory_kind k ≡ false → (place : ℕ) → entry_by V k (held_of hit.head name) place ≡ no_entry
        no_entries Directory is place = absurd (cc (is))
        no_entries File is place = refl
        no_entries Link is place = refl

        module _ (W : View) (goes : W ≡ without_hit V h.number n.directory hit now) where
          pub remove-done : Op (remove h name) c now (tree_of V) (removed_reply (Ok (changed_of h.number n.directory.head now))) (tree_of W)
          remove-done = answers_remove h name c now (tree_of V) (tree_of W) (Ok (changed_of h.number n.directory.head now))
              (cut-outcome V h name now n.directory hit sound is.searched.node is.searched.kind hits (no_entries hit.head.kind no_directory) W goes ∙ sym is_removed)

          pub remove-sound : IsCaller c → IsTime now → IsSoundView W
          remove-sound caller time = cut-sound V h name now n.directory hit sound is.searched.node is.searched.kind hits (no_entries hit.head.kind no_directory) W goes (remove h name) c tt caller time remove-done
