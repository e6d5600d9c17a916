-- RMDIR of a directory without entries.
use Rattle.std.proofs.Common.{◌≡◌, ℕ, Bool, true, false, not, cond, List, Some, None, Ok, Err, refl, sym, ap, subst, ◌∙◌}
use Rattle.std.specs.Prelude.{◌&&◌, is_some}
use Rattle.journal_tree.specs.declared.time.Time.{Time}
use Rattle.journal_tree.specs.declared.reply.Changed.{Changed}
use Rattle.journal_tree.specs.declared.reply.Handle.{Handle}
use Rattle.journal_tree.specs.declared.reply.Kind.{Kind}
use Rattle.journal_tree.specs.declared.reply.Kind.TheVariants.{Directory, File, Link}
use Rattle.journal_tree.specs.declared.caller.Caller.{Caller}
use Rattle.journal_tree.specs.declared.status.Status.{Status}
use Rattle.journal_tree.specs.declared.status.Status.TheVariants.{Exists, Invalid, NoAccess, NoEntry, NotDirectory, NotEmpty}
use Rattle.journal_tree.specs.Times.{IsTime}
use Rattle.journal_tree.specs.Trees.{Node, is_directory, find_any}
use Rattle.journal_tree.specs.Rights.{may_rename, may_take}
use Rattle.journal_tree.specs.Calls.{Outcome, refused, target, allowed}
use Rattle.journal_tree.specs.Names.{removed, may_remove, rmdir_case}
use Rattle.journal_tree.specs.Op.{Op}
use Rattle.journal_tree.specs.Op.Call.{rmdir}
use Rattle.journal_tree.specs.Op.Reply.{removed as removed_reply}
use Rattle.journal_tree.specs.Op.Op.{answers_rmdir}
use Rattle.journal_tree.specs.Fit.{IsCaller}
use Rattle.journal_treestore.specs.declared.inode.Head.{Head}
use Rattle.journal_treestore.specs.Views.{Held, View, held_of, body_of, node_of, tree_of}
use Rattle.journal_treestore.specs.Sound.{IsSoundView}
use Rattle.journal_treecalls.specs.declared.search.Hit.{Hit}
use Rattle.journal_treecalls.specs.declared.named.Named.{Named}
use Rattle.journal_treecalls.specs.Targets.{held, IsHit, Hits}
use Rattle.journal_treecalls.specs.Names.{IsNamed, IsUnnamed, is_directory_kind, changed_of, without_hit}
use Rattle.journal_treecalls.specs.Directories.{HasNone, HasEntry, rmdir_status}
use Rattle.journal_treecalls.proofs.ByName.{at-unnamed, at-missed, at-hit}
use Rattle.journal_treecalls.proofs.Cutting.{cut-outcome, cut-sound}
use Rattle.journal_treecalls.proofs.Emptying.{own-blocks, nothing-hangs, all-bare, all-blank, one-hangs}

module _ (V : View) (h : Handle) (c : Caller) (name : List ℕ) (now : Time) where
  -- what is answered where the name is there
  abbrev over : ℕ → Node → ℕ → Node → Outcome Changed
  over = λ d x n y. allowed (tree_of V) (may_remove c x y) (cond (not (is_directory y.body)) (refused NotDirectory (tree_of V)) (cond (is_some (find_any (tree_of V) n)) (refused NotEmpty (tree_of V)) (removed (tree_of V) d x n now)))

  pub rmdir-unnamed : (status : Status) → IsUnnamed V c h name Invalid Exists status → Op (rmdir h name) c now (tree_of V) (removed_reply (Err status)) (tree_of V)
  rmdir-unnamed status why = answers_rmdir h name c now (tree_of V) (tree_of V) (Err status) (sym (at-unnamed V h c name Invalid Exists (λ d x. refused NoEntry (tree_of V)) over status why))

  module _ (n : Named) (sound : IsSoundView V) (is : IsNamed V c h name n) where
    pub rmdir-missed : n.hit ≡ None → Op (rmdir h name) c now (tree_of V) (removed_reply (Err NoEntry)) (tree_of V)
    rmdir-missed none = answers_rmdir h name c now (tree_of V) (tree_of V) (Err NoEntry) (sym (at-missed V h c name Invalid Exists (λ d x. refused NoEntry (tree_of V)) over n sound is none))

    module _ (hit : Hit) (here : n.hit ≡ Some hit) where
      abbrev d : Head
      d = n.directory.head

      abbrev outcome : Bool → Bool → Bool → Outcome Changed
      outcome may dir any = cond may (cond (not dir) (refused NotDirectory (tree_of V)) (cond any (refused NotEmpty (tree_of V)) (removed (tree_of V) h.number (node_of V (held n.directory)) hit.number now))) (refused NoAccess (tree_of V))

      kind-is : (x : Held) (k : Kind) → is_directory (body_of V k x) ≡ is_directory_kind k
      kind-is x Directory = refl
      kind-is x File = refl
      kind-is x Link = refl

      found : rmdir_case c name now (tree_of V) (target (tree_of V) h) ≡ outcome (may_rename c d.attributes && may_take c d.attributes hit.head.attributes) (is_directory_kind hit.head.kind) (is_some (find_any (tree_of V) hit.number))
      found =
          at-hit V h c name Invalid Exists (λ d x. refused NoEntry (tree_of V)) over n hit sound is here
          ∙ ap (λ b. outcome (may_rename c d.attributes && may_take c d.attributes hit.head.attributes) b (is_some (find_any (tree_of V) hit.number))) (kind-is (held_of hit.head name) hit.head.kind)

      pub rmdir-refused : (status : Status) → rmdir_status c d hit.head ≡ Some status → Op (rmdir h name) c now (tree_of V) (removed_reply (Err status)) (tree_of V)
      rmdir-refused status why = answers_rmdir h name c now (tree_of V) (tree_of V) (Err status) (sym (found ∙ by (may_rename c d.attributes && may_take c d.attributes hit.head.attributes) (is_directory_kind hit.head.kind) why))
        where
          by : (may dir : Bool) → cond (not may) (Some NoAccess) (cond dir None (Some NotDirectory)) ≡ Some status → outcome may dir (is_some (find_any (tree_of V) hit.number)) ≡ refused status (tree_of V)
          by false dir is = ap (λ s. refused s (tree_of V)) (cc)
          by true false is = ap (λ s. refused s (tree_of V)) (cc)
          by true true is = absurd (cc (is))

      module _ (on : rmdir_status c d hit.head ≡ None) where
        passes : (may dir : Bool) → cond (not may) (Some NoAccess) (cond dir None (Some NotDirectory)) ≡ None → (may ≡ true) × (dir ≡ true)
        passes false dir is = absurd (cc (is))
        passes true false is = absurd (cc (is))
        passes true true is = (refl, refl)

        a_directory : hit.head.kind ≡ Directory
        a_directory = by hit.head.kind ((passes (may_rename c d.attributes && may_take c d.attributes hit.head.attributes) (is_directory_kind hit.head.kind) on).1)
          where
            by : (k : Kind) → is_directory_kind k ≡ true → k ≡ Directory
            by Directory is = refl
            by File is = absurd (cc (is))
            by Link is = absurd (cc (is))

        found-on : (any : Bool) → is_some (find_any (tree_of V) hit.number) ≡ any → rmdir_case c name now (tree_of V) (target (tree_of V) h) ≡ outcome true true any
        found-on any any_is =
            found
            ∙ (λ i. outcome
            ((passes (may_rename c d.attributes && may_take c d.attributes hit.head.attributes) (is_directory_kind hit.head.kind) on).0 i)
            ((passes (may_rename c d.attributes && may_take c d.attributes hit.head.attributes) (is_directory_kind hit.head.kind) on).1 i)
            (any_is i))

        hits : IsHit V n.directory.head name hit
        hits = subst (λ o. Hits V n.directory.head name o) here is.hits

        pub rmdir-full : (m : ℕ) → HasEntry V hit.head m → Op (rmdir h name) c now (tree_of V) (removed_reply (Err NotEmpty)) (tree_of V)
        rmdir-full m e = answers_rmdir h name c now (tree_of V) (tree_of V) (Err NotEmpty) (sym (
            found-on true (one-hangs V sound hit.number (held_of hit.head name) hits.is.inside.is.inode a_directory hit.head refl (own-blocks V hit.head name) m e)))

        module _ (none : HasNone V hit.head) (W : View) (goes : W ≡ without_hit V h.number n.directory hit now) where
          pub rmdir-done : Op (rmdir h name) c now (tree_of V) (removed_reply (Ok (changed_of h.number n.directory.head now))) (tree_of W)
          rmdir-done = answers_rmdir h name c now (tree_of V) (tree_of W) (Ok (changed_of h.number n.directory.head now))
              (cut-outcome V h name now n.directory hit sound is.searched.node is.searched.kind hits (all-blank V sound hit.number (held_of hit.head name) hits.is.inside.is.inode a_directory hit.head refl (own-blocks V hit.head name) none) W goes
              ∙ sym (found-on false (nothing-hangs V sound hit.number (held_of hit.head name) hits.is.inside.is.inode (all-bare V sound hit.number (held_of hit.head name) hits.is.inside.is.inode a_directory hit.head refl (own-blocks V hit.head name) none))))

          pub rmdir-sound : IsCaller c → IsTime now → IsSoundView W
          rmdir-sound caller time =
              cut-sound V h name now n.directory hit sound is.searched.node is.searched.kind hits (all-blank V sound hit.number (held_of hit.head name) hits.is.inside.is.inode a_directory hit.head refl (own-blocks V hit.head name) none) W goes
              (rmdir h name) c tt caller time rmdir-done
