-- MKDIR, and CREATE of a name that must be free.
use Rattle.std.proofs.Common.{◌≡◌, ℕ, Bool, true, false, not, cond, List, [], replicate, Option, Some, None, Ok, Err, refl, sym, ap, ◌∙◌, arith}
use Rattle.std.specs.Prelude.{unwrap_or}
use Rattle.std.proofs.lemmas.List.{take-replicate}
use Rattle.journal_tree.specs.declared.time.Time.{Time}
use Rattle.journal_tree.specs.declared.reply.Attributes.{Attributes}
use Rattle.journal_tree.specs.declared.reply.Handle.{Handle}
use Rattle.journal_tree.specs.declared.reply.Kind.TheVariants.{Directory, File}
use Rattle.journal_tree.specs.declared.reply.Made.{Made}
use Rattle.journal_tree.specs.declared.reply.Room.{Room}
use Rattle.journal_tree.specs.declared.settings.Settings.{Settings}
use Rattle.journal_tree.specs.declared.settings.CreateMode.TheVariants.{Guarded}
use Rattle.journal_tree.specs.declared.caller.Caller.{Caller}
use Rattle.journal_tree.specs.declared.limits.TheConstants.{FILE_MODE, DIRECTORY_MODE}
use Rattle.journal_tree.specs.declared.status.Status.{Status}
use Rattle.journal_tree.specs.declared.status.Status.TheVariants.{Exists, Invalid, NoAccess, NoSpace, TooBig}
use Rattle.journal_tree.specs.Times.{IsTime}
use Rattle.journal_tree.specs.Trees.Body.{directory, file}
use Rattle.journal_tree.specs.Rights.{may_rename}
use Rattle.journal_tree.specs.Calls.{Outcome, refused, target, allowed}
use Rattle.journal_tree.specs.Attributes.{resized, is_no_time, is_too_big}
use Rattle.journal_tree.specs.Names.{born, new_attributes, create_new, create_case, mkdir_new, mkdir_case}
use Rattle.journal_tree.specs.Op.{Op}
use Rattle.journal_tree.specs.Op.Call.{create, mkdir}
use Rattle.journal_tree.specs.Op.Reply.{made as made_reply}
use Rattle.journal_tree.specs.Op.Op.{answers_create, answers_mkdir}
use Rattle.journal_tree.specs.Fit.{IsAsked, IsCaller}
use Rattle.journal_treestore.specs.Views.{View, node_of, tree_of}
use Rattle.journal_treestore.specs.Sound.{IsSoundView}
use Rattle.journal_treestore.specs.Steps.{new_body}
use Rattle.journal_treecalls.specs.declared.search.Hit.{Hit}
use Rattle.journal_treecalls.specs.declared.named.Named.{Named}
use Rattle.journal_treecalls.specs.declared.creation.NewNode.{NewNode}
use Rattle.journal_treecalls.specs.Targets.{held}
use Rattle.journal_treecalls.specs.Names.{IsNamed, IsUnnamed}
use Rattle.journal_treecalls.specs.Rooms.{making_status, IsMade}
use Rattle.journal_treecalls.proofs.Births.{Birth}
use Rattle.journal_treecalls.proofs.Furthers.{birth}
use Rattle.journal_treecalls.proofs.ByName.{at-unnamed, at-missed, at-hit}

-- ── the calls ──

module _ (V : View) (h : Handle) (c : Caller) (name : List ℕ) (s : Settings) (now : Time) where
  making : (size : Option ℕ) (d : Attributes) (status : Status) (o : Outcome Made) → making_status c s size d ≡ Some status
      → allowed (tree_of V) (may_rename c d) (cond (is_no_time s.mtime) (refused Invalid (tree_of V)) (cond (is_too_big size) (refused TooBig (tree_of V)) o)) ≡ refused status (tree_of V)
  making size d status o = by (may_rename c d) (is_no_time s.mtime) (is_too_big size)
    where
      by : (may bad big : Bool) → cond (not may) (Some NoAccess) (cond bad (Some Invalid) (cond big (Some TooBig) None)) ≡ Some status
          → cond may (cond bad (refused Invalid (tree_of V)) (cond big (refused TooBig (tree_of V)) o)) (refused NoAccess (tree_of V)) ≡ refused status (tree_of V)
      by false bad big is = ap (λ s. refused s (tree_of V)) (cc)
      by true true big is = ap (λ s. refused s (tree_of V)) (cc)
      by true false true is = ap (λ s. refused s (tree_of V)) (cc)
      by true false false is = absurd (cc (is))

  making-on : (size : Option ℕ) (d : Attributes) (o : Outcome Made) → making_status c s size d ≡ None
      → allowed (tree_of V) (may_rename c d) (cond (is_no_time s.mtime) (refused Invalid (tree_of V)) (cond (is_too_big size) (refused TooBig (tree_of V)) o)) ≡ o
  making-on size d o = by (may_rename c d) (is_no_time s.mtime) (is_too_big size)
    where
      by : (may bad big : Bool) → cond (not may) (Some NoAccess) (cond bad (Some Invalid) (cond big (Some TooBig) None)) ≡ None
          → cond may (cond bad (refused Invalid (tree_of V)) (cond big (refused TooBig (tree_of V)) o)) (refused NoAccess (tree_of V)) ≡ o
      by false bad big is = absurd (cc (is))
      by true true big is = absurd (cc (is))
      by true false true is = absurd (cc (is))
      by true false false is = refl

  -- MKDIR
  pub mkdir-unnamed : (status : Status) → IsUnnamed V c h name Exists Exists status → Op (mkdir h name s) c now (tree_of V) (made_reply (Err status)) (tree_of V)
  mkdir-unnamed status why = answers_mkdir h name s None c now (tree_of V) (tree_of V) (Err status) tt
      (sym (at-unnamed V h c name Exists Exists (mkdir_new c name s None now (tree_of V)) (λ d x n y. refused Exists (tree_of V)) status why))

  pub create-unnamed : (status : Status) → IsUnnamed V c h name Exists Exists status → Op (create h name (Guarded s)) c now (tree_of V) (made_reply (Err status)) (tree_of V)
  create-unnamed status why = answers_create h name (Guarded s) None c now (tree_of V) (tree_of V) (Err status) tt
      (sym (at-unnamed V h c name Exists Exists (create_new c name s None now (tree_of V)) (λ d x n y. refused Exists (tree_of V)) status why))

  module _ (n : Named) (sound : IsSoundView V) (is : IsNamed V c h name n) where
    pub mkdir-there : (hit : Hit) → n.hit ≡ Some hit → Op (mkdir h name s) c now (tree_of V) (made_reply (Err Exists)) (tree_of V)
    mkdir-there hit here = answers_mkdir h name s None c now (tree_of V) (tree_of V) (Err Exists) tt
        (sym (at-hit V h c name Exists Exists (mkdir_new c name s None now (tree_of V)) (λ d x n y. refused Exists (tree_of V)) n hit sound is here))

    pub create-there : (hit : Hit) → n.hit ≡ Some hit → Op (create h name (Guarded s)) c now (tree_of V) (made_reply (Err Exists)) (tree_of V)
    create-there hit here = answers_create h name (Guarded s) None c now (tree_of V) (tree_of V) (Err Exists) tt
        (sym (at-hit V h c name Exists Exists (create_new c name s None now (tree_of V)) (λ d x n y. refused Exists (tree_of V)) n hit sound is here))

    module _ (none : n.hit ≡ None) where
      abbrev d : Attributes
      d = n.directory.head.attributes

      abbrev born-mkdir : Option Room → Outcome Made
      born-mkdir room = born (tree_of V) h.number (node_of V (held n.directory)) name room (new_attributes c s n.directory.head.attributes Directory DIRECTORY_MODE now) (directory 0) now

      abbrev born-create : Option Room → Outcome Made
      born-create room = born (tree_of V) h.number (node_of V (held n.directory)) name room (new_attributes c s n.directory.head.attributes File FILE_MODE now) (file (resized [] s.size)) now

      mkdir-at : (room : Option Room) → mkdir_case c name s room now (tree_of V) (target (tree_of V) h)
          ≡ allowed (tree_of V) (may_rename c n.directory.head.attributes) (cond (is_no_time s.mtime) (refused Invalid (tree_of V)) (born-mkdir room))
      mkdir-at room = at-missed V h c name Exists Exists (mkdir_new c name s room now (tree_of V)) (λ d x n y. refused Exists (tree_of V)) n sound is none

      create-at : (room : Option Room) → create_case c name (Guarded s) room now (tree_of V) (target (tree_of V) h)
          ≡ allowed (tree_of V) (may_rename c n.directory.head.attributes) (cond (is_no_time s.mtime) (refused Invalid (tree_of V)) (cond (is_too_big s.size) (refused TooBig (tree_of V)) (born-create room)))
      create-at room = at-missed V h c name Exists Exists (create_new c name s room now (tree_of V)) (λ d x n y. refused Exists (tree_of V)) n sound is none

      pub mkdir-refused : (status : Status) → making_status c s None n.directory.head.attributes ≡ Some status → Op (mkdir h name s) c now (tree_of V) (made_reply (Err status)) (tree_of V)
      mkdir-refused status why = answers_mkdir h name s None c now (tree_of V) (tree_of V) (Err status) tt (sym (mkdir-at None ∙ making None n.directory.head.attributes status (born-mkdir None) why))

      pub create-refused : (status : Status) → making_status c s s.size n.directory.head.attributes ≡ Some status → Op (create h name (Guarded s)) c now (tree_of V) (made_reply (Err status)) (tree_of V)
      create-refused status why = answers_create h name (Guarded s) None c now (tree_of V) (tree_of V) (Err status) tt (sym (create-at None ∙ making s.size n.directory.head.attributes status (born-create None) why))

      pub mkdir-no_room : making_status c s None n.directory.head.attributes ≡ None → Op (mkdir h name s) c now (tree_of V) (made_reply (Err NoSpace)) (tree_of V)
      mkdir-no_room on = answers_mkdir h name s None c now (tree_of V) (tree_of V) (Err NoSpace) tt (sym (mkdir-at None ∙ making-on None n.directory.head.attributes (born-mkdir None) on))

      pub create-no_room : making_status c s s.size n.directory.head.attributes ≡ None → Op (create h name (Guarded s)) c now (tree_of V) (made_reply (Err NoSpace)) (tree_of V)
      create-no_room on = answers_create h name (Guarded s) None c now (tree_of V) (tree_of V) (Err NoSpace) tt (sym (create-at None ∙ making-on s.size n.directory.head.attributes (born-create None) on))

      -- a node is made
      module _ (W : View) (new : NewNode) (reply : Made) (made : IsMade V W h.number n.directory name new now reply) where
        module _ (on : making_status c s None n.directory.head.attributes ≡ None) (a : new.attributes ≡ new_attributes c s n.directory.head.attributes Directory DIRECTORY_MODE now) (k : new.kind ≡ Directory) (z : new.size ≡ 0) where
          new-directory : Birth V W h n.directory name new now reply
          new-directory = birth V W h n.directory name new now reply sound is.searched.node is.searched.kind (λ _. z) made

          pub mkdir-done : Op (mkdir h name s) c now (tree_of V) (made_reply (Ok reply)) (tree_of W)
          mkdir-done = answers_mkdir h name s (Some new-directory.room) c now (tree_of V) (tree_of W) (Ok reply)
              new-directory.has_room
              (new-directory.outcome
              ∙ (λ i. born (tree_of V) h.number (node_of V (held n.directory)) name (Some new-directory.room) (a i) (new_body (k i) new.size) now)
              ∙ sym (mkdir-at (Some new-directory.room) ∙ making-on None n.directory.head.attributes (born-mkdir (Some new-directory.room)) on))

          pub mkdir-sound : IsAsked s → IsCaller c → IsTime now → IsSoundView W
          mkdir-sound asked caller time = new-directory.stays (mkdir h name s) c asked caller time mkdir-done

        module _ (on : making_status c s s.size n.directory.head.attributes ≡ None) (a : new.attributes ≡ new_attributes c s n.directory.head.attributes File FILE_MODE now) (k : new.kind ≡ File) (z : new.size ≡ unwrap_or s.size 0) where
          not_plain : new.kind ≡ Directory → new.size ≡ 0
          not_plain e = absurd (cc (sym k ∙ e))

          sized : (size : Option ℕ) → file (replicate (unwrap_or size 0) 0) ≡ file (resized [] size)
          sized None = refl
          sized (Some m) = ap file (sym (take-replicate m m 0 (omega arith)))

          new-file : Birth V W h n.directory name new now reply
          new-file = birth V W h n.directory name new now reply sound is.searched.node is.searched.kind not_plain made

          pub create-done : Op (create h name (Guarded s)) c now (tree_of V) (made_reply (Ok reply)) (tree_of W)
          create-done = answers_create h name (Guarded s) (Some new-file.room) c now (tree_of V) (tree_of W) (Ok reply)
              new-file.has_room
              (new-file.outcome
              ∙ (λ i. born (tree_of V) h.number (node_of V (held n.directory)) name (Some new-file.room) (a i) (new_body (k i) (z i)) now)
              ∙ ap (λ b. born (tree_of V) h.number (node_of V (held n.directory)) name (Some new-file.room) (new_attributes c s n.directory.head.attributes File FILE_MODE now) b now) (sized s.size)
              ∙ sym (create-at (Some new-file.room) ∙ making-on s.size n.directory.head.attributes (born-create (Some new-file.room)) on))

          pub create-sound : IsAsked s → IsCaller c → IsTime now → IsSoundView W
          create-sound asked caller time = new-file.stays (create h name (Guarded s)) c asked caller time create-done
