-- An exclusive CREATE: of a name that is free, and of one that is there.
use Rattle.std.proofs.Common.{◌≡◌, ℕ, Bool, true, false, ◌&&◌, cond, List, [], Option, Some, None, Ok, Err, refl, sym, ap, subst, ◌∙◌}
use Rattle.std.specs.Prelude.{Result}
use Rattle.journal_tree.specs.declared.time.Time.{Time}
use Rattle.journal_tree.specs.declared.reply.Handle.{Handle}
use Rattle.journal_tree.specs.declared.reply.Kind.{Kind}
use Rattle.journal_tree.specs.declared.reply.Kind.TheVariants.{Directory, File, Link}
use Rattle.journal_tree.specs.declared.reply.Made.{Made}
use Rattle.journal_tree.specs.declared.reply.Room.{Room}
use Rattle.journal_tree.specs.declared.reply.Told.{Told}
use Rattle.journal_tree.specs.declared.settings.CreateMode.TheVariants.{Exclusive}
use Rattle.journal_tree.specs.declared.caller.Caller.{Caller}
use Rattle.journal_tree.specs.declared.status.Status.{Status}
use Rattle.journal_tree.specs.declared.status.Status.TheVariants.{Exists, NoAccess, NoSpace}
use Rattle.journal_tree.specs.Times.{IsTime}
use Rattle.journal_tree.specs.Trees.{is_file}
use Rattle.journal_tree.specs.Trees.Body.{file}
use Rattle.journal_tree.specs.Fit.{IsLong, IsCaller}
use Rattle.journal_tree.specs.Rights.{may_rename}
use Rattle.journal_tree.specs.Calls.{Outcome, refused, target, allowed, told}
use Rattle.journal_tree.specs.Names.{born, made_before, exclusive_attributes, create_exclusive, is_verifier, create_again, create_case}
use Rattle.journal_tree.specs.Op.{Op}
use Rattle.journal_tree.specs.Op.Call.{create}
use Rattle.journal_tree.specs.Op.Reply.{made as made_reply}
use Rattle.journal_tree.specs.Op.Op.{answers_create}
use Rattle.journal_treestore.specs.Views.{Held, Seen, View, held_of, body_of, node_of, slot_of, tree_of}
use Rattle.journal_treestore.specs.Views.Seen.{used}
use Rattle.journal_treestore.specs.Sound.{IsSoundView}
use Rattle.journal_treestore.specs.Steps.{new_body}
use Rattle.journal_treestore.proofs.Viewing.{inode-node}
use Rattle.journal_treecalls.specs.declared.search.Hit.{Hit}
use Rattle.journal_treecalls.specs.declared.named.Named.{Named}
use Rattle.journal_treecalls.specs.declared.creation.NewNode.{NewNode}
use Rattle.journal_treecalls.specs.declared.creation.Plan.{Plan}
use Rattle.journal_treecalls.specs.Disks.{Write, written, Learns, Does}
use Rattle.journal_treecalls.specs.Targets.{held, told_of, Hits, IsHit}
use Rattle.journal_treecalls.specs.Names.{is_file_kind, IsNamed, IsNameFor, IsUnnamed}
use Rattle.journal_treecalls.specs.Rooms.{IsMade, IsMakingPlanned, MakesPlanned}
use Rattle.journal_treecalls.specs.Rooms.IsMakingNode.{full, makes}
use Rattle.journal_treecalls.specs.Rooms.IsMakingPlanned.{kept, tried}
use Rattle.journal_treecalls.specs.Takings.{taken_made}
use Rattle.journal_treecalls.specs.Exclusives.{exclusive_refusal, exclusive_plan, is_same_file, told_before, IsCreatingOnce, CreatesOnce}
use Rattle.journal_treecalls.specs.Exclusives.IsCreatingOnce.{there, missing}
use Rattle.journal_treecalls.proofs.Births.{Birth}
use Rattle.journal_treecalls.proofs.Furthers.{birth}
use Rattle.journal_treecalls.proofs.Learning.{does-reads}
use Rattle.journal_treecalls.proofs.Learned.{AreSound}
use Rattle.journal_treecalls.proofs.Cases.{node-told, told-is}
use Rattle.journal_treecalls.proofs.ByName.{at-unnamed, at-missed, at-hit}

module _ (V : View) (h : Handle) (c : Caller) (name : List ℕ) (verifier : ℕ) (now : Time) where
  exclusive-unnamed : (status : Status) → IsUnnamed V c h name Exists Exists status → Op (create h name (Exclusive verifier)) c now (tree_of V) (made_reply (Err status)) (tree_of V)
  exclusive-unnamed status why = answers_create h name (Exclusive verifier) None c now (tree_of V) (tree_of V) (Err status) tt
      (sym (at-unnamed V h c name Exists Exists (create_exclusive c name verifier None now (tree_of V)) (create_again verifier (tree_of V)) status why))

  module _ (n : Named) (sound : IsSoundView V) (is : IsNamed V c h name n) where
    -- ── the name is there ──

    module _ (hit : Hit) (here : n.hit ≡ Some hit) where
      hits : IsHit V n.directory.head name hit
      hits = subst (λ o. Hits V n.directory.head name o) here is.hits

      at : V.inode hit.number ≡ used (held_of hit.head name)
      at = hits.is.inside.is.inode

      kind-is : (x : Held) (k : Kind) → is_file (body_of V k x) ≡ is_file_kind k
      kind-is x Directory = refl
      kind-is x File = refl
      kind-is x Link = refl

      abbrev same : Outcome Made
      same = made_before (tree_of V) h.number (node_of V (held n.directory)) hit.number (node_of V (held_of hit.head name))

      found : create_case c name (Exclusive verifier) None now (tree_of V) (target (tree_of V) h) ≡ cond (is_same_file verifier hit.head) same (refused Exists (tree_of V))
      found =
          at-hit V h c name Exists Exists (create_exclusive c name verifier None now (tree_of V)) (create_again verifier (tree_of V)) n hit sound is here
          ∙ ap (λ b. cond (b && is_verifier hit.head.attributes.verifier verifier) same (refused Exists (tree_of V))) (kind-is (held_of hit.head name) hit.head.kind)

      told-directory : told h.number (node_of V (held n.directory)) ≡ told_of h.number n.directory.head
      told-directory = node-told V h n.directory sound is.searched.node

      generation-is : ((tree_of V).at hit.number).generation ≡ hit.head.generation
      generation-is = ap (λ (y : Seen). (slot_of V y).generation) at

      told-file : told hit.number (node_of V (held_of hit.head name)) ≡ told_of hit.number hit.head
      told-file = told-is V hit.number (held_of hit.head name) (sound.inodes hit.number (held_of hit.head name) at)

      abbrev told-so : Bool → Outcome Made
      told-so b = (cond b (Ok (taken_made (told_of h.number n.directory.head) hit hit.head)) (Err Exists), tree_of V)

      told-as : (b : Bool) → cond b same (refused Exists (tree_of V)) ≡ told-so b
      told-as true = λ i. (Ok (record { generation = generation-is i; node = told-file i; directory = record { before = told-directory i; after = told-directory i } }), tree_of V)
      told-as false = refl

      exclusive-there : Op (create h name (Exclusive verifier)) c now (tree_of V) (made_reply (told_before (told_of h.number n.directory.head) hit verifier)) (tree_of V)
      exclusive-there = answers_create h name (Exclusive verifier) None c now (tree_of V) (tree_of V) (told_before (told_of h.number n.directory.head) hit verifier) tt (sym (found ∙ told-as (is_same_file verifier hit.head)))

    -- ── it is not ──

    module _ (none : n.hit ≡ None) where
      abbrev born-file : Option Room → Outcome Made
      born-file room = born (tree_of V) h.number (node_of V (held n.directory)) name room (exclusive_attributes c verifier n.directory.head.attributes now) (file []) now

      at-free : (room : Option Room) → create_case c name (Exclusive verifier) room now (tree_of V) (target (tree_of V) h) ≡ allowed (tree_of V) (may_rename c n.directory.head.attributes) (born-file room)
      at-free room = at-missed V h c name Exists Exists (create_exclusive c name verifier room now (tree_of V)) (create_again verifier (tree_of V)) n sound is none

      refusing : (status : Status) (o : Outcome Made) → exclusive_refusal c n.directory.head.attributes ≡ Some status → allowed (tree_of V) (may_rename c n.directory.head.attributes) o ≡ refused status (tree_of V)
      refusing status o = by (may_rename c n.directory.head.attributes)
        where
          by : (may : Bool) → cond may None (Some NoAccess) ≡ Some status → cond may o (refused NoAccess (tree_of V)) ≡ refused status (tree_of V)
          by true why = absurd (cc (why))
          by false why = ap (λ s. refused s (tree_of V)) (cc)

      allowing : (o : Outcome Made) → exclusive_refusal c n.directory.head.attributes ≡ None → allowed (tree_of V) (may_rename c n.directory.head.attributes) o ≡ o
      allowing o = by (may_rename c n.directory.head.attributes)
        where
          by : (may : Bool) → cond may None (Some NoAccess) ≡ None → cond may o (refused NoAccess (tree_of V)) ≡ o
          by true on = refl
          by false on = absurd (cc (on))

      exclusive-refused : (status : Status) → exclusive_refusal c n.directory.head.attributes ≡ Some status → Op (create h name (Exclusive verifier)) c now (tree_of V) (made_reply (Err status)) (tree_of V)
      exclusive-refused status why = answers_create h name (Exclusive verifier) None c now (tree_of V) (tree_of V) (Err status) tt (sym (at-free None ∙ refusing status (born-file None) why))

      exclusive-no_room : exclusive_refusal c n.directory.head.attributes ≡ None → Op (create h name (Exclusive verifier)) c now (tree_of V) (made_reply (Err NoSpace)) (tree_of V)
      exclusive-no_room on = answers_create h name (Exclusive verifier) None c now (tree_of V) (tree_of V) (Err NoSpace) tt (sym (at-free None ∙ allowing (born-file None) on))

      -- a file is made
      module _ (W : View) (new : NewNode) (reply : Made) (made : IsMade V W h.number n.directory name new now reply) (on : exclusive_refusal c n.directory.head.attributes ≡ None)
          (a : new.attributes ≡ exclusive_attributes c verifier n.directory.head.attributes now) (k : new.kind ≡ File) (z : new.size ≡ 0) where
        new-file : Birth V W h n.directory name new now reply
        new-file = birth V W h n.directory name new now reply sound is.searched.node is.searched.kind (λ _. z) made

        exclusive-done : Op (create h name (Exclusive verifier)) c now (tree_of V) (made_reply (Ok reply)) (tree_of W)
        exclusive-done = answers_create h name (Exclusive verifier) (Some new-file.room) c now (tree_of V) (tree_of W) (Ok reply)
            new-file.has_room
            (new-file.outcome
            ∙ (λ i. born (tree_of V) h.number (node_of V (held n.directory)) name (Some new-file.room) (a i) (new_body (k i) (z i)) now)
            ∙ sym (at-free (Some new-file.room) ∙ allowing (born-file (Some new-file.room)) on))

        exclusive-sound : IsLong verifier → IsCaller c → IsTime now → IsSoundView W
        exclusive-sound long caller time = new-file.stays (create h name (Exclusive verifier)) c long caller time exclusive-done

-- ── the steps ──

module _ (old new : View → Type 0) (ws : List Write) (d : ℕ) (n : Named) (name : List ℕ) (plan : Plan) (verifier : ℕ) (now : Time) where
  pub once-there : (hit : Hit) (directory : Told) (reply : Result Made Status) → ws ≡ [] → n.hit ≡ Some hit → directory ≡ told_of d n.directory.head → reply ≡ told_before directory hit verifier → ((V : View) → new V → old V)
      → CreatesOnce old new ws d n name plan verifier now reply
  once-there hit directory reply none here tells is same = subst (λ r. CreatesOnce old new ws d n name plan verifier now r) (sym (is ∙ ap (λ (t : Told). told_before t hit verifier) tells)) (record {
    same = same;
    is = λ time V m. there hit here (ap (λ ws. written ws V) none);
  })

  pub once-missing : (reply : Result Made Status) → n.hit ≡ None → MakesPlanned old new ws d n.directory name plan now reply → CreatesOnce old new ws d n name plan verifier now reply
  once-missing reply none made = record { same = made.same; is = λ time V m. missing reply none (made.is time V m) }

-- ── the call ──

module _ (first old new : View → Type 0) (sound : AreSound new) (ws : List Write) (h : Handle) (name : List ℕ) (c : Caller) (verifier : ℕ) (now : Time) (found : Result Named Status)
    (l : Learns first old (λ V. IsNameFor V c h name Exists Exists found)) where
  pub exclusive-err : (status : Status) → ws ≡ [] → found ≡ Err status → ((V : View) → new V → old V) → Does new ws (create h name (Exclusive verifier)) c now (made_reply (Err status))
  exclusive-err status none is same = does-reads new ws (create h name (Exclusive verifier)) c now (made_reply (Err status)) none sound (λ V m.
      exclusive-unnamed V h c name verifier now status (subst (IsNameFor V c h name Exists Exists) is (l.now V (same V m))))

  module _ (n : Named) (is : found ≡ Ok n) (long : IsLong verifier) (caller : IsCaller c) (time : IsTime now) (plan : Plan) (planned : plan ≡ exclusive_plan c verifier n.directory.head.attributes now) (reply : Result Made Status)
      (creates : CreatesOnce old new ws h.number n name plan verifier now reply) where
    named : (V : View) → new V → IsNamed V c h name n
    named V m = subst (IsNameFor V c h name Exists Exists) is (l.now V (creates.same V m))

    ctime : (V : View) → new V → IsTime n.directory.head.attributes.ctime
    ctime V m = ((sound V m).fit.nodes h.number (node_of V (held n.directory)) (inode-node V h.number (held n.directory) (named V m).searched.node.is)).ctime

    on_plan : (o : Option Status) → plan.refusal ≡ o → exclusive_refusal c n.directory.head.attributes ≡ o
    on_plan o is = sym (ap (λ (p : Plan). p.refusal) planned) ∙ is

    made-file : (V : View) → new V → (W : View) → n.hit ≡ None → (reply : Result Made Status) → IsMakingPlanned V W h.number n.directory name plan now reply → Op (create h name (Exclusive verifier)) c now (tree_of V) (made_reply reply) (tree_of W) × IsSoundView W
    made-file V m W none _ (kept status why still) = subst (λ W. Op (create h name (Exclusive verifier)) c now (tree_of V) (made_reply (Err status)) (tree_of W) × IsSoundView W) (sym still)
        (exclusive-refused V h c name verifier now n (sound V m) (named V m) none status (on_plan (Some status) why), sound V m)
    made-file V m W none _ (tried _ on (full still)) = subst (λ W. Op (create h name (Exclusive verifier)) c now (tree_of V) (made_reply (Err NoSpace)) (tree_of W) × IsSoundView W) (sym still)
        (exclusive-no_room V h c name verifier now n (sound V m) (named V m) none (on_plan None on), sound V m)
    made-file V m W none _ (tried _ on (makes made done)) = (
      exclusive-done V h c name verifier now n (sound V m) (named V m) none W plan.node made done (on_plan None on) (ap (λ (p : Plan). p.node.attributes) planned) (ap (λ (p : Plan). p.node.kind) planned) (ap (λ (p : Plan). p.node.size) planned),
      exclusive-sound V h c name verifier now n (sound V m) (named V m) none W plan.node made done (on_plan None on) (ap (λ (p : Plan). p.node.attributes) planned) (ap (λ (p : Plan). p.node.kind) planned) (ap (λ (p : Plan). p.node.size) planned) long caller time,
    )

    either : (V : View) → new V → (W : View) (reply : Result Made Status) → IsCreatingOnce V W h.number n name plan verifier now reply → Op (create h name (Exclusive verifier)) c now (tree_of V) (made_reply reply) (tree_of W) × IsSoundView W
    either V m W _ (there hit here still) = subst (λ W. Op (create h name (Exclusive verifier)) c now (tree_of V) (made_reply (told_before (told_of h.number n.directory.head) hit verifier)) (tree_of W) × IsSoundView W) (sym still)
        (exclusive-there V h c name verifier now n (sound V m) (named V m) hit here, sound V m)
    either V m W _ (missing reply none making) = made-file V m W none reply making

    pub exclusive-ok : Does new ws (create h name (Exclusive verifier)) c now (made_reply reply)
    exclusive-ok = record { op = λ V m. (either V m (written ws V) reply (creates.is (ctime V m) V m)).0; sound = λ V m. (either V m (written ws V) reply (creates.is (ctime V m) V m)).1 }
