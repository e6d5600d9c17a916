-- CREATE of a name that is there, or of one that is not.
use Rattle.std.proofs.Common.{◌≡◌, ℕ, Bool, true, false, not, cond, List, [], Option, Some, None, Ok, Err, refl, sym, ap, subst, ◌∙◌}
use Rattle.std.specs.Prelude.{Result, is_none}
use Rattle.std.proofs.lemmas.Bool.{eq-eqb}
use Rattle.journal_tree.specs.declared.time.Time.{Time}
use Rattle.journal_tree.specs.declared.reply.Handle.{Handle}
use Rattle.journal_tree.specs.declared.reply.Kind.{Kind}
use Rattle.journal_tree.specs.declared.reply.Kind.TheVariants.{Directory, File, Link}
use Rattle.journal_tree.specs.declared.reply.Made.{Made}
use Rattle.journal_tree.specs.declared.reply.Told.{Told}
use Rattle.journal_tree.specs.declared.settings.CreateMode.TheVariants.{Unchecked, Guarded}
use Rattle.journal_tree.specs.declared.settings.Settings.{Settings}
use Rattle.journal_tree.specs.declared.caller.Caller.{Caller}
use Rattle.journal_tree.specs.declared.status.Status.{Status}
use Rattle.journal_tree.specs.declared.status.Status.TheVariants.{Exists, NoAccess, NoSpace, TooBig}
use Rattle.journal_tree.specs.Times.{IsTime}
use Rattle.journal_tree.specs.Trees.{Node, Slot, Tree, is_file, with_node}
use Rattle.journal_tree.specs.Fit.{IsAsked, IsCaller}
use Rattle.journal_tree.specs.Rights.{may_store}
use Rattle.journal_tree.specs.Attributes.{is_too_big, with_settings}
use Rattle.journal_tree.specs.Calls.{Outcome, refused, target, told}
use Rattle.journal_tree.specs.Names.{size_alone, made_before, create_over, create_new, create_case}
use Rattle.journal_tree.specs.Op.{Op}
use Rattle.journal_tree.specs.Op.Call.{create}
use Rattle.journal_tree.specs.Op.Reply.{made as made_reply}
use Rattle.journal_tree.specs.Op.Op.{answers_create}
use Rattle.journal_treestore.specs.declared.inode.Head.{Head}
use Rattle.journal_treestore.specs.declared.inode.Inode.{Inode}
use Rattle.journal_treestore.specs.declared.inode.Inode.TheVariants.{Free, Used}
use Rattle.journal_treestore.specs.Inodes.{inode_from, name_from}
use Rattle.journal_treestore.specs.Views.{Held, Seen, View, held_of, seen, body_of, node_of, slot_of, tree_of}
use Rattle.journal_treestore.specs.Views.Seen.{used}
use Rattle.journal_treestore.specs.Sound.{IsSoundView}
use Rattle.journal_treestore.proofs.Viewing.{inode-node}
use Rattle.journal_treecalls.specs.declared.node.Record.{Record}
use Rattle.journal_treecalls.specs.declared.search.Hit.{Hit}
use Rattle.journal_treecalls.specs.declared.named.Named.{Named}
use Rattle.journal_treecalls.specs.declared.creation.Plan.{Plan}
use Rattle.journal_treecalls.specs.Disks.{Write, written, Learns, Does}
use Rattle.journal_treecalls.specs.Targets.{held, told_of, Hits, IsHit}
use Rattle.journal_treecalls.specs.Names.{is_file_kind, IsNamed, IsNameFor}
use Rattle.journal_treecalls.specs.Sizes.{IsSetHead, tails_of, with_set, SetsHead}
use Rattle.journal_treecalls.specs.Rooms.{create_plan, IsMakingPlanned, MakesPlanned}
use Rattle.journal_treecalls.specs.Rooms.IsMakingNode.{full, makes}
use Rattle.journal_treecalls.specs.Rooms.IsMakingPlanned.{kept as plan_kept, tried}
use Rattle.journal_treecalls.specs.Takings.{taking_by, taking_status, taken_made, IsRecordOf, IsSized, Sizes, IsSizing, SizesAny, Takes, TakesOver, IsCreating, Creates}
use Rattle.journal_treecalls.specs.Takings.IsSizing.{stays, sizes}
use Rattle.journal_treecalls.specs.Takings.Takes.{kept, takes}
use Rattle.journal_treecalls.specs.Takings.IsCreating.{there, missing}
use Rattle.journal_treecalls.proofs.Learning.{does-reads}
use Rattle.journal_treecalls.proofs.Learned.{AreSound}
use Rattle.journal_treecalls.proofs.Cases.{node-told, told-is}
use Rattle.journal_treecalls.proofs.ByName.{at-unnamed, at-missed, at-hit}
use Rattle.journal_treecalls.proofs.Making.{create-refused, create-no_room, create-done, create-sound}
use Rattle.journal_treestore.specs.Steps.{IsNodeStep}
use Rattle.journal_treestore.proofs.Stepping.{tree-step, step-sound}
use Rattle.journal_treecalls.proofs.Resizing.{set-step}

-- the name that a record shows
name-is : (h : Head) (name : List ℕ) (r : Record) → IsRecordOf h name r → name_from r.bytes ≡ name
name-is h name r is = by (inode_from r.bytes) is.bytes
  where
    by : (x : Inode) → seen x (name_from r.bytes) ≡ used (held_of h name) → name_from r.bytes ≡ name
    by (Free g) e = absurd (cc (e))
    by (Used g) e = let q : held_of g (name_from r.bytes) ≡ held_of h name = cc in ap (λ (x : Held). x.home.name) q

module _ (V : View) (h : Handle) (c : Caller) (name : List ℕ) (s : Settings) (now : Time) where
  pub unchecked-unnamed : (status : Status) → Rattle.journal_treecalls.specs.Names.IsUnnamed V c h name Exists Exists status → Op (create h name (Unchecked s)) c now (tree_of V) (made_reply (Err status)) (tree_of V)
  unchecked-unnamed status why = answers_create h name (Unchecked s) None c now (tree_of V) (tree_of V) (Err status) tt
      (sym (at-unnamed V h c name Exists Exists (create_new c name s None now (tree_of V)) (create_over c s now (tree_of V)) status why))

  module _ (n : Named) (sound : IsSoundView V) (is : IsNamed V c h name n) where
    -- where the name is free, the modes are one
    pub as-guarded : n.hit ≡ None → (T2 : Tree) (reply : Result Made Status) → Op (create h name (Guarded s)) c now (tree_of V) (made_reply reply) T2 → Op (create h name (Unchecked s)) c now (tree_of V) (made_reply reply) T2
    as-guarded none T2 reply (answers_create _ _ _ room _ _ _ _ _ takes_room eq) = answers_create h name (Unchecked s) room c now (tree_of V) T2 reply takes_room (
        eq
        ∙ at-missed V h c name Exists Exists (create_new c name s room now (tree_of V)) (λ d x n y. refused Exists (tree_of V)) n sound is none
        ∙ sym (at-missed V h c name Exists Exists (create_new c name s room now (tree_of V)) (create_over c s now (tree_of V)) n sound is none))

    module _ (hit : Hit) (here : n.hit ≡ Some hit) where
      abbrev y : Node
      y = node_of V (held_of hit.head name)

      hits : IsHit V n.directory.head name hit
      hits = subst (λ o. Hits V n.directory.head name o) here is.hits

      at : V.inode hit.number ≡ used (held_of hit.head name)
      at = hits.is.inside.is.inode

      kind-is : (x : Held) (k : Kind) → is_file (body_of V k x) ≡ is_file_kind k
      kind-is x Directory = refl
      kind-is x File = refl
      kind-is x Link = refl

      abbrev same : Outcome Made
      same = made_before (tree_of V) h.number (node_of V (held n.directory)) hit.number (node_of V (held_of hit.head name))

      abbrev other : Node
      other = with_settings c (size_alone s.size) (node_of V (held_of hit.head name)) now

      abbrev set_over : Outcome Made
      set_over = made_before (with_node (tree_of V) hit.number (Some (with_settings c (size_alone s.size) (node_of V (held_of hit.head name)) now))) h.number (node_of V (held n.directory)) hit.number (with_settings c (size_alone s.size) (node_of V (held_of hit.head name)) now)

      abbrev outcome : Bool → Bool → Bool → Bool → Outcome Made
      outcome other_kind none may big = cond other_kind (refused Exists (tree_of V)) (cond none same (cond may (cond big (refused TooBig (tree_of V)) set_over) (refused NoAccess (tree_of V))))

      found : create_case c name (Unchecked s) None now (tree_of V) (target (tree_of V) h) ≡ outcome (not (is_file_kind hit.head.kind)) (is_none s.size) (may_store c hit.head.attributes) (is_too_big s.size)
      found =
          at-hit V h c name Exists Exists (create_new c name s None now (tree_of V)) (create_over c s now (tree_of V)) n hit sound is here
          ∙ ap (λ b. outcome (not b) (is_none s.size) (may_store c hit.head.attributes) (is_too_big s.size)) (kind-is (held_of hit.head name) hit.head.kind)

      pub over-refused : (status : Status) → taking_status c hit.head s.size ≡ Some status → Op (create h name (Unchecked s)) c now (tree_of V) (made_reply (Err status)) (tree_of V)
      over-refused status why = answers_create h name (Unchecked s) None c now (tree_of V) (tree_of V) (Err status) tt (sym (found ∙ by hit.head.kind why))
        where
          chained : (none may big : Bool) → cond none None (cond (not may) (Some NoAccess) (cond big (Some TooBig) None)) ≡ Some status → outcome false none may big ≡ refused status (tree_of V)
          chained true may big w = absurd (cc (w))
          chained false false big w = ap (λ s. refused s (tree_of V)) (cc)
          chained false true true w = ap (λ s. refused s (tree_of V)) (cc)
          chained false true false w = absurd (cc (w))

          by : (k : Kind) → taking_by k (may_store c hit.head.attributes) s.size ≡ Some status → outcome (not (is_file_kind k)) (is_none s.size) (may_store c hit.head.attributes) (is_too_big s.size) ≡ refused status (tree_of V)
          by Directory w = ap (λ s. refused s (tree_of V)) (cc)
          by Link w = ap (λ s. refused s (tree_of V)) (cc)
          by File w = chained (is_none s.size) (may_store c hit.head.attributes) (is_too_big s.size) w

      module _ (on : taking_status c hit.head s.size ≡ None) where
        a_file : hit.head.kind ≡ File
        a_file = by hit.head.kind on
          where
            by : (k : Kind) → taking_by k (may_store c hit.head.attributes) s.size ≡ None → k ≡ File
            by Directory w = absurd (cc (w))
            by Link w = absurd (cc (w))
            by File w = refl

        told-directory : told h.number (node_of V (held n.directory)) ≡ told_of h.number n.directory.head
        told-directory = node-told V h n.directory sound is.searched.node

        generation-is : ((tree_of V).at hit.number).generation ≡ hit.head.generation
        generation-is = ap (λ (y : Seen). (slot_of V y).generation) at

        found-file : (none may big : Bool) → is_none s.size ≡ none → may_store c hit.head.attributes ≡ may → is_too_big s.size ≡ big → create_case c name (Unchecked s) None now (tree_of V) (target (tree_of V) h) ≡ outcome false none may big
        found-file none may big a b d = found ∙ (λ i. outcome (ap (λ k. not (is_file_kind k)) a_file i) (a i) (b i) (d i))

        -- no size is asked for
        pub over-stays : s.size ≡ None → Op (create h name (Unchecked s)) c now (tree_of V) (made_reply (Ok (taken_made (told_of h.number n.directory.head) hit hit.head))) (tree_of V)
        over-stays unsized = answers_create h name (Unchecked s) None c now (tree_of V) (tree_of V) (Ok (taken_made (told_of h.number n.directory.head) hit hit.head)) tt (sym (
            found-file true (may_store c hit.head.attributes) (is_too_big s.size) (ap is_none unsized) refl refl
            ∙ (λ i. (
              Ok (record { generation = generation-is i; node = told-is V hit.number (held_of hit.head name) (sound.inodes hit.number (held_of hit.head name) at) i; directory = record { before = told-directory i; after = told-directory i } }),
              tree_of V,
            ))))

        -- one is
        module _ (size : ℕ) (asked : s.size ≡ Some size) (W : View) (k : Head) (sized : IsSized V W c hit name (Some size) now k) where
          abbrev r : Record
          r = sized.record_is

          held-is : held sized.record_is ≡ held_of hit.head name
          held-is = λ i. held_of (sized.is.head i) (name-is hit.head name sized.record_is sized.is i)

          inode-is : V.inode hit.number ≡ used (held sized.record_is)
          inode-is = at ∙ ap used (sym held-is)

          set-is : IsSetHead c (size_alone (Some size)) now sized.record_is.head k
          set-is = subst (λ h. IsSetHead c (size_alone (Some size)) now h k) (sym sized.is.head) sized.sets

          view-is : W ≡ with_set V hit.number sized.record_is k (tails_of V sized.record_is.head k.size)
          view-is = sized.view ∙ ap (λ (h : Head). with_set V hit.number sized.record_is k (tails_of V h k.size)) (sym sized.is.head)

          small : is_too_big (Some size) ≡ false
          small = by (may_store c hit.head.attributes) (is_too_big (Some size)) (sym (ap (λ k. taking_by k (may_store c hit.head.attributes) (Some size)) a_file) ∙ sym (ap (taking_status c hit.head) asked) ∙ on)
            where
              by : (m big : Bool) → cond (not m) (Some NoAccess) (cond big (Some TooBig) None) ≡ None → big ≡ false
              by true false w = refl
              by true true w = absurd (cc (w))
              by false big w = absurd (cc (w))

          both : IsNodeStep V W hit.number (held sized.record_is) (held_of k (name_from sized.record_is.bytes)) × (node_of W (held_of k (name_from sized.record_is.bytes)) ≡ with_settings c (size_alone (Some size)) (node_of V (held sized.record_is)) now)
          both = subst (λ W. IsNodeStep V W hit.number (held sized.record_is) (held_of k (name_from sized.record_is.bytes)) × (node_of W (held_of k (name_from sized.record_is.bytes)) ≡ with_settings c (size_alone (Some size)) (node_of V (held sized.record_is)) now))
              (sym view-is)
              (set-step V hit.number sized.record_is k c (size_alone (Some size)) now sound inode-is set-is (λ other. absurd (other (ap (λ (h : Head). h.kind) sized.is.head ∙ a_file))) small)

          node-is : node_of W (held_of k (name_from sized.record_is.bytes)) ≡ with_settings c (size_alone s.size) (node_of V (held_of hit.head name)) now
          node-is = both.1 ∙ (λ i. with_settings c (size_alone (sym asked i)) (node_of V (held-is i)) now)

          tree-is : tree_of W ≡ with_node (tree_of V) hit.number (Some (with_settings c (size_alone s.size) (node_of V (held_of hit.head name)) now))
          tree-is = tree-step V W hit.number (held sized.record_is) (held_of k (name_from sized.record_is.bytes)) sound both.0 ∙ ap (λ x. with_node (tree_of V) hit.number (Some x)) node-is

          told-after : told hit.number (with_settings c (size_alone s.size) (node_of V (held_of hit.head name)) now) ≡ told_of hit.number k
          told-after = ap (told hit.number) (sym node-is) ∙ told-is W hit.number (held_of k (name_from sized.record_is.bytes)) both.0.sound

          generation-after : ((with_node (tree_of V) hit.number (Some (with_settings c (size_alone s.size) (node_of V (held_of hit.head name)) now))).at hit.number).generation ≡ hit.head.generation
          generation-after =
              ap (λ b. Slot.generation (cond b (record { generation = ((tree_of V).at hit.number).generation; node = Some (with_settings c (size_alone s.size) (node_of V (held_of hit.head name)) now) }) ((tree_of V).at hit.number))) (eq-eqb hit.number hit.number refl)
              ∙ generation-is

          may : may_store c hit.head.attributes ≡ true
          may = by (may_store c hit.head.attributes) (is_too_big (Some size)) (sym (ap (λ k. taking_by k (may_store c hit.head.attributes) (Some size)) a_file) ∙ sym (ap (taking_status c hit.head) asked) ∙ on)
            where
              by : (m big : Bool) → cond (not m) (Some NoAccess) (cond big (Some TooBig) None) ≡ None → m ≡ true
              by true big w = refl
              by false big w = absurd (cc (w))

          pub over-done : Op (create h name (Unchecked s)) c now (tree_of V) (made_reply (Ok (taken_made (told_of h.number n.directory.head) hit k))) (tree_of W)
          over-done = answers_create h name (Unchecked s) None c now (tree_of V) (tree_of W) (Ok (taken_made (told_of h.number n.directory.head) hit k)) tt (sym (
              found-file false true false (ap is_none asked) may (ap is_too_big asked ∙ small)
              ∙ (λ i. (
                Ok (record { generation = generation-after i; node = told-after i; directory = record { before = told-directory i; after = told-directory i } }),
                sym tree-is i,
              ))))

          pub over-sound : IsAsked s → IsCaller c → IsTime now → IsSoundView W
          over-sound sane caller time = step-sound V W hit.number (held sized.record_is) (held_of k (name_from sized.record_is.bytes)) sound both.0 (create h name (Unchecked s)) c now (made_reply (Ok (taken_made (told_of h.number n.directory.head) hit k))) sane caller time over-done

-- ── what is written ──

pub size-set : (old new : View → Type 0) (ws : List Write) (c : Caller) (hit : Hit) (name : List ℕ) (size : Option ℕ) (now : Time) (r : Record) (k : Head) (reply : Rattle.journal_tree.specs.declared.reply.Changed.Changed) → IsRecordOf hit.head name r → IsSetHead c (size_alone size) now hit.head k
    → SetsHead old new ws hit.number r k reply → Sizes old new ws c hit name size now k
size-set old new ws c hit name size now r k reply is set p = record {
  same = p.same;
  is = λ V m. record { record_is = r; is = is; sets = set; view = p.is V m ∙ ap (λ (h : Head). with_set V hit.number r k (tails_of V h k.size)) is.head };
}

pub size-none : (old : View → Type 0) (ws : List Write) (c : Caller) (hit : Hit) (name : List ℕ) (size : Option ℕ) (now : Time) → ws ≡ [] → size ≡ None → SizesAny old old ws c hit name size now hit.head
size-none old ws c hit name size now none is = record { same = λ V m. m; is = λ V m. subst (IsSizing V (written ws V) c hit name now hit.head) (sym is) (stays (ap (λ ws. written ws V) none) refl) }

pub size-some : (old new : View → Type 0) (ws : List Write) (c : Caller) (hit : Hit) (name : List ℕ) (size : Option ℕ) (now : Time) (m : ℕ) (k : Head) → size ≡ Some m → Sizes old new ws c hit name (Some m) now k → SizesAny old new ws c hit name size now k
size-some old new ws c hit name size now m k is p = record { same = p.same; is = λ V may. subst (IsSizing V (written ws V) c hit name now k) (sym is) (sizes m (p.is V may)) }

pub take-kept : (old : View → Type 0) (ws : List Write) (c : Caller) (directory : Told) (hit : Hit) (name : List ℕ) (size : Option ℕ) (now : Time) (o : Option Status) (status : Status) → ws ≡ [] → o ≡ taking_status c hit.head size → o ≡ Some status → TakesOver old old ws c directory hit name size now (Err status)
take-kept old ws c directory hit name size now o status none is why = record { same = λ V m. m; is = λ V m. kept status (sym is ∙ why) (ap (λ ws. written ws V) none) }

pub take-done : (old new : View → Type 0) (ws : List Write) (c : Caller) (directory : Told) (hit : Hit) (name : List ℕ) (size : Option ℕ) (now : Time) (o : Option Status) (k : Head) (reply : Made) → o ≡ taking_status c hit.head size → o ≡ None → SizesAny old new ws c hit name size now k → reply ≡ taken_made directory hit k
    → TakesOver old new ws c directory hit name size now (Ok reply)
take-done old new ws c directory hit name size now o k reply is on p tells = record { same = p.same; is = λ V m. takes k reply (sym is ∙ on) (p.is V m) tells }

pub creates-there : (old new : View → Type 0) (ws : List Write) (c : Caller) (d : ℕ) (n : Named) (name : List ℕ) (plan : Plan) (size : Option ℕ) (now : Time) (hit : Hit) (directory : Told) (reply : Result Made Status) → n.hit ≡ Some hit → directory ≡ told_of d n.directory.head
    → TakesOver old new ws c directory hit name size now reply → Creates old new ws c d n name plan size now reply
creates-there old new ws c d n name plan size now hit directory reply is tells p = record {
  same = p.same;
  is = λ time V m. there hit reply is (subst (λ t. Takes V (written ws V) c t hit name size now reply) tells (p.is V m));
}

pub creates-missing : (old new : View → Type 0) (ws : List Write) (c : Caller) (d : ℕ) (n : Named) (name : List ℕ) (plan : Plan) (size : Option ℕ) (now : Time) (reply : Result Made Status) → n.hit ≡ None → MakesPlanned old new ws d n.directory name plan now reply → Creates old new ws c d n name plan size now reply
creates-missing old new ws c d n name plan size now reply none p = record { same = p.same; is = λ time V m. missing reply none (p.is time V m) }

-- ── the call ──

module _ (first old new : View → Type 0) (sound : AreSound new) (ws : List Write) (h : Handle) (name : List ℕ) (c : Caller) (s : Settings) (now : Time) (found : Result Named Status)
    (l : Learns first old (λ V. IsNameFor V c h name Exists Exists found)) where
  pub unchecked-err : (status : Status) → ws ≡ [] → found ≡ Err status → ((V : View) → new V → old V) → Does new ws (create h name (Unchecked s)) c now (made_reply (Err status))
  unchecked-err status none is same = does-reads new ws (create h name (Unchecked s)) c now (made_reply (Err status)) none sound (λ V m.
      unchecked-unnamed V h c name s now status (subst (IsNameFor V c h name Exists Exists) is (l.now V (same V m))))

  module _ (n : Named) (is : found ≡ Ok n) (asked : IsAsked s) (caller : IsCaller c) (time : IsTime now) (plan : Plan) (planned : plan ≡ create_plan c s n.directory.head.attributes now) (reply : Result Made Status) (creates : Creates old new ws c h.number n name plan s.size now reply) where
    named : (V : View) → new V → IsNamed V c h name n
    named V m = subst (IsNameFor V c h name Exists Exists) is (l.now V (creates.same V m))

    ctime : (V : View) → new V → IsTime n.directory.head.attributes.ctime
    ctime V m = ((sound V m).fit.nodes h.number (node_of V (held n.directory)) (inode-node V h.number (held n.directory) (named V m).searched.node.is)).ctime

    over : (V : View) → new V → (W : View) (hit : Hit) → n.hit ≡ Some hit → (reply : Result Made Status) → Takes V W c (told_of h.number n.directory.head) hit name s.size now reply → Op (create h name (Unchecked s)) c now (tree_of V) (made_reply reply) (tree_of W) × IsSoundView W
    over V m W hit here _ (kept status why still) = subst (λ W. Op (create h name (Unchecked s)) c now (tree_of V) (made_reply (Err status)) (tree_of W) × IsSoundView W) (sym still) (over-refused V h c name s now n (sound V m) (named V m) hit here status why, sound V m)
    over V m W hit here _ (takes k reply on sizing tells) = by s.size refl sizing
      where
        by : (size : Option ℕ) → s.size ≡ size → IsSizing V W c hit name now k size → Op (create h name (Unchecked s)) c now (tree_of V) (made_reply (Ok reply)) (tree_of W) × IsSoundView W
        by _ size_is (stays still same) = subst (λ W. Op (create h name (Unchecked s)) c now (tree_of V) (made_reply (Ok reply)) (tree_of W) × IsSoundView W) (sym still) (
          subst (λ t. Op (create h name (Unchecked s)) c now (tree_of V) (made_reply (Ok t)) (tree_of V)) (sym (tells ∙ ap (taken_made (told_of h.number n.directory.head) hit) same)) (over-stays V h c name s now n (sound V m) (named V m) hit here on size_is),
          sound V m,
        )
        by _ size_is (sizes size sized) = (
          subst (λ t. Op (create h name (Unchecked s)) c now (tree_of V) (made_reply (Ok t)) (tree_of W)) (sym tells) (over-done V h c name s now n (sound V m) (named V m) hit here on size size_is W k sized),
          over-sound V h c name s now n (sound V m) (named V m) hit here on size size_is W k sized asked caller time,
        )

    new-file : (V : View) → new V → (W : View) → n.hit ≡ None → (reply : Result Made Status) → IsMakingPlanned V W h.number n.directory name plan now reply → Op (create h name (Unchecked s)) c now (tree_of V) (made_reply reply) (tree_of W) × IsSoundView W
    new-file V m W none _ (plan_kept status why still) = subst (λ W. Op (create h name (Unchecked s)) c now (tree_of V) (made_reply (Err status)) (tree_of W) × IsSoundView W) (sym still) (
      as-guarded V h c name s now n (sound V m) (named V m) none (tree_of V) (Err status) (create-refused V h c name s now n (sound V m) (named V m) none status (sym (ap (λ (p : Plan). p.refusal) planned) ∙ why)),
      sound V m,
    )
    new-file V m W none _ (tried _ on (full still)) = subst (λ W. Op (create h name (Unchecked s)) c now (tree_of V) (made_reply (Err NoSpace)) (tree_of W) × IsSoundView W) (sym still) (
      as-guarded V h c name s now n (sound V m) (named V m) none (tree_of V) (Err NoSpace) (create-no_room V h c name s now n (sound V m) (named V m) none (sym (ap (λ (p : Plan). p.refusal) planned) ∙ on)),
      sound V m,
    )
    new-file V m W none _ (tried _ on (makes reply made)) = (
      as-guarded V h c name s now n (sound V m) (named V m) none (tree_of W) (Ok reply) (create-done V h c name s now n (sound V m) (named V m) none W plan.node reply made (sym (ap (λ (p : Plan). p.refusal) planned) ∙ on) (ap (λ (p : Plan). p.node.attributes) planned) (ap (λ (p : Plan). p.node.kind) planned) (ap (λ (p : Plan). p.node.size) planned)),
      create-sound V h c name s now n (sound V m) (named V m) none W plan.node reply made (sym (ap (λ (p : Plan). p.refusal) planned) ∙ on) (ap (λ (p : Plan). p.node.attributes) planned) (ap (λ (p : Plan). p.node.kind) planned) (ap (λ (p : Plan). p.node.size) planned) asked caller time,
    )

    either : (V : View) → new V → (W : View) (reply : Result Made Status) → IsCreating V W c h.number n name plan s.size now reply → Op (create h name (Unchecked s)) c now (tree_of V) (made_reply reply) (tree_of W) × IsSoundView W
    either V m W _ (there hit reply here taking) = over V m W hit here reply taking
    either V m W _ (missing reply none making) = new-file V m W none reply making

    pub unchecked-ok : Does new ws (create h name (Unchecked s)) c now (made_reply reply)
    unchecked-ok = record { op = λ V m. (either V m (written ws V) reply (creates.is (ctime V m) V m)).0; sound = λ V m. (either V m (written ws V) reply (creates.is (ctime V m) V m)).1 }
