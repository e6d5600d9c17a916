-- SETATTR.
use Rattle.std.proofs.Common.{◌≡◌, ◌≢◌, ℕ, Bool, true, false, not, cond, List, [], ◌∷◌, Option, Some, None, Ok, Err, refl, sym, ap, subst, ◌∙◌}
use Rattle.std.specs.Prelude.{◌&&◌, is_some, Result}
use Rattle.journal_tree.specs.declared.time.Time.{Time}
use Rattle.journal_tree.specs.declared.reply.Changed.{Changed}
use Rattle.journal_tree.specs.declared.reply.Handle.{Handle}
use Rattle.journal_tree.specs.declared.reply.Kind.{Kind}
use Rattle.journal_tree.specs.declared.reply.Kind.TheVariants.{Directory, File, Link}
use Rattle.journal_tree.specs.declared.reply.Told.{Told}
use Rattle.journal_tree.specs.declared.settings.Settings.{Settings}
use Rattle.journal_tree.specs.declared.caller.Caller.{Caller}
use Rattle.journal_tree.specs.declared.status.Status.{Status}
use Rattle.journal_tree.specs.declared.status.Status.TheVariants.{Invalid, NoAccess, NotOwner, NotSync, Stale, TooBig}
use Rattle.journal_tree.specs.Times.{IsTime}
use Rattle.journal_tree.specs.Trees.{is_file, with_node}
use Rattle.journal_tree.specs.Fit.{IsAsked, IsCaller}
use Rattle.journal_tree.specs.Attributes.{setattr_case, with_settings, is_other_time, is_no_time, is_too_big, asks_nothing, may_set, may_set_bytes, changed, unchanged}
use Rattle.journal_tree.specs.Calls.{Outcome, refused, target, told, allowed}
use Rattle.journal_tree.specs.Op.{Op}
use Rattle.journal_tree.specs.Op.Call.{setattr}
use Rattle.journal_tree.specs.Op.Reply.{set as set_reply}
use Rattle.journal_tree.specs.Op.Op.{answers_setattr}
use Rattle.journal_treestore.specs.declared.inode.Head.{Head}
use Rattle.journal_treestore.specs.Inodes.{name_from}
use Rattle.journal_treestore.specs.Views.{Held, View, with_inode, with_block, held_of, body_of, node_of, tree_of}
use Rattle.journal_treestore.specs.Views.Seen.{used}
use Rattle.journal_treestore.specs.Sound.{IsSoundView}
use Rattle.journal_treecalls.specs.declared.node.Record.{Record}
use Rattle.journal_treecalls.specs.declared.setting.Tail.{Tail}
use Rattle.journal_treecalls.specs.declared.setting.Tails.{Tails}
use Rattle.journal_treecalls.specs.declared.setting.Tails.TheVariants.{NoTail, OneTail, TwoTails}
use Rattle.journal_treecalls.specs.Disks.{Write, inode_seen, written, Learns, Does}
use Rattle.journal_treecalls.specs.Disks.Write.{inode_write, block_write}
use Rattle.journal_treecalls.specs.Targets.{held, IsNode, IsTarget, told_of}
use Rattle.journal_treecalls.specs.Names.{is_file_kind}
use Rattle.journal_treecalls.specs.Sizes.{setting_status, IsSetHead, tails_of, cleared, changed_told, with_set, PutsHead, SetsHead, SetsAllowed, IsSetting, SetsNode}
use Rattle.journal_treecalls.specs.Sizes.IsSet.{stays, sets}
use Rattle.journal_treecalls.specs.Sizes.IsSetting.{kept, done}
use Rattle.journal_treecalls.proofs.Learning.{does-reads}
use Rattle.journal_treecalls.proofs.Learned.{AreSound}
use Rattle.journal_treecalls.proofs.Cases.{at-gone, at-node, node-told, told-is}
use Rattle.journal_treestore.specs.Steps.{IsNodeStep}
use Rattle.journal_treestore.proofs.Stepping.{tree-step, step-sound}
use Rattle.journal_treecalls.proofs.Resizing.{set-step}

module _ (V : View) (h : Handle) (c : Caller) (s : Settings) (guard : Option Time) (now : Time) where
  pub set-gone : (g : target (tree_of V) h ≡ Rattle.journal_tree.specs.Calls.Target.gone) → Op (setattr h s guard) c now (tree_of V) (set_reply (Err Stale)) (tree_of V)
  set-gone g = answers_setattr h s guard c now (tree_of V) (tree_of V) (Err Stale) (sym (at-gone V h _ g))

  abbrev chain : Bool → Bool → Bool → Bool → Bool → Bool → Outcome Changed → Outcome Changed
  chain sized bad may bytes other big rest =
      cond sized (refused Invalid (tree_of V)) (cond bad (refused Invalid (tree_of V)) (cond (not may) (refused NotOwner (tree_of V)) (
      cond bytes (cond other (refused NotSync (tree_of V)) (cond big (refused TooBig (tree_of V)) rest)) (refused NoAccess (tree_of V)))))

  abbrev status_by : Bool → Bool → Bool → Bool → Bool → Bool → Option Status
  status_by sized bad may bytes other big =
      cond sized (Some Invalid) (cond bad (Some Invalid) (cond (not may) (Some NotOwner) (
      cond (not bytes) (Some NoAccess) (cond other (Some NotSync) (cond big (Some TooBig) None)))))

  refuses : (a b d e f g : Bool) (status : Status) (rest : Outcome Changed) → status_by a b d e f g ≡ Some status → chain a b d e f g rest ≡ refused status (tree_of V)
  refuses true b d e f g status rest is = ap (λ s. refused s (tree_of V)) (cc)
  refuses false true d e f g status rest is = ap (λ s. refused s (tree_of V)) (cc)
  refuses false false false e f g status rest is = ap (λ s. refused s (tree_of V)) (cc)
  refuses false false true false f g status rest is = ap (λ s. refused s (tree_of V)) (cc)
  refuses false false true true true g status rest is = ap (λ s. refused s (tree_of V)) (cc)
  refuses false false true true false true status rest is = ap (λ s. refused s (tree_of V)) (cc)
  refuses false false true true false false status rest is = absurd (cc (is))

  passes : (a b d e f g : Bool) (rest : Outcome Changed) → status_by a b d e f g ≡ None → (a ≡ false) × (g ≡ false) × (chain a b d e f g rest ≡ rest)
  passes true b d e f g rest is = absurd (cc (is))
  passes false true d e f g rest is = absurd (cc (is))
  passes false false false e f g rest is = absurd (cc (is))
  passes false false true false f g rest is = absurd (cc (is))
  passes false false true true true g rest is = absurd (cc (is))
  passes false false true true false true rest is = absurd (cc (is))
  passes false false true true false false rest is = (refl, refl, refl)

  module _ (r : Record) (sound : IsSoundView V) (node : IsNode V h r) where
    abbrev rest : Outcome Changed
    rest = cond (asks_nothing s) (unchanged (tree_of V) h.number (node_of V (held r))) (changed (tree_of V) h.number (node_of V (held r)) (with_settings c s (node_of V (held r)) now))

    kind-is : (k : Kind) → is_file (body_of V k (held r)) ≡ is_file_kind k
    kind-is Directory = refl
    kind-is File = refl
    kind-is Link = refl

    found : setattr_case c s guard now (tree_of V) (target (tree_of V) h)
        ≡ chain (is_some s.size && not (is_file_kind r.head.kind)) (is_no_time s.mtime) (may_set c s r.head.attributes) (may_set_bytes c s r.head.attributes) (is_other_time guard r.head.attributes.ctime) (is_too_big s.size) rest
    found =
        at-node V h (λ n x. cond (is_some s.size && not (is_file x.body)) (refused Invalid (tree_of V)) (cond (is_no_time s.mtime) (refused Invalid (tree_of V)) (
        cond (not (may_set c s x.attributes)) (refused NotOwner (tree_of V)) (allowed (tree_of V) (may_set_bytes c s x.attributes) (
        cond (is_other_time guard x.attributes.ctime) (refused NotSync (tree_of V)) (cond (is_too_big s.size) (refused TooBig (tree_of V)) (
        cond (asks_nothing s) (unchanged (tree_of V) n x) (changed (tree_of V) n x (with_settings c s x now))))))))) r node
        ∙ ap (λ b. chain (is_some s.size && not b) (is_no_time s.mtime) (may_set c s r.head.attributes) (may_set_bytes c s r.head.attributes) (is_other_time guard r.head.attributes.ctime) (is_too_big s.size) rest) (kind-is r.head.kind)

    pub set-refused : (status : Status) → setting_status c s guard r.head ≡ Some status → Op (setattr h s guard) c now (tree_of V) (set_reply (Err status)) (tree_of V)
    set-refused status why = answers_setattr h s guard c now (tree_of V) (tree_of V) (Err status) (sym (found
        ∙ refuses (is_some s.size && not (is_file_kind r.head.kind)) (is_no_time s.mtime) (may_set c s r.head.attributes) (may_set_bytes c s r.head.attributes) (is_other_time guard r.head.attributes.ctime) (is_too_big s.size) status rest why))

    module _ (on : setting_status c s guard r.head ≡ None) where
      all : (is_some s.size && not (is_file_kind r.head.kind) ≡ false) × (is_too_big s.size ≡ false) × (setattr_case c s guard now (tree_of V) (target (tree_of V) h) ≡ rest)
      all = let p = passes (is_some s.size && not (is_file_kind r.head.kind)) (is_no_time s.mtime) (may_set c s r.head.attributes) (may_set_bytes c s r.head.attributes) (is_other_time guard r.head.attributes.ctime) (is_too_big s.size) rest on in (p.0, p.1, found ∙ p.2)

      unsized : r.head.kind ≢ File → s.size ≡ None
      unsized other = by s.size (sym (ap (λ b. is_some s.size && not b) (no_file r.head.kind other)) ∙ all.0)
        where
          no_file : (k : Kind) → k ≢ File → is_file_kind k ≡ false
          no_file Directory other = refl
          no_file File other = absurd (other refl)
          no_file Link other = refl

          by : (o : Option ℕ) → (is_some o && true) ≡ false → o ≡ None
          by None is = refl
          by (Some m) is = absurd (cc (is))

      told-before : told h.number (node_of V (held r)) ≡ told_of h.number r.head
      told-before = node-told V h r sound node

      pub set-stays : asks_nothing s ≡ true → Op (setattr h s guard) c now (tree_of V) (set_reply (Ok (changed_told h.number r.head r.head))) (tree_of V)
      set-stays nothing = answers_setattr h s guard c now (tree_of V) (tree_of V) (Ok (changed_told h.number r.head r.head)) (sym (all.2
          ∙ ap (λ t. cond t (unchanged (tree_of V) h.number (node_of V (held r))) (changed (tree_of V) h.number (node_of V (held r)) (with_settings c s (node_of V (held r)) now))) nothing
          ∙ (λ i. (Ok (record { before = told-before i; after = told-before i }), tree_of V))))

      module _ (k : Head) (set : IsSetHead c s now r.head k) (something : asks_nothing s ≡ false) (W : View) (writes : W ≡ with_set V h.number r k (tails_of V r.head k.size)) where
        abbrev K : Held
        K = held_of k (name_from r.bytes)

        both : IsNodeStep V W h.number (held r) K × (node_of W K ≡ with_settings c s (node_of V (held r)) now)
        both = subst (λ W. IsNodeStep V W h.number (held r) (held_of k (name_from r.bytes)) × (node_of W (held_of k (name_from r.bytes)) ≡ with_settings c s (node_of V (held r)) now)) (sym writes)
            (set-step V h.number r k c s now sound node.is set unsized all.1)

        told-after : told h.number (with_settings c s (node_of V (held r)) now) ≡ told_of h.number k
        told-after = ap (told h.number) (sym both.1) ∙ told-is W h.number (held_of k (name_from r.bytes)) both.0.sound

        pub set-done : Op (setattr h s guard) c now (tree_of V) (set_reply (Ok (changed_told h.number r.head k))) (tree_of W)
        set-done = answers_setattr h s guard c now (tree_of V) (tree_of W) (Ok (changed_told h.number r.head k)) (sym (all.2
            ∙ ap (λ t. cond t (unchanged (tree_of V) h.number (node_of V (held r))) (changed (tree_of V) h.number (node_of V (held r)) (with_settings c s (node_of V (held r)) now))) something
            ∙ (λ i. (Ok (record { before = told-before i; after = told-after i }), sym (tree-step V W h.number (held r) (held_of k (name_from r.bytes)) sound both.0 ∙ ap (λ x. with_node (tree_of V) h.number (Some x)) both.1) i))))

        pub set-sound : IsAsked s → IsCaller c → IsTime now → IsSoundView W
        set-sound asked caller time = step-sound V W h.number (held r) (held_of k (name_from r.bytes)) sound both.0 (setattr h s guard) c now (set_reply (Ok (changed_told h.number r.head k))) asked caller time set-done

-- ── the writes ──

pub plain-is : (ws before : List Write) (V : View) (n : ℕ) (r : Record) (k : Head) (bytes : List ℕ) → ws ≡ inode_write n bytes ∷ before → before ≡ [] → inode_seen bytes ≡ used (held_of k (name_from r.bytes)) → written ws V ≡ with_set V n r k NoTail
plain-is ws before V n r k bytes is none shown = ap (λ ws. written ws V) (is ∙ ap (λ ws. inode_write n bytes ∷ ws) none) ∙ ap (with_inode V n) shown

pub cleared-is : (ws after before : List Write) (V : View) (n : ℕ) (r : Record) (k : Head) (t : Tail) (v w bytes : List ℕ) → ws ≡ inode_write n bytes ∷ after → after ≡ block_write t.block w ∷ before → before ≡ [] → V.block t.block ≡ v → w ≡ cleared v t.from
    → inode_seen bytes ≡ used (held_of k (name_from r.bytes)) → written ws V ≡ with_set V n r k (OneTail t)
cleared-is ws after before V n r k t v w bytes is then none at put shown =
    ap (λ ws. written ws V) (is ∙ ap (λ ws. inode_write n bytes ∷ ws) (then ∙ ap (λ ws. block_write t.block w ∷ ws) none))
    ∙ (λ i. with_inode (with_block V t.block ((put ∙ ap (λ v. cleared v t.from) (sym at)) i)) n (shown i))

-- two blocks, and the inode
pub both-are : (ws last after before : List Write) (V : View) (n : ℕ) (r : Record) (k : Head) (t u : Tail) (v w x y bytes : List ℕ) → ws ≡ inode_write n bytes ∷ last → last ≡ block_write u.block y ∷ after → after ≡ block_write t.block x ∷ before → before ≡ []
    → V.block t.block ≡ v → x ≡ cleared v t.from → V.block u.block ≡ w → y ≡ cleared w u.from → inode_seen bytes ≡ used (held_of k (name_from r.bytes)) → written ws V ≡ with_set V n r k (TwoTails t u)
both-are ws last after before V n r k t u v w x y bytes is then first none at put other_at other_put shown =
    ap (λ ws. written ws V) (is ∙ ap (λ ws. inode_write n bytes ∷ ws) (then ∙ ap (λ ws. block_write u.block y ∷ ws) (first ∙ ap (λ ws. block_write t.block x ∷ ws) none)))
    ∙ (λ i. with_inode (with_block (with_block V t.block ((put ∙ ap (λ v. cleared v t.from) (sym at)) i)) u.block ((other_put ∙ ap (λ v. cleared v u.from) (sym other_at)) i)) n (shown i))

pub head-puts : (first old new : View → Type 0) (ws : List Write) (n : ℕ) (r : Record) (k : Head) (o t : Tails) (changed : Changed) → Learns first old (λ V. tails_of V r.head k.size ≡ o) → o ≡ t → PutsHead old new ws n r k t changed → SetsHead first new ws n r k changed
head-puts first old new ws n r k o t changed l is p = record {
  same = λ V m. l.before V (p.same V m);
  is = λ V m. p.is V m ∙ ap (with_set V n r k) (sym is ∙ sym (l.now V (p.same V m)));
  told = p.told;
}

pub allowed-stays : (may : View → Type 0) (ws : List Write) (c : Caller) (s : Settings) (now : Time) (n : ℕ) (r : Record) (t : Told) → ws ≡ [] → asks_nothing s ≡ true → t ≡ told_of n r.head → SetsAllowed may may ws c s now n r (record { before = t; after = t })
allowed-stays may ws c s now n r t none nothing tells = record { same = λ V m. m; is = λ V m. stays nothing (ap (λ ws. written ws V) none) (λ i. record { before = tells i; after = tells i }) }

pub allowed-sets : (old new : View → Type 0) (ws : List Write) (c : Caller) (s : Settings) (now : Time) (n : ℕ) (r : Record) (k : Head) (changed : Changed) → asks_nothing s ≡ false → IsSetHead c s now r.head k → SetsHead old new ws n r k changed → SetsAllowed old new ws c s now n r changed
allowed-sets old new ws c s now n r k changed something set p = record { same = p.same; is = λ V m. sets k something set (p.is V m) p.told }

pub node-kept : (may : View → Type 0) (ws : List Write) (c : Caller) (s : Settings) (guard : Option Time) (now : Time) (n : ℕ) (r : Record) (o : Option Status) (status : Status) → ws ≡ [] → o ≡ setting_status c s guard r.head → o ≡ Some status → SetsNode may may ws c s guard now n r (Err status)
node-kept may ws c s guard now n r o status none is why = record { same = λ V m. m; is = λ V m. kept status (sym is ∙ why) (ap (λ ws. written ws V) none) }

pub node-done : (old new : View → Type 0) (ws : List Write) (c : Caller) (s : Settings) (guard : Option Time) (now : Time) (n : ℕ) (r : Record) (o : Option Status) (changed : Changed) → o ≡ setting_status c s guard r.head → o ≡ None → SetsAllowed old new ws c s now n r changed → SetsNode old new ws c s guard now n r (Ok changed)
node-done old new ws c s guard now n r o changed is on p = record { same = p.same; is = λ V m. done changed (sym is ∙ on) (p.is V m) }

-- ── the call ──

module _ (first old new : View → Type 0) (sound : AreSound new) (ws : List Write) (h : Handle) (c : Caller) (s : Settings) (guard : Option Time) (now : Time) (found : Option Record) (l : Learns first old (λ V. IsTarget V h found)) where
  pub setattr-none : ws ≡ [] → found ≡ None → ((V : View) → new V → old V) → Does new ws (setattr h s guard) c now (set_reply (Err Stale))
  setattr-none none is same = does-reads new ws (setattr h s guard) c now (set_reply (Err Stale)) none sound (λ V m. set-gone V h c s guard now (subst (IsTarget V h) is (l.now V (same V m))))

  module _ (r : Record) (is : found ≡ Some r) (asked : IsAsked s) (caller : IsCaller c) (time : IsTime now) (reply : Result Changed Status) (k : SetsNode old new ws c s guard now h.number r reply) where
    node : (V : View) → new V → IsNode V h r
    node V m = subst (IsTarget V h) is (l.now V (k.same V m))

    op : (V : View) → new V → (W : View) (reply : Result Changed Status) → IsSetting V W c s guard now h.number r reply → Op (setattr h s guard) c now (tree_of V) (set_reply reply) (tree_of W)
    op V m W _ (kept status why still) = subst (λ W. Op (setattr h s guard) c now (tree_of V) (set_reply (Err status)) (tree_of W)) (sym still) (set-refused V h c s guard now r (sound V m) (node V m) status why)
    op V m W _ (done changed on (stays nothing still tells)) = subst (λ t. Op (setattr h s guard) c now (tree_of V) (set_reply (Ok t)) (tree_of W)) (sym tells)
        (subst (λ W. Op (setattr h s guard) c now (tree_of V) (set_reply (Ok (changed_told h.number r.head r.head))) (tree_of W)) (sym still) (set-stays V h c s guard now r (sound V m) (node V m) on nothing))
    op V m W _ (done changed on (sets head something set writes tells)) = subst (λ t. Op (setattr h s guard) c now (tree_of V) (set_reply (Ok t)) (tree_of W)) (sym tells)
        (set-done V h c s guard now r (sound V m) (node V m) on head set something W writes)

    keeps : (V : View) → new V → (W : View) (reply : Result Changed Status) → IsSetting V W c s guard now h.number r reply → IsSoundView W
    keeps V m W _ (kept status why still) = subst IsSoundView (sym still) (sound V m)
    keeps V m W _ (done changed on (stays nothing still tells)) = subst IsSoundView (sym still) (sound V m)
    keeps V m W _ (done changed on (sets head something set writes tells)) = set-sound V h c s guard now r (sound V m) (node V m) on head set something W writes asked caller time

    pub setattr-some : Does new ws (setattr h s guard) c now (set_reply reply)
    setattr-some = record { op = λ V m. op V m (written ws V) reply (k.is V m); sound = λ V m. keeps V m (written ws V) reply (k.is V m) }
