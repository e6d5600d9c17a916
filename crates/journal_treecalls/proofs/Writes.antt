-- WRITE.
use Rattle.std.proofs.Common.{◌≡◌, ◌≢◌, ℕ, suc, ◌+◌, ◌-◌, ◌<◌, ◌≤◌, Bool, true, false, not, cond, List, [], ◌∷◌, length, Option, Some, None, Ok, Err, refl, sym, ap, subst, ◌⊎◌, inl, inr, ◌∙◌, arith}
use Rattle.std.specs.Prelude.{Result, ◌==◌, nat_lt}
use Rattle.std.proofs.lemmas.Bool.{eqb-true, eqb-false, eq-eqb, ne_eqb, ltb-false}
use Rattle.journal_tree.specs.declared.limits.TheConstants.{MOST_BYTES}
use Rattle.journal_tree.specs.declared.time.Time.{Time}
use Rattle.journal_tree.specs.declared.reply.Changed.{Changed}
use Rattle.journal_tree.specs.declared.reply.Handle.{Handle}
use Rattle.journal_tree.specs.declared.reply.Kind.{Kind}
use Rattle.journal_tree.specs.declared.reply.Kind.TheVariants.{Directory, File, Link}
use Rattle.journal_tree.specs.declared.reply.Told.{Told}
use Rattle.journal_tree.specs.declared.caller.Caller.{Caller}
use Rattle.journal_tree.specs.declared.status.Status.{Status}
use Rattle.journal_tree.specs.declared.status.Status.TheVariants.{Invalid, NoAccess, NoSpace, Stale, TooBig}
use Rattle.journal_tree.specs.Times.{IsTime}
use Rattle.journal_tree.specs.Trees.{Node, with_node}
use Rattle.journal_tree.specs.Fit.{IsCaller}
use Rattle.journal_tree.specs.Rights.{may_store}
use Rattle.journal_tree.specs.Attributes.{changed, unchanged}
use Rattle.journal_tree.specs.Contents.{overlaid, written as written_node, write_body, write_case}
use Rattle.journal_tree.specs.Calls.{Outcome, refused, target, told}
use Rattle.journal_tree.specs.Calls.Target.{gone}
use Rattle.journal_tree.specs.Op.{Op}
use Rattle.journal_tree.specs.Op.Call.{write}
use Rattle.journal_tree.specs.Op.Reply.{wrote}
use Rattle.journal_tree.specs.Op.Op.{answers_write}
use Rattle.journal_treestore.specs.declared.inode.Head.{Head}
use Rattle.journal_treestore.specs.Inodes.{name_from}
use Rattle.journal_treestore.specs.Owners.{owner_from}
use Rattle.journal_treestore.specs.Views.{View, with_inode, with_owner, with_block, held_of, block_at, content, body_of, node_of, tree_of}
use Rattle.journal_treestore.specs.Views.Seen.{used}
use Rattle.journal_treestore.specs.Sound.{IsSoundView}
use Rattle.journal_treecalls.specs.declared.node.Record.{Record}
use Rattle.journal_treecalls.specs.declared.setting.Tail.{Tail}
use Rattle.journal_treecalls.specs.Disks.{Write, inode_seen, written, Learns, Does}
use Rattle.journal_treecalls.specs.Disks.Write.{inode_write, owner_write, block_write}
use Rattle.journal_treecalls.specs.Targets.{held, IsNode, IsTarget, told_of}
use Rattle.journal_treecalls.specs.Blocks.{owner_of}
use Rattle.journal_treecalls.specs.Sizes.{cleared, changed_told}
use Rattle.journal_treecalls.specs.declared.reach.Numbers.{Numbers}
use Rattle.journal_treecalls.specs.declared.reach.Changing.{Changing}
use Rattle.journal_treecalls.specs.Reaches.{reach_for, reach_count, numbered, AreSized, HasNumbers, IsTaken, IsSizedTaken, IsChanging}
use Rattle.journal_treecalls.specs.Overlays.{writing_by, writing_status, image_bytes, IsImage, IsWrittenHead, gap_of, with_gap, ClearsGap, Laying, lay, lay_at, laid, laying_at, LaysOne, LaysAt, LaysBlocks, with_written, IsWritten, WritesFile, WritesRoom, WritesAllowed, IsWriting, WritesNode}
use Rattle.journal_treecalls.specs.Overlays.IsWritingRoom.{full, writes}
use Rattle.journal_treecalls.specs.Overlays.IsWritingAllowed.{stays, tried}
use Rattle.journal_treecalls.specs.Overlays.IsWriting.{kept, allowed as is_allowed}
use Rattle.journal_treecalls.proofs.Learning.{does-reads}
use Rattle.journal_treecalls.proofs.Learned.{AreSound}
use Rattle.journal_treecalls.proofs.Cases.{at-gone, at-node, node-told, told-is}
use Rattle.journal_treestore.specs.Steps.{IsNodeStep}
use Rattle.journal_treestore.proofs.Stepping.{tree-step, step-sound}
use Rattle.journal_treecalls.proofs.Portioning.{small-file}
use Rattle.journal_treecalls.proofs.Laying.{laid-none, laid-more}
use Rattle.journal_treecalls.proofs.Overlaying.{IsOverlay, IsIndexed, step-written, node-written}
use Rattle.journal_treecalls.proofs.Rows.{row-overlays, row-indexed}

-- ── the reasons not to write ──

-- where nothing is against it, the node is a file, and the bytes end within the greatest one
passes : (k : Kind) (may : Bool) (offset count long : ℕ) → writing_by k may offset count long ≡ None → (k ≡ File) × (count ≡ long) × (may ≡ true) × ((count ≡ 0) ⊎ ((count ≢ 0) × (nat_lt MOST_BYTES (offset + count) ≡ false)))
passes Directory may offset count long is = absurd (cc (is))
passes Link may offset count long is = absurd (cc (is))
passes File may offset count long is = by (count == long) may (count == 0) (nat_lt MOST_BYTES (offset + count)) refl refl refl refl is
  where
    by : (a b d e : Bool) → (count == long) ≡ a → may ≡ b → (count == 0) ≡ d → nat_lt MOST_BYTES (offset + count) ≡ e → cond (not a) (Some Invalid) (cond (not b) (Some NoAccess) (cond d None (cond e (Some TooBig) None))) ≡ None
        → (File ≡ File) × (count ≡ long) × (may ≡ true) × ((count ≡ 0) ⊎ ((count ≢ 0) × (nat_lt MOST_BYTES (offset + count) ≡ false)))
    by false b d e a_is b_is d_is e_is n = absurd (cc (n))
    by true false d e a_is b_is d_is e_is n = absurd (cc (n))
    by true true true e a_is b_is d_is e_is n = (refl, eqb-true count long a_is, b_is, inl (eqb-true count 0 d_is))
    by true true false true a_is b_is d_is e_is n = absurd (cc (n))
    by true true false false a_is b_is d_is e_is n = (refl, eqb-true count long a_is, b_is, inr (eqb-false count 0 d_is, e_is))

pub fits-within : (c : Caller) (h : Head) (offset count long : ℕ) (o : Option Status) → o ≡ writing_status c h offset count long → o ≡ None → 0 < long → offset + long ≤ MOST_BYTES
fits-within c h offset count long o is on some = by (passes h.kind (may_store c h.attributes) offset count long (sym is ∙ on))
  where
    by : (h.kind ≡ File) × (count ≡ long) × (may_store c h.attributes ≡ true) × ((count ≡ 0) ⊎ ((count ≢ 0) × (nat_lt MOST_BYTES (offset + count) ≡ false))) → offset + long ≤ MOST_BYTES
    by p = at p.1 p.3
      where
        at : count ≡ long → (count ≡ 0) ⊎ ((count ≢ 0) × (nat_lt MOST_BYTES (offset + count) ≡ false)) → offset + long ≤ MOST_BYTES
        at same (inl none) = absurd (omega (arith, same, none, some))
        at same (inr f) = let l = ltb-false MOST_BYTES (offset + count) f.1 in omega (arith, l, same)

-- ── the call ──

module _ (V : View) (h : Handle) (c : Caller) (offset count : ℕ) (bs : List ℕ) (now : Time) where
  pub write-gone : target (tree_of V) h ≡ gone → Op (write h offset count bs) c now (tree_of V) (wrote (Err Stale)) (tree_of V)
  write-gone g = answers_write h offset count bs false c now (tree_of V) (tree_of V) (Err Stale) (sym (at-gone V h _ g))

  module _ (r : Record) (sound : IsSoundView V) (node : IsNode V h r) where
    abbrev x : Node
    x = node_of V (held r)

    at-body : (room : Bool) → write_case c room offset count bs now (tree_of V) (target (tree_of V) h) ≡ write_body c room offset count bs now (tree_of V) h.number (node_of V (held r)) (body_of V r.head.kind (held r))
    at-body room = at-node V h (λ n x. write_body c room offset count bs now (tree_of V) n x x.body) r node

    abbrev chain : Bool → Bool → Bool → Bool → Bool → Outcome Changed → Outcome Changed
    chain same may none big room rest =
        cond (not same) (refused Invalid (tree_of V)) (cond may (cond none (unchanged (tree_of V) h.number (node_of V (held r))) (cond big (refused TooBig (tree_of V)) (cond (not room) (refused NoSpace (tree_of V)) rest))) (refused NoAccess (tree_of V)))

    pub write-refused : (status : Status) → writing_status c r.head offset count (length bs) ≡ Some status → Op (write h offset count bs) c now (tree_of V) (wrote (Err status)) (tree_of V)
    write-refused status why = answers_write h offset count bs false c now (tree_of V) (tree_of V) (Err status) (sym (at-body false ∙ by r.head.kind why))
      where
        chained : (a b d e : Bool) (rest : Outcome Changed) → cond (not a) (Some Invalid) (cond (not b) (Some NoAccess) (cond d None (cond e (Some TooBig) None))) ≡ Some status → chain a b d e false rest ≡ refused status (tree_of V)
        chained false b d e rest is = ap (λ s. refused s (tree_of V)) (cc)
        chained true false d e rest is = ap (λ s. refused s (tree_of V)) (cc)
        chained true true true e rest is = absurd (cc (is))
        chained true true false true rest is = ap (λ s. refused s (tree_of V)) (cc)
        chained true true false false rest is = absurd (cc (is))

        by : (k : Kind) → writing_by k (may_store c r.head.attributes) offset count (length bs) ≡ Some status → write_body c false offset count bs now (tree_of V) h.number (node_of V (held r)) (body_of V k (held r)) ≡ refused status (tree_of V)
        by Directory is = ap (λ s. refused s (tree_of V)) (cc)
        by Link is = ap (λ s. refused s (tree_of V)) (cc)
        by File is = chained (count == length bs) (may_store c r.head.attributes) (count == 0) (nat_lt MOST_BYTES (offset + count))
            (changed (tree_of V) h.number (node_of V (held r)) (written_node c (node_of V (held r)) (overlaid (content V (held r)) offset bs) now)) is

    told-before : told h.number (node_of V (held r)) ≡ told_of h.number r.head
    told-before = node-told V h r sound node

    module _ (on : writing_status c r.head offset count (length bs) ≡ None) where
      passed : (r.head.kind ≡ File) × (count ≡ length bs) × (may_store c r.head.attributes ≡ true) × ((count ≡ 0) ⊎ ((count ≢ 0) × (nat_lt MOST_BYTES (offset + count) ≡ false)))
      passed = passes r.head.kind (may_store c r.head.attributes) offset count (length bs) on

      -- the body of the call, where nothing is against it
      at-file : (room none big : Bool) → (count == 0) ≡ none → nat_lt MOST_BYTES (offset + count) ≡ big → write_case c room offset count bs now (tree_of V) (target (tree_of V) h)
          ≡ chain true true none big room (changed (tree_of V) h.number (node_of V (held r)) (written_node c (node_of V (held r)) (overlaid (content V (held r)) offset bs) now))
      at-file room none big none_is big_is =
          at-body room
          ∙ ap (λ k. write_body c room offset count bs now (tree_of V) h.number (node_of V (held r)) (body_of V k (held r))) passed.0
          ∙ (λ i. chain (eq-eqb count (length bs) passed.1 i) (passed.2 i) (none_is i) (big_is i) room (changed (tree_of V) h.number (node_of V (held r)) (written_node c (node_of V (held r)) (overlaid (content V (held r)) offset bs) now)))

      pub write-stays : length bs ≡ 0 → Op (write h offset count bs) c now (tree_of V) (wrote (Ok (changed_told h.number r.head r.head))) (tree_of V)
      write-stays none = answers_write h offset count bs false c now (tree_of V) (tree_of V) (Ok (changed_told h.number r.head r.head)) (sym (
          at-file false true (nat_lt MOST_BYTES (offset + count)) (eq-eqb count 0 (passed.1 ∙ none)) refl
          ∙ ap (λ t. (Ok (record { before = t; after = t }), tree_of V)) told-before))

      module _ (some : 0 < length bs) where
        not-none : (count == 0) ≡ false
        not-none = ne_eqb count 0 (λ e. let s = passed.1 in absurd (omega (arith, e, s, some)))

        not-big : nat_lt MOST_BYTES (offset + count) ≡ false
        not-big = by passed.3
          where
            by : (count ≡ 0) ⊎ ((count ≢ 0) × (nat_lt MOST_BYTES (offset + count) ≡ false)) → nat_lt MOST_BYTES (offset + count) ≡ false
            by (inl none) = let s = passed.1 in absurd (omega (arith, none, s, some))
            by (inr p) = p.1

        pub write-full : Op (write h offset count bs) c now (tree_of V) (wrote (Err NoSpace)) (tree_of V)
        write-full = answers_write h offset count bs false c now (tree_of V) (tree_of V) (Err NoSpace) (sym (at-file false false false not-none not-big))

        module _ (fits : offset + length bs ≤ MOST_BYTES) (t : Changing) (change : IsChanging V r.head offset (offset + length bs) t) (W : View) (reply : Changed) (w : IsWritten V W c offset bs t now h.number r reply) where
          abbrev W1 : View
          W1 = with_written V h.number r w.head offset t w.image

          abbrev N : ℕ → ℕ
          N = numbered (block_at V (held r)) t.reach t.new

          abbrev row : ℕ → Laying
          row = laying_at t w.image

          overlays : IsOverlay V (held r) (numbered (block_at V (held r)) t.reach t.new) (laying_at t w.image) (reach_count t.reach) offset (offset + length bs) w.image
          overlays = row-overlays V r w.head offset (offset + length bs) t w.image (omega (arith, some)) fits change w.long w.is_head.blocks w.is_head.index

          indexed : IsIndexed V (held r) (numbered (block_at V (held r)) t.reach t.new) (laying_at t w.image) (reach_count t.reach) w.head
          indexed = row-indexed V r w.head offset (offset + length bs) t w.image (omega (arith, some)) fits change w.long w.is_head.blocks w.is_head.index

          step : IsNodeStep V (with_written V h.number r w.head offset t w.image) h.number (held r) (held_of w.head (name_from r.bytes))
          step = step-written V h.number r w.head offset bs w.image N row (reach_count t.reach) sound node.is some fits (small-file V h.number (held r) sound node.is passed.0) overlays indexed w.is_head.size passed.0 c now t.new w.is_head

          node-is : node_of (with_written V h.number r w.head offset t w.image) (held_of w.head (name_from r.bytes)) ≡ written_node c (node_of V (held r)) (overlaid (content V (held r)) offset bs) now
          node-is = node-written V h.number r w.head offset bs w.image N row (reach_count t.reach) sound node.is some fits (small-file V h.number (held r) sound node.is passed.0) overlays indexed w.is_head.size passed.0 c now t.new w.is_head w.is_image w.long

          told-after : told h.number (written_node c (node_of V (held r)) (overlaid (content V (held r)) offset bs) now) ≡ told_of h.number w.head
          told-after = ap (told h.number) (sym node-is) ∙ told-is W1 h.number (held_of w.head (name_from r.bytes)) step.sound

          tree-is : tree_of W ≡ with_node (tree_of V) h.number (Some (written_node c (node_of V (held r)) (overlaid (content V (held r)) offset bs) now))
          tree-is = ap tree_of w.view ∙ tree-step V W1 h.number (held r) (held_of w.head (name_from r.bytes)) sound step ∙ ap (λ x. with_node (tree_of V) h.number (Some x)) node-is

          pub write-done : Op (write h offset count bs) c now (tree_of V) (wrote (Ok reply)) (tree_of W)
          write-done = answers_write h offset count bs true c now (tree_of V) (tree_of W) (Ok reply) (sym (
              at-file true false false not-none not-big
              ∙ (λ i. (Ok (record { before = told-before i; after = told-after i }), sym tree-is i))
              ∙ ap (λ t. (Ok t, tree_of W)) (sym w.told)))

          pub write-sound : IsCaller c → IsTime now → IsSoundView W
          write-sound caller time = subst IsSoundView (sym w.view) (step-sound V W1 h.number (held r) (held_of w.head (name_from r.bytes)) sound step (write h offset count bs) c now (wrote (Ok reply)) tt caller time
              (subst (λ W. Op (write h offset count bs) c now (tree_of V) (wrote (Ok reply)) (tree_of W)) w.view write-done))

module _ (first old new : View → Type 0) (sound : AreSound new) (ws : List Write) (h : Handle) (c : Caller) (offset count : ℕ) (bs : List ℕ) (now : Time) (found : Option Record) (l : Learns first old (λ V. IsTarget V h found)) where
  pub write-none : ws ≡ [] → found ≡ None → ((V : View) → new V → old V) → Does new ws (write h offset count bs) c now (wrote (Err Stale))
  write-none none is same = does-reads new ws (write h offset count bs) c now (wrote (Err Stale)) none sound (λ V m. write-gone V h c offset count bs now (subst (IsTarget V h) is (l.now V (same V m))))

  module _ (r : Record) (is : found ≡ Some r) (caller : IsCaller c) (time : IsTime now) (reply : Result Changed Status) (k : WritesNode old new ws c offset count bs now h.number r reply) where
    node : (V : View) → new V → IsNode V h r
    node V m = subst (IsTarget V h) is (l.now V (k.same V m))

    op : (V : View) → new V → (W : View) (reply : Result Changed Status) → IsWriting V W c offset count bs now h.number r reply → Op (write h offset count bs) c now (tree_of V) (wrote reply) (tree_of W)
    op V m W _ (kept status why still) = subst (λ W. Op (write h offset count bs) c now (tree_of V) (wrote (Err status)) (tree_of W)) (sym still) (write-refused V h c offset count bs now r (sound V m) (node V m) status why)
    op V m W _ (is_allowed _ on (stays t none still tells)) = subst (λ t. Op (write h offset count bs) c now (tree_of V) (wrote (Ok t)) (tree_of W)) (sym tells)
        (subst (λ W. Op (write h offset count bs) c now (tree_of V) (wrote (Ok (changed_told h.number r.head r.head))) (tree_of W)) (sym still) (write-stays V h c offset count bs now r (sound V m) (node V m) on none))
    op V m W _ (is_allowed _ on (tried _ some fits (full still))) = subst (λ W. Op (write h offset count bs) c now (tree_of V) (wrote (Err NoSpace)) (tree_of W)) (sym still) (write-full V h c offset count bs now r (sound V m) (node V m) on some)
    op V m W _ (is_allowed _ on (tried _ some fits (writes t reply change w))) = write-done V h c offset count bs now r (sound V m) (node V m) on some fits t change W reply w

    keeps : (V : View) → new V → (W : View) (reply : Result Changed Status) → IsWriting V W c offset count bs now h.number r reply → IsSoundView W
    keeps V m W _ (kept status why still) = subst IsSoundView (sym still) (sound V m)
    keeps V m W _ (is_allowed _ on (stays t none still tells)) = subst IsSoundView (sym still) (sound V m)
    keeps V m W _ (is_allowed _ on (tried _ some fits (full still))) = subst IsSoundView (sym still) (sound V m)
    keeps V m W _ (is_allowed _ on (tried _ some fits (writes t reply change w))) = write-sound V h c offset count bs now r (sound V m) (node V m) on some fits t change W reply w caller time

    pub write-some : Does new ws (write h offset count bs) c now (wrote reply)
    write-some = record { op = λ V m. op V m (written ws V) reply (k.is V m); sound = λ V m. keeps V m (written ws V) reply (k.is V m) }

-- ── the writes ──

pub gap-none : (old new : View → Type 0) (ws : List Write) (h : Head) (offset : ℕ) (o : Option Tail) → ws ≡ [] → Learns old new (λ V. o ≡ gap_of V h offset) → o ≡ None → ClearsGap old new ws h offset
gap-none old new ws h offset o none l is = record { same = l.before; is = λ V m. ap (λ ws. written ws V) none ∙ ap (with_gap V) (sym is ∙ l.now V m) }

pub gap-cleared : (first old mid new : View → Type 0) (ws before : List Write) (h : Head) (offset : ℕ) (t : Tail) (v w : List ℕ) (o : Option Tail) → Learns first old (λ V. o ≡ gap_of V h offset) → o ≡ Some t → before ≡ [] → ws ≡ block_write t.block w ∷ before → w ≡ cleared v t.from
    → Learns old mid (λ V. V.block t.block ≡ v) → ((V : View) → new V → mid V) → ClearsGap first new ws h offset
gap-cleared first old mid new ws before h offset t v w o gap some none put cleared_is l same = record {
  same = λ V m. gap.before V (l.before V (same V m));
  is = λ V m.
      ap (λ ws. written ws V) (put ∙ ap (λ ws. block_write t.block w ∷ ws) none)
      ∙ ap (with_block V t.block) (cleared_is ∙ ap (λ v. cleared v t.from) (sym (l.now V (same V m))))
      ∙ ap (with_gap V) (sym some ∙ gap.now V (l.before V (same V m)));
}

pub piece-old : (old new : View → Type 0) (before after : List Write) (n was b j : ℕ) (v w : List ℕ) → was ≢ 0 → after ≡ block_write b w ∷ before → w ≡ v → ((V : View) → new V → old V) → LaysOne old new before after n was b j v
piece-old old new before after n was b j v w some put is same = record {
  same = same;
  is = λ V.
      ap (λ ws. written ws V) put
      ∙ ap (with_block (written before V) b) is
      ∙ sym (ap (λ t. cond t (with_owner (with_block (written before V) b v) b (owner_of n j)) (with_block (written before V) b v)) (ne_eqb was 0 some));
}

pub piece-new : (old new : View → Type 0) (before mid after : List Write) (n was b j : ℕ) (v w o : List ℕ) → was ≡ 0 → mid ≡ block_write b w ∷ before → after ≡ owner_write b o ∷ mid → w ≡ v → owner_from o ≡ owner_of n j → ((V : View) → new V → old V) → LaysOne old new before after n was b j v
piece-new old new before mid after n was b j v w o none put then is owner same = record {
  same = same;
  is = λ V.
      ap (λ ws. written ws V) (then ∙ ap (λ ws. owner_write b o ∷ ws) put)
      ∙ (λ i. with_owner (with_block (written before V) b (is i)) b (owner i))
      ∙ sym (ap (λ t. cond t (with_owner (with_block (written before V) b v) b (owner_of n j)) (with_block (written before V) b v)) (eq-eqb was 0 none));
}

pub place-kept : (may : View → Type 0) (ws : List Write) (n : ℕ) (l : Laying) (skip : Bool) → skip ≡ l.stays → skip ≡ true → LaysAt may may ws ws n l
place-kept may ws n l skip is on = record { same = λ V m. m; is = λ V. sym (ap (λ t. cond t (written ws V) (lay (written ws V) n l.was l.block l.place l.bytes)) (sym is ∙ on)) }

pub place-laid : (old new : View → Type 0) (before after : List Write) (n : ℕ) (l : Laying) (skip : Bool) (was b p : ℕ) (v : List ℕ) → skip ≡ l.stays → skip ≡ false → was ≡ l.was → b ≡ l.block → p ≡ l.place → v ≡ l.bytes
    → LaysOne old new before after n was b p v → LaysAt old new before after n l
place-laid old new before after n l skip was b p v is off was_is b_is p_is v_is k = record {
  same = k.same;
  is = λ V.
      k.is V
      ∙ (λ z. lay (written before V) n (was_is z) (b_is z) (p_is z) (v_is z))
      ∙ sym (ap (λ t. cond t (written before V) (lay (written before V) n l.was l.block l.place l.bytes)) (sym is ∙ off));
}

pub blocks-begin : (may : View → Type 0) (ws : List Write) (n : ℕ) (row : ℕ → Laying) → LaysBlocks may may ws ws n row 0
blocks-begin may ws n row = record { same = λ V m. m; is = λ V. sym (laid-none (written ws V) n row) }

pub blocks-more : (first old new : View → Type 0) (before mid after : List Write) (n : ℕ) (row : ℕ → Laying) (m : ℕ) → LaysBlocks first old before mid n row m → LaysAt old new mid after n (row m) → LaysBlocks first new before after n row (m + 1)
blocks-more first old new before mid after n row m l k = record {
  same = λ V may. l.same V (k.same V may);
  is = λ V. k.is V ∙ ap (λ U. lay_at U n (row m)) (l.is V) ∙ sym (laid-more (written before V) n row m) ∙ ap (laid (written before V) n row) (let e : suc m ≡ m + 1 = omega arith in e);
}

pub file-written : (first old mid last new : View → Type 0) (none gap put ws : List Write) (c : Caller) (offset : ℕ) (bs : List ℕ) (t : Changing) (now : Time) (n : ℕ) (r : Record) (head : Head) (image given bytes : List ℕ) (reply : Changed)
    → none ≡ [] → IsWrittenHead c now r.head t.new (offset + length bs) head → Learns first old (λ V. IsImage V r.head offset bs image) → length image ≡ image_bytes offset (offset + length bs)
    → ClearsGap old mid gap r.head offset → LaysBlocks mid last gap put n (laying_at t given) (reach_count t.reach) → given ≡ image → ((V : View) → new V → last V) → ws ≡ inode_write n bytes ∷ put → inode_seen bytes ≡ used (held_of head (name_from r.bytes))
    → reply ≡ changed_told n r.head head → WritesFile first new ws c offset bs t now n r reply
file-written first old mid last new none gap put ws c offset bs t now n r head image given bytes reply empty is_head im long g k given_is same is shown tells = record {
  same = λ V m. im.before V (g.same V (k.same V (same V m)));
  is = λ V m. record {
    head = head;
    image = image;
    is_head = is_head;
    is_image = im.now V (g.same V (k.same V (same V m)));
    long = long;
    view =
        ap (λ ws. written ws V) is
        ∙ (λ i. with_inode ((k.is V ∙ ap (λ v. laid (written gap V) n (laying_at t v) (reach_count t.reach)) given_is ∙ ap (λ U. laid U n (laying_at t image) (reach_count t.reach)) (g.is V (k.same V (same V m)))) i) n (shown i));
    told = tells;
  };
}

pub room-full : (old new : View → Type 0) (ws : List Write) (c : Caller) (offset : ℕ) (bs : List ℕ) (now : Time) (n : ℕ) (r : Record) → ((V : View) → new V → old V) → ws ≡ [] → WritesRoom old new ws c offset bs now n r (Err NoSpace)
room-full old new ws c offset bs now n r same none = record { same = same; is = λ V m. full (ap (λ ws. written ws V) none) }

pub room-written : (first read old new : View → Type 0) (ws : List Write) (c : Caller) (offset : ℕ) (bs : List ℕ) (t : Changing) (now : Time) (n : ℕ) (r : Record) (o : Option Numbers) (reply : Changed) → t.reach ≡ reach_for offset (offset + length bs)
    → AreSized t.reach t.old → IsSizedTaken t.reach o → Learns first read (λ V. HasNumbers V r.head t.reach t.old) → Learns read old (λ V. IsTaken V t.reach t.old o) → o ≡ Some t.new → WritesFile old new ws c offset bs t now n r reply → WritesRoom first new ws c offset bs now n r (Ok reply)
room-written first read old new ws c offset bs t now n r o reply reach sized taken_sized had l is k = record {
  same = λ V m. had.before V (l.before V (k.same V m));
  is = λ V m. writes t reply (record {
    reach = reach;
    had = had.now V (l.before V (k.same V m));
    old_sized = sized;
    new_sized = subst (IsSizedTaken t.reach) is taken_sized;
    taken = subst (IsTaken V t.reach t.old) is (l.now V (k.same V m));
  }) (k.is V m);
}

pub allowed-none : (may : View → Type 0) (ws : List Write) (c : Caller) (offset : ℕ) (bs : List ℕ) (now : Time) (n : ℕ) (r : Record) (t : Told) → ws ≡ [] → length bs ≡ 0 → t ≡ told_of n r.head → WritesAllowed may may ws c offset bs now n r (Ok (record { before = t; after = t }))
allowed-none may ws c offset bs now n r t none empty tells = record { same = λ V m. m; is = λ V m. stays (record { before = t; after = t }) empty (ap (λ ws. written ws V) none) (λ i. record { before = tells i; after = tells i }) }

pub allowed-some : (old new : View → Type 0) (ws : List Write) (c : Caller) (offset : ℕ) (bs : List ℕ) (now : Time) (n : ℕ) (r : Record) (reply : Result Changed Status) → 0 < length bs → offset + length bs ≤ MOST_BYTES → WritesRoom old new ws c offset bs now n r reply → WritesAllowed old new ws c offset bs now n r reply
allowed-some old new ws c offset bs now n r reply some fits k = record { same = k.same; is = λ V m. tried reply some fits (k.is V m) }

pub writing-kept : (may : View → Type 0) (ws : List Write) (c : Caller) (offset count : ℕ) (bs : List ℕ) (now : Time) (n : ℕ) (r : Record) (o : Option Status) (status : Status) → ws ≡ [] → o ≡ writing_status c r.head offset count (length bs) → o ≡ Some status → WritesNode may may ws c offset count bs now n r (Err status)
writing-kept may ws c offset count bs now n r o status none is why = record { same = λ V m. m; is = λ V m. kept status (sym is ∙ why) (ap (λ ws. written ws V) none) }

pub writing-done : (old new : View → Type 0) (ws : List Write) (c : Caller) (offset count : ℕ) (bs : List ℕ) (now : Time) (n : ℕ) (r : Record) (o : Option Status) (reply : Result Changed Status) → o ≡ writing_status c r.head offset count (length bs) → o ≡ None → WritesAllowed old new ws c offset bs now n r reply → WritesNode old new ws c offset count bs now n r reply
writing-done old new ws c offset count bs now n r o reply is on k = record { same = k.same; is = λ V m. is_allowed reply (sym is ∙ on) (k.is V m) }
