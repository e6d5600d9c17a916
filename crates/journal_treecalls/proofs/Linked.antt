-- SYMLINK and READLINK.
use Rattle.std.proofs.Common.{◌≡◌, ◌≢◌, ℕ, ◌+◌, ◌-◌, ◌<◌, ◌≤◌, Bool, true, false, not, cond, List, [], ◌∷◌, ◌++◌, length, take, replicate, Option, Some, None, Ok, Err, refl, sym, ap, subst, ◌⊎◌, inl, inr, ◌∙◌, arith, length-append}
use Rattle.std.specs.Prelude.{Result, ◌==◌, ◌||◌, nat_lt, slice_range}
use Rattle.std.proofs.lemmas.Bool.{or_parts, eqb-false, ltb-false}
use Rattle.std.proofs.lemmas.List.{length-replicate, drop-replicate}
use Rattle.std.proofs.Math.Seq.{take-length}
use Rattle.journal_tree.specs.declared.limits.TheConstants.{MOST_LINK, LINK_MODE}
use Rattle.journal_tree.specs.declared.time.Time.{Time}
use Rattle.journal_tree.specs.declared.reply.Attributes.{Attributes}
use Rattle.journal_tree.specs.declared.reply.Handle.{Handle}
use Rattle.journal_tree.specs.declared.reply.Kind.{Kind}
use Rattle.journal_tree.specs.declared.reply.Kind.TheVariants.{Directory, File, Link}
use Rattle.journal_tree.specs.declared.reply.Made.{Made}
use Rattle.journal_tree.specs.declared.reply.Room.{Room}
use Rattle.journal_tree.specs.declared.settings.Settings.{Settings}
use Rattle.journal_tree.specs.declared.caller.Caller.{Caller}
use Rattle.journal_tree.specs.declared.status.Status.{Status}
use Rattle.journal_tree.specs.declared.status.Status.TheVariants.{Exists, Invalid, NameTooLong, NoAccess, NoSpace, Stale}
use Rattle.journal_tree.specs.Times.{IsTime}
use Rattle.journal_tree.specs.Trees.Body.{link}
use Rattle.journal_tree.specs.Rights.{may_rename}
use Rattle.journal_tree.specs.Calls.{Outcome, refused, target}
use Rattle.journal_tree.specs.Attributes.{is_no_time}
use Rattle.journal_tree.specs.Names.{born, new_attributes, symlink_new, symlink_case, text_of}
use Rattle.journal_tree.specs.Op.{Op, MayTake}
use Rattle.journal_tree.specs.Op.Call.{symlink, readlink}
use Rattle.journal_tree.specs.Op.Reply.{made as made_reply, link_read}
use Rattle.journal_tree.specs.Op.Op.{answers_symlink, answers_readlink}
use Rattle.journal_tree.specs.Fit.{IsAsked, IsCaller, IsFitBody}
use Rattle.journal_treestore.specs.Entries.{tag_of}
use Rattle.journal_treestore.specs.declared.inode.Head.{Head}
use Rattle.journal_treestore.specs.Bytes.{with_piece}
use Rattle.journal_treestore.specs.Owners.{owner_from}
use Rattle.journal_treestore.specs.Steps.{text_block}
use Rattle.journal_treestore.specs.Views.{View, zero_block, with_inode, with_owner, with_block, held_of, content, body_of, node_of, tree_of}
use Rattle.journal_treestore.specs.Views.Seen.{used}
use Rattle.journal_treestore.specs.Sound.{IsSoundView}
use Rattle.journal_treestore.proofs.Recording.{zero_block-is}
use Rattle.journal_treestore.proofs.Viewing.{inode-node}
use Rattle.journal_treecalls.specs.declared.node.Record.{Record}
use Rattle.journal_treecalls.specs.declared.search.Hit.{Hit}
use Rattle.journal_treecalls.specs.declared.named.Named.{Named}
use Rattle.journal_treecalls.specs.declared.creation.NewNode.{NewNode}
use Rattle.journal_treecalls.specs.declared.creation.Plan.{Plan}
use Rattle.journal_treecalls.specs.declared.room.FreeRoom.{FreeRoom}
use Rattle.journal_treecalls.specs.declared.portion.ReadReply.{ReadReply}
use Rattle.journal_treecalls.specs.declared.symlinks.LinkReply.{LinkReply}
use Rattle.journal_treecalls.specs.Disks.{Write, inode_seen, written, Learns, Does}
use Rattle.journal_treecalls.specs.Disks.Write.{inode_write, owner_write, block_write}
use Rattle.journal_treecalls.specs.Targets.{held, IsNode, IsTarget}
use Rattle.journal_treecalls.specs.Names.{IsNamed, IsUnnamed, IsNameFor}
use Rattle.journal_treecalls.specs.Blocks.{owner_of}
use Rattle.journal_treecalls.specs.Rooms.{IsRoomFor, HasRoomFor, new_head, place_number, with_placed, Plants}
use Rattle.journal_treecalls.specs.Portions.{HasPortion, reach_of}
use Rattle.journal_treecalls.specs.Symlinks.{IsOther, linking_status, link_plan, refusal_by, link_refusal, with_first, with_text, PutsText, PutsLink, IsLinkedIn, LinksWithin, LinksNode, IsLinking, LinksFound, link_told, ReadsLink}
use Rattle.journal_treecalls.specs.Symlinks.IsLinkingWithin.{full, links}
use Rattle.journal_treecalls.specs.Symlinks.IsLinkingNode.{crowded, within}
use Rattle.journal_treecalls.specs.Symlinks.IsLinking.{kept, tried}
use Rattle.journal_treecalls.specs.Symlinks.ReadsLink.{no_link, reads}
use Rattle.journal_treecalls.proofs.Learning.{learns-as, does-reads}
use Rattle.journal_treecalls.proofs.Learned.{AreSound}
use Rattle.journal_treecalls.proofs.Cases.{at-gone, at-node, node-told, length-content}
use Rattle.journal_treecalls.proofs.ByName.{at-unnamed, at-missed, at-hit}
use Rattle.journal_treecalls.proofs.Portioning.{bytes-read}
use Rattle.journal_treecalls.proofs.Texts.{LinkBirth, bare, outcome-zeros, link-birth}

-- ── the reasons not to make a link ──

-- a text of the same length has the same
same-status : (c : Caller) (s : Settings) (a b : List ℕ) (d : Attributes) → length a ≡ length b → linking_status c s a d ≡ linking_status c s b d
same-status c s a b d e = ap (λ n. cond (not (may_rename c d)) (Some NoAccess) (cond (is_no_time s.mtime || n == 0) (Some Invalid) (cond (nat_lt MOST_LINK n) (Some NameTooLong) None))) e

-- where there is none, the text is not empty, and not too long
pub fits-text : (c : Caller) (s : Settings) (text : List ℕ) (d : Attributes) → linking_status c s text d ≡ None → (0 < length text) × (length text ≤ MOST_LINK)
fits-text c s text d on = by (may_rename c d) (is_no_time s.mtime || length text == 0) (nat_lt MOST_LINK (length text)) refl refl on
  where
    by : (may bad long : Bool) → (is_no_time s.mtime || length text == 0) ≡ bad → nat_lt MOST_LINK (length text) ≡ long
        → cond (not may) (Some NoAccess) (cond bad (Some Invalid) (cond long (Some NameTooLong) None)) ≡ None → (0 < length text) × (length text ≤ MOST_LINK)
    by false bad long b l is = absurd (cc (is))
    by true true long b l is = absurd (cc (is))
    by true false true b l is = absurd (cc (is))
    by true false false b l is =
        let some = eqb-false (length text) 0 (or_parts (is_no_time s.mtime) (length text == 0) b).1 in
        (omega (arith, some), ltb-false MOST_LINK (length text) l)

-- so it is where a link is made under a name that was looked for
pub few-text : (c : Caller) (s : Settings) (text : List ℕ) (d : Attributes) (now : Time) (n : Named) (plan : Plan) → plan ≡ link_plan c s text d now → link_refusal n plan ≡ None → length text ≤ MOST_LINK
few-text c s text d now n plan is on = (fits-text c s text d (by n.hit (ap (λ (p : Plan). refusal_by n.hit p.refusal) (sym is) ∙ on))).1
  where
    by : (o : Option Hit) → refusal_by o (linking_status c s text d) ≡ None → linking_status c s text d ≡ None
    by None e = e
    by (Some hit) e = absurd (cc (e))

-- ── SYMLINK ──

module _ (V : View) (h : Handle) (c : Caller) (name : List ℕ) (s : Settings) (now : Time) where
  pub symlink-unnamed : (text : List ℕ) (status : Status) → IsUnnamed V c h name Exists Exists status → Op (symlink h name s text) c now (tree_of V) (made_reply (Err status)) (tree_of V)
  symlink-unnamed text status why = answers_symlink h name s text None c now (tree_of V) (tree_of V) (Err status) tt
      (sym (at-unnamed V h c name Exists Exists (symlink_new c name s text None now (tree_of V)) (λ d x n y. refused Exists (tree_of V)) status why))

  module _ (n : Named) (sound : IsSoundView V) (is : IsNamed V c h name n) (text : List ℕ) where
    abbrev d : Attributes
    d = n.directory.head.attributes

    abbrev born-link : Option Room → Outcome Made
    born-link room = born (tree_of V) h.number (node_of V (held n.directory)) name room (new_attributes c s n.directory.head.attributes Link LINK_MODE now) (link text) now

    abbrev chain : Bool → Bool → Bool → Outcome Made → Outcome Made
    chain may bad long o = cond may (cond bad (refused Invalid (tree_of V)) (cond long (refused NameTooLong (tree_of V)) o)) (refused NoAccess (tree_of V))

    symlink-at : n.hit ≡ None → (room : Option Room) → symlink_case c name s text room now (tree_of V) (target (tree_of V) h)
        ≡ chain (may_rename c d) (is_no_time s.mtime || length text == 0) (nat_lt MOST_LINK (length text)) (born-link room)
    symlink-at none room = at-missed V h c name Exists Exists (symlink_new c name s text room now (tree_of V)) (λ d x n y. refused Exists (tree_of V)) n sound is none

    linking : (status : Status) (o : Outcome Made) → linking_status c s text d ≡ Some status → chain (may_rename c d) (is_no_time s.mtime || length text == 0) (nat_lt MOST_LINK (length text)) o ≡ refused status (tree_of V)
    linking status o = by (may_rename c d) (is_no_time s.mtime || length text == 0) (nat_lt MOST_LINK (length text))
      where
        by : (may bad long : Bool) → cond (not may) (Some NoAccess) (cond bad (Some Invalid) (cond long (Some NameTooLong) None)) ≡ Some status → chain may bad long o ≡ refused status (tree_of V)
        by false bad long is = ap (λ s. refused s (tree_of V)) (cc)
        by true true long is = ap (λ s. refused s (tree_of V)) (cc)
        by true false true is = ap (λ s. refused s (tree_of V)) (cc)
        by true false false is = absurd (cc (is))

    linking-on : (o : Outcome Made) → linking_status c s text d ≡ None → chain (may_rename c d) (is_no_time s.mtime || length text == 0) (nat_lt MOST_LINK (length text)) o ≡ o
    linking-on o = by (may_rename c d) (is_no_time s.mtime || length text == 0) (nat_lt MOST_LINK (length text))
      where
        by : (may bad long : Bool) → cond (not may) (Some NoAccess) (cond bad (Some Invalid) (cond long (Some NameTooLong) None)) ≡ None → chain may bad long o ≡ o
        by false bad long is = absurd (cc (is))
        by true true long is = absurd (cc (is))
        by true false true is = absurd (cc (is))
        by true false false is = refl

    pub symlink-refused : (status : Status) → refusal_by n.hit (linking_status c s text n.directory.head.attributes) ≡ Some status → Op (symlink h name s text) c now (tree_of V) (made_reply (Err status)) (tree_of V)
    symlink-refused status why = by n.hit refl why
      where
        by : (o : Option Hit) → n.hit ≡ o → refusal_by o (linking_status c s text n.directory.head.attributes) ≡ Some status → Op (symlink h name s text) c now (tree_of V) (made_reply (Err status)) (tree_of V)
        by (Some hit) here e = answers_symlink h name s text None c now (tree_of V) (tree_of V) (Err status) tt
            (sym (at-hit V h c name Exists Exists (symlink_new c name s text None now (tree_of V)) (λ d x n y. refused Exists (tree_of V)) n hit sound is here ∙ ap (λ s. refused s (tree_of V)) (cc)))
        by None none e = answers_symlink h name s text None c now (tree_of V) (tree_of V) (Err status) tt (sym (symlink-at none None ∙ linking status (born-link None) e))

    module _ (none : n.hit ≡ None) (on : linking_status c s text n.directory.head.attributes ≡ None) where
      pub symlink-no_room : Op (symlink h name s text) c now (tree_of V) (made_reply (Err NoSpace)) (tree_of V)
      symlink-no_room = answers_symlink h name s text None c now (tree_of V) (tree_of V) (Err NoSpace) tt (sym (symlink-at none None ∙ linking-on (born-link None) on))

      symlink-made : (W : View) (room : Room) (reply : Made) (a : Attributes) → a ≡ new_attributes c s n.directory.head.attributes Link LINK_MODE now → MayTake (tree_of V) h.number (Some room)
          → (Ok reply, tree_of W) ≡ born (tree_of V) h.number (node_of V (held n.directory)) name (Some room) a (link text) now
          → Op (symlink h name s text) c now (tree_of V) (made_reply (Ok reply)) (tree_of W)
      symlink-made W room reply a a_is take outcome = answers_symlink h name s text (Some room) c now (tree_of V) (tree_of W) (Ok reply) take
          (outcome
          ∙ ap (λ a. born (tree_of V) h.number (node_of V (held n.directory)) name (Some room) a (link text) now) a_is
          ∙ sym (symlink-at none (Some room) ∙ linking-on (born-link (Some room)) on))

  -- a link is made
  module _ (n : Named) (sound : IsSoundView V) (is : IsNamed V c h name n) (text : List ℕ) (none : n.hit ≡ None) (on : linking_status c s text n.directory.head.attributes ≡ None)
      (W : View) (new : NewNode) (room : FreeRoom) (reply : Made) (a : new.attributes ≡ new_attributes c s n.directory.head.attributes Link LINK_MODE now) (k : new.kind ≡ Link) (z : new.size ≡ length text)
      (has : HasRoomFor V n.directory.head (tag_of name) room) (linked : IsLinkedIn V W h.number n.directory name new text room now reply) (asked : IsAsked s) (caller : IsCaller c) (time : IsTime now) where
    abbrev W1 : View
    W1 = with_placed V h.number n.directory room.number room.place name new now

    abbrev zeros : List ℕ
    zeros = replicate (length text) 0

    long : 0 < length text
    long = (fits-text c s text n.directory.head.attributes on).0

    few : length text ≤ MOST_LINK
    few = (fits-text c s text n.directory.head.attributes on).1

    -- the disk before the text is that of a link of zeros
    sound1 : IsSoundView W1
    sound1 =
        let b = bare V W h n.directory name new text room now reply sound is.searched.node is.searched.kind k z long few has linked in
        b.stays (symlink h name s zeros) c asked caller time
        (symlink-made n sound is zeros none (same-status c s zeros text n.directory.head.attributes (length-replicate {A = ℕ} (length text) 0) ∙ on) W1 b.room reply new.attributes a b.has_room
        (outcome-zeros V W h n.directory name new text room now reply sound is.searched.node is.searched.kind k z long few has linked))

    birth : LinkBirth V W h n.directory name new text now reply
    birth = link-birth V W h n.directory name new text room now reply sound is.searched.node is.searched.kind k z long few has linked sound1

    pub symlink-done : Op (symlink h name s text) c now (tree_of V) (made_reply (Ok reply)) (tree_of W)
    symlink-done = symlink-made n sound is text none on W birth.room reply new.attributes a birth.has_room birth.outcome

    pub symlink-sound : IsSoundView W
    symlink-sound = birth.stays (symlink h name s text) c asked caller time symlink-done

-- ── the writes ──

pub puts-text : (old first second new : View → Type 0) (before one two after : List Write) (n : ℕ) (bare head : Head) (name : List ℕ) (b : ℕ) (text v o x : List ℕ)
    → one ≡ block_write b v ∷ before → two ≡ owner_write b o ∷ one → after ≡ inode_write n x ∷ two → v ≡ text_block text → owner_from o ≡ owner_of n 0 → head ≡ with_first bare b → inode_seen x ≡ used (held_of head name)
    → ((V : View) → first V → old V) → ((V : View) → second V → first V) → ((V : View) → new V → second V) → PutsText old new before after n bare name b text
puts-text old first second new before one two after n bare head name b text v o x w1 w2 w3 v_is o_is head_is x_is s1 s2 s3 = record {
  same = λ V m. s1 V (s2 V (s3 V m));
  is = λ V. (
      ap (λ ws. written ws V) (w3 ∙ ap (λ ws. inode_write n x ∷ ws) (w2 ∙ ap (λ ws. owner_write b o ∷ ws) w1))
      ∙ (λ i. with_inode (with_owner (with_block (written before V) b (v_is i)) b (o_is i)) n ((x_is ∙ ap (λ (k : Head). used (held_of k name)) head_is) i)));
}

pub puts-link : (old mid new : View → Type 0) (before after : List Write) (d : ℕ) (r : Record) (name : List ℕ) (node : NewNode) (text : List ℕ) (room : FreeRoom) (b : ℕ) (now : Time) (made : Made) (bare : Head) (place : ℕ)
    → Plants old mid before d r name node room.number room.place now made → PutsText mid new before after room.number.number bare name b text → place ≡ place_number room.place → bare ≡ new_head d room.number place node
    → PutsLink old new after d r name node text room b now made
puts-link old mid new before after d r name node text room b now made bare place plants puts place_is bare_is = record {
  same = λ V m. plants.same V (puts.same V m);
  written_is = λ time V m. puts.is V ∙ (λ i. with_text (plants.written_is time V (puts.same V m) i) room.number.number ((bare_is ∙ ap (λ p. new_head d room.number p node) place_is) i) name b text);
  told = plants.told;
}

pub within-none : (first new : View → Type 0) (ws : List Write) (d : ℕ) (r : Record) (name : List ℕ) (node : NewNode) (text : List ℕ) (room : FreeRoom) (now : Time) → ((V : View) → new V → first V) → ws ≡ [] → LinksWithin first new ws d r name node text room now (Err NoSpace)
within-none first new ws d r name node text room now same none = record { same = same; is = λ time V m. full (ap (λ ws. written ws V) none) }

pub within-some : (first old new : View → Type 0) (ws : List Write) (d : ℕ) (r : Record) (name : List ℕ) (node : NewNode) (text : List ℕ) (room : FreeRoom) (b : ℕ) (now : Time) (o : Option ℕ) (made : Made)
    → Learns first old (λ V. IsOther V room.place o) → o ≡ Some b → PutsLink old new ws d r name node text room b now made → LinksWithin first new ws d r name node text room now (Ok made)
within-some first old new ws d r name node text room b now o made l is puts = record {
  same = λ V m. l.before V (puts.same V m);
  is = λ time V m. links made (record {
    block = b;
    is_block = subst (IsOther V room.place) is (l.now V (puts.same V m));
    view = puts.written_is time V m;
    is = puts.told time;
  });
}

pub room-none : (first new : View → Type 0) (ws : List Write) (d : ℕ) (r : Record) (name : List ℕ) (node : NewNode) (text : List ℕ) (now : Time) → ((V : View) → new V → first V) → ws ≡ [] → LinksNode first new ws d r name node text now (Err NoSpace)
room-none first new ws d r name node text now same none = record { same = same; is = λ time V m. crowded (ap (λ ws. written ws V) none) }

pub room-some : (first old new : View → Type 0) (ws : List Write) (d : ℕ) (r : Record) (name : List ℕ) (node : NewNode) (text : List ℕ) (room : FreeRoom) (now : Time) (o : Option FreeRoom) (reply : Result Made Status) (tag : ℕ)
    → Learns first old (λ V. IsRoomFor V r.head tag o) → tag ≡ tag_of name → o ≡ Some room → LinksWithin old new ws d r name node text room now reply → LinksNode first new ws d r name node text now reply
room-some first old new ws d r name node text room now o reply tag l tag_is is k = record {
  same = λ V m. l.before V (k.same V m);
  is = λ time V m. within room reply (subst (IsRoomFor V r.head (tag_of name)) is (subst (λ t. IsRoomFor V r.head t o) tag_is (l.now V (k.same V m)))) (k.is time V m);
}

pub link-kept : (may : View → Type 0) (ws : List Write) (d : ℕ) (n : Named) (name : List ℕ) (plan : Plan) (text : List ℕ) (now : Time) (o : Option Status) (status : Status) → ws ≡ [] → o ≡ link_refusal n plan → o ≡ Some status
    → LinksFound may may ws d n name plan text now (Err status)
link-kept may ws d n name plan text now o status none is why = record { same = λ V m. m; is = λ time V m. kept status (sym is ∙ why) (ap (λ ws. written ws V) none) }

pub link-tried : (old new : View → Type 0) (ws : List Write) (d : ℕ) (n : Named) (name : List ℕ) (plan : Plan) (text : List ℕ) (now : Time) (o : Option Status) (reply : Result Made Status) → o ≡ link_refusal n plan → o ≡ None
    → LinksNode old new ws d n.directory name plan.node text now reply → LinksFound old new ws d n name plan text now reply
link-tried old new ws d n name plan text now o reply is on k = record { same = k.same; is = λ time V m. tried reply (sym is ∙ on) (k.is time V m) }

-- ── the call ──

module _ (first old new : View → Type 0) (sound : AreSound new) (ws : List Write) (h : Handle) (name : List ℕ) (c : Caller) (s : Settings) (text : List ℕ) (now : Time) (found : Result Named Status)
    (l : Learns first old (λ V. IsNameFor V c h name Exists Exists found)) where
  pub symlink-err : (status : Status) → ws ≡ [] → found ≡ Err status → ((V : View) → new V → old V) → Does new ws (symlink h name s text) c now (made_reply (Err status))
  symlink-err status none is same = does-reads new ws (symlink h name s text) c now (made_reply (Err status)) none sound (λ V m.
      symlink-unnamed V h c name s now text status (subst (IsNameFor V c h name Exists Exists) is (l.now V (same V m))))

  module _ (n : Named) (is : found ≡ Ok n) (asked : IsAsked s) (caller : IsCaller c) (time : IsTime now) (plan : Plan) (reply : Result Made Status) (linking_is : LinksFound old new ws h.number n name plan text now reply)
      (planned : plan ≡ link_plan c s text n.directory.head.attributes now) where
    named : (V : View) → new V → IsNamed V c h name n
    named V m = subst (IsNameFor V c h name Exists Exists) is (l.now V (linking_is.same V m))

    ctime : (V : View) → new V → IsTime n.directory.head.attributes.ctime
    ctime V m = ((sound V m).fit.nodes h.number (node_of V (held n.directory)) (inode-node V h.number (held n.directory) (named V m).searched.node.is)).ctime

    refusal-is : link_refusal n plan ≡ refusal_by n.hit (linking_status c s text n.directory.head.attributes)
    refusal-is = ap (λ (p : Plan). refusal_by n.hit p.refusal) planned

    unhit : (o : Option Hit) (r : Option Status) → refusal_by o r ≡ None → (o ≡ None) × (r ≡ None)
    unhit None r e = (refl, e)
    unhit (Some hit) r e = absurd (cc (e))

    parts : link_refusal n plan ≡ None → (n.hit ≡ None) × (linking_status c s text n.directory.head.attributes ≡ None)
    parts on = unhit n.hit (linking_status c s text n.directory.head.attributes) (sym refusal-is ∙ on)

    -- the call leads to the tree of the disk after it, which is sound
    does : (V : View) → new V → (W : View) (reply : Result Made Status) → IsLinking V W h.number n name plan text now reply → Op (symlink h name s text) c now (tree_of V) (made_reply reply) (tree_of W) × IsSoundView W
    does V m W _ (kept status why stays) = (
      subst (λ W. Op (symlink h name s text) c now (tree_of V) (made_reply (Err status)) (tree_of W)) (sym stays) (symlink-refused V h c name s now n (sound V m) (named V m) text status (sym refusal-is ∙ why)),
      subst IsSoundView (sym stays) (sound V m),
    )
    does V m W _ (tried _ on (crowded stays)) = (
      subst (λ W. Op (symlink h name s text) c now (tree_of V) (made_reply (Err NoSpace)) (tree_of W)) (sym stays) (symlink-no_room V h c name s now n (sound V m) (named V m) text (parts on).0 (parts on).1),
      subst IsSoundView (sym stays) (sound V m),
    )
    does V m W _ (tried _ on (within room _ has (full stays))) = (
      subst (λ W. Op (symlink h name s text) c now (tree_of V) (made_reply (Err NoSpace)) (tree_of W)) (sym stays) (symlink-no_room V h c name s now n (sound V m) (named V m) text (parts on).0 (parts on).1),
      subst IsSoundView (sym stays) (sound V m),
    )
    does V m W _ (tried _ on (within room _ has (links made linked))) = (
      symlink-done V h c name s now n (sound V m) (named V m) text (parts on).0 (parts on).1 W plan.node room made (ap (λ (p : Plan). p.node.attributes) planned) (ap (λ (p : Plan). p.node.kind) planned) (ap (λ (p : Plan). p.node.size) planned) has linked asked caller time,
      symlink-sound V h c name s now n (sound V m) (named V m) text (parts on).0 (parts on).1 W plan.node room made (ap (λ (p : Plan). p.node.attributes) planned) (ap (λ (p : Plan). p.node.kind) planned) (ap (λ (p : Plan). p.node.size) planned) has linked asked caller time,
    )

    pub symlink-ok : Does new ws (symlink h name s text) c now (made_reply reply)
    symlink-ok = record { op = λ V m. (does V m (written ws V) reply (linking_is.is (ctime V m) V m)).0; sound = λ V m. (does V m (written ws V) reply (linking_is.is (ctime V m) V m)).1 }

-- the block of a text is laid over zeros
pub text-laid : (old new text : List ℕ) → old ≡ zero_block → new ≡ with_piece old 0 text → new ≡ text_block text
text-laid old new text zeros put =
    put
    ∙ ap (λ v. with_piece v 0 text) (zeros ∙ zero_block-is)
    ∙ ap (λ v. text ++ v) (drop-replicate (0 + length text) 4096 0 ∙ ap (λ n. replicate n 0) (let e : 4096 - (0 + length text) ≡ 4096 - length text = omega arith in e))

pub text-laid-long : (new text : List ℕ) → new ≡ text_block text → length text ≤ MOST_LINK → length new ≡ 4096
text-laid-long new text is few =
    ap length is ∙ length-append text (replicate (4096 - length text) 0) ∙ ap (λ n. length text + n) (length-replicate {A = ℕ} (4096 - length text) 0) ∙ omega (arith, few)

-- ── READLINK ──

-- all bytes of a list
whole-slice : (xs : List ℕ) (n : ℕ) → n ≡ length xs → slice_range xs 0 n ≡ xs
whole-slice xs n e = ap (λ k. take k xs) (let q : n - 0 ≡ length xs = omega (arith, e) in q) ∙ take-length xs

module _ (V : View) (h : Handle) (c : Caller) (now : Time) (r : Record) (sound : IsSoundView V) (node : IsNode V h r) where
  -- what is no link has no text
  pub no-text : r.head.kind ≢ Link → Op (readlink h) c now (tree_of V) (link_read (Err Invalid)) (tree_of V)
  no-text other = answers_readlink h c now (tree_of V) (tree_of V) (Err Invalid) (sym (at-node V h (λ n x. text_of (tree_of V) n x x.body) r node ∙ by r.head.kind other))
    where
      by : (k : Kind) → k ≢ Link → text_of (tree_of V) h.number (node_of V (held r)) (body_of V k (held r)) ≡ refused Invalid (tree_of V)
      by Directory other = refl
      by File other = refl
      by Link other = absurd (other refl)

  module _ (is_link : r.head.kind ≡ Link) where
    held-long : length (content V (held r)) ≡ r.head.size
    held-long = length-content V h.number (held r) (sound.inodes h.number (held r) node.is)

    small : r.head.size ≤ 4095
    small = subst (λ l. l ≤ 4095) held-long
        (subst IsFitBody (ap (λ kind. body_of V kind (held r)) is_link) (sound.fit.nodes h.number (node_of V (held r)) (inode-node V h.number (held r) node.is)).body)

    pub text-read : (read : ReadReply) → HasPortion V h.number r.head 0 MOST_LINK read → Op (readlink h) c now (tree_of V) (link_read (Ok (record { node = read.file; text = read.bytes.items }))) (tree_of V)
    text-read read has = answers_readlink h c now (tree_of V) (tree_of V) (Ok (record { node = read.file; text = read.bytes.items })) (sym (
        at-node V h (λ n x. text_of (tree_of V) n x x.body) r node
        ∙ ap (λ k. text_of (tree_of V) h.number (node_of V (held r)) (body_of V k (held r))) is_link
        ∙ (λ i. (Ok (record { node = (node-told V h r sound node ∙ sym has.file) i; text = all i }), tree_of V))))
      where
        whole : reach_of r.head.size 0 MOST_LINK ≡ r.head.size
        whole = let s = small in omega (arith, s)

        all : content V (held r) ≡ read.bytes.items
        all =
            sym (whole-slice (content V (held r)) (reach_of r.head.size 0 MOST_LINK) (whole ∙ sym held-long))
            ∙ sym (bytes-read V h.number r 0 MOST_LINK read.bytes.items (sound.inodes h.number (held r) node.is) (let s = small in omega (arith, s)) has.long has.fetched)

module _ (first old new : View → Type 0) (sound : AreSound new) (ws : List Write) (none : ws ≡ []) (h : Handle) (c : Caller) (now : Time) (found : Option Record) (l : Learns first old (λ V. IsTarget V h found)) where
  pub link-gone : found ≡ None → ((V : View) → new V → old V) → Does new ws (readlink h) c now (link_read (link_told (Err Stale)))
  link-gone is same = does-reads new ws (readlink h) c now (link_read (Err Stale)) none sound (λ V m. answers_readlink h c now (tree_of V) (tree_of V) (Err Stale) (sym (at-gone V h _ (subst (IsTarget V h) is (l.now V (same V m))))))

  pub link-there : (r : Record) (reply : Result LinkReply Status) → found ≡ Some r → Learns old new (λ V. ReadsLink V h.number r reply) → Does new ws (readlink h) c now (link_read (link_told reply))
  link-there r reply is k = does-reads new ws (readlink h) c now (link_read (link_told reply)) none sound (λ V m. by V m (subst (IsTarget V h) is (l.now V (k.before V m))) reply (k.now V m))
    where
      by : (V : View) → new V → IsNode V h r → (reply : Result LinkReply Status) → ReadsLink V h.number r reply → Op (readlink h) c now (tree_of V) (link_read (link_told reply)) (tree_of V)
      by V m node _ (no_link other) = no-text V h c now r (sound V m) node other
      by V m node _ (reads read is_link has) = text-read V h c now r (sound V m) node is_link read has

-- what is learned
pub link-refused : (old : View → Type 0) (n : ℕ) (r : Record) → (r.head.kind ≡ Directory) ⊎ (r.head.kind ≡ File) → Learns old old (λ V. ReadsLink V n r (Err Invalid))
link-refused old n r is = record { before = λ V m. m; now = λ V m. no_link (by is) }
  where
    by : (r.head.kind ≡ Directory) ⊎ (r.head.kind ≡ File) → r.head.kind ≢ Link
    by (inl d) e = absurd (cc (sym d ∙ e))
    by (inr f) e = absurd (cc (sym f ∙ e))

pub link-read : (old new : View → Type 0) (n : ℕ) (r : Record) (read : ReadReply) → r.head.kind ≡ Link → Learns old new (λ V. HasPortion V n r.head 0 MOST_LINK read) → Learns old new (λ V. ReadsLink V n r (Ok (record { node = read.file; text = read.bytes })))
link-read old new n r read is l = learns-as old new _ _ l (λ V m has. reads read is has)
