-- Each step of MKDIR and CREATE: its knowledge, and its writes.
use Rattle.std.proofs.Common.{◌≡◌, ◌≢◌, ℕ, ◌+◌, ◌*◌, ◌/◌, ◌<◌, Bool, true, false, cond, List, [], ◌∷◌, length, Option, Some, None, Ok, Err, refl, sym, ap, subst, ◌∙◌}
use Rattle.std.specs.Prelude.{Result}
use Rattle.journal_tree.specs.declared.time.Time.{Time}
use Rattle.journal_tree.specs.declared.reply.Handle.{Handle}
use Rattle.journal_tree.specs.declared.reply.Made.{Made}
use Rattle.journal_tree.specs.declared.settings.Settings.{Settings}
use Rattle.journal_tree.specs.declared.settings.CreateMode.TheVariants.{Guarded}
use Rattle.journal_tree.specs.declared.caller.Caller.{Caller}
use Rattle.journal_tree.specs.declared.status.Status.{Status}
use Rattle.journal_tree.specs.declared.status.Status.TheVariants.{Exists, NoSpace}
use Rattle.journal_tree.specs.Times.{IsTime}
use Rattle.journal_tree.specs.Fit.{IsAsked, IsCaller}
use Rattle.journal_tree.specs.Op.{Op}
use Rattle.journal_tree.specs.Op.Call.{create, mkdir}
use Rattle.journal_tree.specs.Op.Reply.{made as made_reply}
use Rattle.journal_treestore.specs.declared.entry.Entry.{Entry}
use Rattle.journal_treestore.specs.declared.inode.Head.{Head}
use Rattle.journal_treestore.specs.Entries.{with_entry, tag_of}
use Rattle.journal_treestore.specs.Inodes.{name_from}
use Rattle.journal_treestore.specs.Views.{View, zero_block, with_inode, with_block, held_of, node_of, tree_of}
use Rattle.journal_treestore.specs.Views.Seen.{used}
use Rattle.journal_treestore.specs.Sound.{IsSoundView}
use Rattle.journal_treestore.specs.Steps.{with_moment}
use Rattle.journal_treestore.proofs.Viewing.{inode-node}
use Rattle.journal_treecalls.specs.declared.node.Record.{Record}
use Rattle.journal_treecalls.specs.declared.search.Hit.{Hit}
use Rattle.journal_treecalls.specs.declared.named.Named.{Named}
use Rattle.journal_treecalls.specs.declared.room.FreeNumber.{FreeNumber}
use Rattle.journal_treecalls.specs.declared.room.FreePlace.{FreePlace}
use Rattle.journal_treecalls.specs.declared.growth.Growth.{Growth}
use Rattle.journal_treecalls.specs.declared.room.NewPlace.{NewPlace}
use Rattle.journal_treecalls.specs.declared.room.NewPlace.TheVariants.{Here, Further}
use Rattle.journal_treecalls.specs.declared.room.FreeRoom.{FreeRoom}
use Rattle.journal_treecalls.specs.declared.creation.NewNode.{NewNode}
use Rattle.journal_treecalls.specs.declared.creation.Making.{Making}
use Rattle.journal_treecalls.specs.declared.creation.Making.TheVariants.{Mkdir, Create}
use Rattle.journal_treecalls.specs.declared.creation.Plan.{Plan}
use Rattle.journal_treecalls.specs.Disks.{Write, inode_seen, written, Learns, Does}
use Rattle.journal_treecalls.specs.Disks.Write.{inode_write, block_write}
use Rattle.journal_treecalls.specs.Targets.{held}
use Rattle.journal_treecalls.specs.Names.{moved, IsNamed, IsNameFor}
use Rattle.journal_treecalls.specs.Reaches.{reach_count}
use Rattle.journal_treecalls.specs.Overlays.{laid, laying_at, LaysBlocks}
use Rattle.journal_treecalls.specs.Rooms.{HasRoomFor, IsRoomFor, new_head, new_entry, here_number, grown_head, with_growth, with_new, with_new_block, making_call, mkdir_plan, create_plan, plan_for, Plants, IsMakingNode, MakesNode, MakesPlanned, IsMaking, Makes}
use Rattle.journal_treecalls.specs.Rooms.IsMakingNode.{full, makes}
use Rattle.journal_treecalls.specs.Rooms.IsMakingPlanned.{kept, tried}
use Rattle.journal_treecalls.specs.Rooms.IsMaking.{there, missing}
use Rattle.journal_treecalls.proofs.Learning.{does-reads}
use Rattle.journal_treecalls.proofs.Learned.{AreSound}
use Rattle.journal_treecalls.proofs.Making.{mkdir-unnamed, create-unnamed, mkdir-there, create-there, mkdir-refused, create-refused, mkdir-no_room, create-no_room, mkdir-done, create-done, mkdir-sound, create-sound}

-- ── the writes ──

pub with-new : (ws : List Write) (V : View) (d : ℕ) (r : Record) (f : FreeNumber) (p : FreePlace) (name : List ℕ) (node : NewNode) (now : Time) (v w db nb : List ℕ) (e : Entry) (head new : Head) (place : ℕ)
    → ws ≡ inode_write f.number nb ∷ inode_write d db ∷ block_write p.block w ∷ [] → V.block p.block ≡ v → w ≡ with_entry v p.at e → e ≡ new_entry f name
    → head ≡ moved r.head now → inode_seen db ≡ used (held_of head (name_from r.bytes)) → new ≡ new_head d f place node → place ≡ here_number p → inode_seen nb ≡ used (held_of new name) → written ws V ≡ with_new V d r f p name node now
with-new ws V d r f p name node now v w db nb e head new place is at put entry head_is shown new_is place_is new_shown =
    ap (λ ws. written ws V) is
    ∙ (λ i. with_inode (with_inode (with_block V p.block (entries i)) d (moved_in i)) f.number (new_in i))
  where
    entries : w ≡ with_entry (V.block p.block) p.at (new_entry f name)
    entries = put ∙ ap (λ v. with_entry v p.at e) (sym at) ∙ ap (with_entry (V.block p.block) p.at) entry

    moved_in : inode_seen db ≡ used (with_moment (held r) now)
    moved_in = shown ∙ ap (λ (x : Head). used (held_of x (name_from r.bytes))) head_is

    new_in : inode_seen nb ≡ used (held_of (new_head d f (here_number p) node) name)
    new_in = new_shown ∙ ap (λ (x : Head). used (held_of x name)) (new_is ∙ ap (λ place. new_head d f place node) place_is)

-- two writes more, the last first
pub writes-two : (before first second : List Write) (a b : Write) → first ≡ a ∷ before → second ≡ b ∷ first → second ≡ b ∷ a ∷ before
writes-two before first second a b x y = y ∙ ap (λ ws. b ∷ ws) x

-- the blocks are the first writes
pub begun : (old new : View → Type 0) (before after : List Write) (d : ℕ) (g : Growth) (x : List ℕ) (m : ℕ) → LaysBlocks old new before after d (laying_at g.change x) m → before ≡ [] → (V : View) → written after V ≡ laid V d (laying_at g.change x) m
begun old new before after d g x m lays none V = lays.is V ∙ ap (λ ws. laid (written ws V) d (laying_at g.change x) m) none

pub with-new-block : (before ws : List Write) (V : View) (d : ℕ) (r : Record) (f : FreeNumber) (g : Growth) (name : List ℕ) (node : NewNode) (now : Time) (v w x db nb : List ℕ) (e : Entry) (larger head new : Head)
    → ws ≡ inode_write f.number nb ∷ inode_write d db ∷ before → written before V ≡ laid V d (laying_at g.change x) (reach_count g.change.reach) → v ≡ zero_block → w ≡ with_entry v 0 e → x ≡ w → e ≡ new_entry f name
    → larger ≡ grown_head r.head g → head ≡ moved larger now → inode_seen db ≡ used (held_of head (name_from r.bytes)) → new ≡ new_head d f (512 * g.j) node → inode_seen nb ≡ used (held_of new name)
    → written ws V ≡ with_new_block V d r f g name node now
with-new-block before ws V d r f g name node now v w x db nb e larger head new is lays zeros put same entry grown_is head_is shown new_is new_shown =
    ap (λ ws. written ws V) is
    ∙ (λ i. with_inode (with_inode (blocks i) d (moved_in i)) f.number (new_in i))
  where
    entries : x ≡ with_entry zero_block 0 (new_entry f name)
    entries = same ∙ put ∙ ap (λ v. with_entry v 0 e) zeros ∙ ap (with_entry zero_block 0) entry

    blocks : written before V ≡ with_growth V d g (with_entry zero_block 0 (new_entry f name))
    blocks = lays ∙ ap (with_growth V d g) entries

    moved_in : inode_seen db ≡ used (held_of (moved (grown_head r.head g) now) (name_from r.bytes))
    moved_in = shown ∙ ap (λ (x : Head). used (held_of x (name_from r.bytes))) (head_is ∙ ap (λ (x : Head). moved x now) grown_is)

    new_in : inode_seen nb ≡ used (held_of (new_head d f (512 * g.j) node) name)
    new_in = new_shown ∙ ap (λ (x : Head). used (held_of x name)) new_is

-- the time of a directory that grows is its own
pub time-of-grown : (h larger : Head) (g : Growth) → larger ≡ grown_head h g → IsTime h.attributes.ctime → IsTime larger.attributes.ctime
time-of-grown h larger g is time = subst (λ (x : Head). IsTime x.attributes.ctime) (sym is) time

-- ── from room to a node ──

pub plants-at : (old new : View → Type 0) (ws : List Write) (d : ℕ) (r : Record) (name : List ℕ) (node : NewNode) (f : FreeNumber) (place p : NewPlace) (now : Time) (made : Made) → place ≡ p → Plants old new ws d r name node f p now made
    → Plants old new ws d r name node f place now made
plants-at old new ws d r name node f place p now made is k = subst (λ p. Plants old new ws d r name node f p now made) (sym is) k

pub node-none : (first new : View → Type 0) (ws : List Write) (d : ℕ) (r : Record) (name : List ℕ) (node : NewNode) (now : Time) → ((V : View) → new V → first V) → ws ≡ [] → MakesNode first new ws d r name node now (Err NoSpace)
node-none first new ws d r name node now same none = record { same = same; is = λ time V m. full (ap (λ ws. written ws V) none) }

pub node-some : (first old new : View → Type 0) (ws : List Write) (d : ℕ) (r : Record) (name : List ℕ) (node : NewNode) (room : FreeRoom) (now : Time) (o : Option FreeRoom) (made : Made) (tag : ℕ)
    → Learns first old (λ V. IsRoomFor V r.head tag o) → tag ≡ tag_of name → o ≡ Some room → Plants old new ws d r name node room.number room.place now made → MakesNode first new ws d r name node now (Ok made)
node-some first old new ws d r name node room now o made tag l tag_is is plants = record {
  same = λ V m. l.before V (plants.same V m);
  is = λ time V m. by time V m (subst (IsRoomFor V r.head (tag_of name)) is (subst (λ t. IsRoomFor V r.head t o) tag_is (l.now V (plants.same V m))));
}
  where
    by : IsTime r.head.attributes.ctime → (V : View) → new V → HasRoomFor V r.head (tag_of name) room → IsMakingNode V (written ws V) d r name node now (Ok made)
    by time V m k = makes made (record { number = room.number; place = room.place; is_free = k.number; is_place = k.place; view = plants.written_is time V m; is = plants.told time })

pub planned-kept : (may : View → Type 0) (ws : List Write) (d : ℕ) (r : Record) (name : List ℕ) (plan : Plan) (now : Time) (status : Status) → ws ≡ [] → plan.refusal ≡ Some status → MakesPlanned may may ws d r name plan now (Err status)
planned-kept may ws d r name plan now status none is = record { same = λ V m. m; is = λ time V m. kept status is (ap (λ ws. written ws V) none) }

pub planned-tried : (old new : View → Type 0) (ws : List Write) (d : ℕ) (r : Record) (name : List ℕ) (plan : Plan) (now : Time) (reply : Result Made Status) → plan.refusal ≡ None → MakesNode old new ws d r name plan.node now reply → MakesPlanned old new ws d r name plan now reply
planned-tried old new ws d r name plan now reply on k = record { same = k.same; is = λ time V m. tried reply on (k.is time V m) }

pub made-there : (may : View → Type 0) (ws : List Write) (d : ℕ) (n : Named) (name : List ℕ) (plan : Plan) (now : Time) (hit : Hit) → ws ≡ [] → n.hit ≡ Some hit → Makes may may ws d n name plan now (Err Exists)
made-there may ws d n name plan now hit none is = record { same = λ V m. m; is = λ time V m. there hit is (ap (λ ws. written ws V) none) }

pub made-missing : (old new : View → Type 0) (ws : List Write) (d : ℕ) (n : Named) (name : List ℕ) (plan : Plan) (now : Time) (reply : Result Made Status) → n.hit ≡ None → MakesPlanned old new ws d n.directory name plan now reply → Makes old new ws d n name plan now reply
made-missing old new ws d n name plan now reply none k = record { same = k.same; is = λ time V m. missing reply none (k.is time V m) }

-- ── the calls ──

module _ (first old new : View → Type 0) (sound : AreSound new) (ws : List Write) (h : Handle) (name : List ℕ) (c : Caller) (s : Settings) (now : Time) (found : Result Named Status)
    (l : Learns first old (λ V. IsNameFor V c h name Exists Exists found)) where
  pub mkdir-err : (status : Status) → ws ≡ [] → found ≡ Err status → ((V : View) → new V → old V) → Does new ws (mkdir h name s) c now (made_reply (Err status))
  mkdir-err status none is same = does-reads new ws (mkdir h name s) c now (made_reply (Err status)) none sound (λ V m.
      mkdir-unnamed V h c name s now status (subst (IsNameFor V c h name Exists Exists) is (l.now V (same V m))))

  pub create-err : (status : Status) → ws ≡ [] → found ≡ Err status → ((V : View) → new V → old V) → Does new ws (create h name (Guarded s)) c now (made_reply (Err status))
  create-err status none is same = does-reads new ws (create h name (Guarded s)) c now (made_reply (Err status)) none sound (λ V m.
      create-unnamed V h c name s now status (subst (IsNameFor V c h name Exists Exists) is (l.now V (same V m))))

  module _ (n : Named) (is : found ≡ Ok n) (asked : IsAsked s) (caller : IsCaller c) (time : IsTime now) (plan : Plan) (reply : Result Made Status) (making : Makes old new ws h.number n name plan now reply) where
    named : (V : View) → new V → IsNamed V c h name n
    named V m = subst (IsNameFor V c h name Exists Exists) is (l.now V (making.same V m))

    ctime : (V : View) → new V → IsTime n.directory.head.attributes.ctime
    ctime V m = ((sound V m).fit.nodes h.number (node_of V (held n.directory)) (inode-node V h.number (held n.directory) (named V m).searched.node.is)).ctime

    module _ (planned : plan ≡ mkdir_plan c s n.directory.head.attributes now) where
      mkdir-op : (V : View) → new V → (W : View) (reply : Result Made Status) → IsMaking V W h.number n name plan now reply → Op (mkdir h name s) c now (tree_of V) (made_reply reply) (tree_of W)
      mkdir-op V m W _ (there hit here stays) = subst (λ W. Op (mkdir h name s) c now (tree_of V) (made_reply (Err Exists)) (tree_of W)) (sym stays) (mkdir-there V h c name s now n (sound V m) (named V m) hit here)
      mkdir-op V m W _ (missing _ none (kept status why stays)) = subst (λ W. Op (mkdir h name s) c now (tree_of V) (made_reply (Err status)) (tree_of W)) (sym stays) (mkdir-refused V h c name s now n (sound V m) (named V m) none status (sym (ap (λ (p : Plan). p.refusal) planned) ∙ why))
      mkdir-op V m W _ (missing _ none (tried _ on (full stays))) = subst (λ W. Op (mkdir h name s) c now (tree_of V) (made_reply (Err NoSpace)) (tree_of W)) (sym stays) (mkdir-no_room V h c name s now n (sound V m) (named V m) none (sym (ap (λ (p : Plan). p.refusal) planned) ∙ on))
      mkdir-op V m W _ (missing _ none (tried _ on (makes made is))) = mkdir-done V h c name s now n (sound V m) (named V m) none W plan.node made is (sym (ap (λ (p : Plan). p.refusal) planned) ∙ on) (ap (λ (p : Plan). p.node.attributes) planned) (ap (λ (p : Plan). p.node.kind) planned) (ap (λ (p : Plan). p.node.size) planned)

      mkdir-stays : (V : View) → new V → (W : View) (reply : Result Made Status) → IsMaking V W h.number n name plan now reply → IsSoundView W
      mkdir-stays V m W _ (there hit here stays) = subst IsSoundView (sym stays) (sound V m)
      mkdir-stays V m W _ (missing _ none (kept status why stays)) = subst IsSoundView (sym stays) (sound V m)
      mkdir-stays V m W _ (missing _ none (tried _ on (full stays))) = subst IsSoundView (sym stays) (sound V m)
      mkdir-stays V m W _ (missing _ none (tried _ on (makes made is))) = mkdir-sound V h c name s now n (sound V m) (named V m) none W plan.node made is (sym (ap (λ (p : Plan). p.refusal) planned) ∙ on) (ap (λ (p : Plan). p.node.attributes) planned) (ap (λ (p : Plan). p.node.kind) planned) (ap (λ (p : Plan). p.node.size) planned) asked caller time

      pub mkdir-ok : Does new ws (mkdir h name s) c now (made_reply reply)
      mkdir-ok = record { op = λ V m. mkdir-op V m (written ws V) reply (making.is (ctime V m) V m); sound = λ V m. mkdir-stays V m (written ws V) reply (making.is (ctime V m) V m) }

    module _ (planned : plan ≡ create_plan c s n.directory.head.attributes now) where
      create-op : (V : View) → new V → (W : View) (reply : Result Made Status) → IsMaking V W h.number n name plan now reply → Op (create h name (Guarded s)) c now (tree_of V) (made_reply reply) (tree_of W)
      create-op V m W _ (there hit here stays) = subst (λ W. Op (create h name (Guarded s)) c now (tree_of V) (made_reply (Err Exists)) (tree_of W)) (sym stays) (create-there V h c name s now n (sound V m) (named V m) hit here)
      create-op V m W _ (missing _ none (kept status why stays)) = subst (λ W. Op (create h name (Guarded s)) c now (tree_of V) (made_reply (Err status)) (tree_of W)) (sym stays) (create-refused V h c name s now n (sound V m) (named V m) none status (sym (ap (λ (p : Plan). p.refusal) planned) ∙ why))
      create-op V m W _ (missing _ none (tried _ on (full stays))) = subst (λ W. Op (create h name (Guarded s)) c now (tree_of V) (made_reply (Err NoSpace)) (tree_of W)) (sym stays) (create-no_room V h c name s now n (sound V m) (named V m) none (sym (ap (λ (p : Plan). p.refusal) planned) ∙ on))
      create-op V m W _ (missing _ none (tried _ on (makes made is))) = create-done V h c name s now n (sound V m) (named V m) none W plan.node made is (sym (ap (λ (p : Plan). p.refusal) planned) ∙ on) (ap (λ (p : Plan). p.node.attributes) planned) (ap (λ (p : Plan). p.node.kind) planned) (ap (λ (p : Plan). p.node.size) planned)

      create-stays : (V : View) → new V → (W : View) (reply : Result Made Status) → IsMaking V W h.number n name plan now reply → IsSoundView W
      create-stays V m W _ (there hit here stays) = subst IsSoundView (sym stays) (sound V m)
      create-stays V m W _ (missing _ none (kept status why stays)) = subst IsSoundView (sym stays) (sound V m)
      create-stays V m W _ (missing _ none (tried _ on (full stays))) = subst IsSoundView (sym stays) (sound V m)
      create-stays V m W _ (missing _ none (tried _ on (makes made is))) = create-sound V h c name s now n (sound V m) (named V m) none W plan.node made is (sym (ap (λ (p : Plan). p.refusal) planned) ∙ on) (ap (λ (p : Plan). p.node.attributes) planned) (ap (λ (p : Plan). p.node.kind) planned) (ap (λ (p : Plan). p.node.size) planned) asked caller time

      pub create-ok : Does new ws (create h name (Guarded s)) c now (made_reply reply)
      create-ok = record { op = λ V m. create-op V m (written ws V) reply (making.is (ctime V m) V m); sound = λ V m. create-stays V m (written ws V) reply (making.is (ctime V m) V m) }

-- ── either call ──

module _ (first old new : View → Type 0) (sound : AreSound new) (ws : List Write) (h : Handle) (name : List ℕ) (c : Caller) (s : Settings) (now : Time) (found : Result Named Status)
    (l : Learns first old (λ V. IsNameFor V c h name Exists Exists found)) where
  pub make-err : (by : Making) (status : Status) → ws ≡ [] → found ≡ Err status → ((V : View) → new V → old V) → Does new ws (making_call by h name s) c now (made_reply (Err status))
  make-err Mkdir status none is same = mkdir-err first old new sound ws h name c s now found l status none is same
  make-err Create status none is same = create-err first old new sound ws h name c s now found l status none is same

  pub make-ok : (by : Making) (n : Named) → found ≡ Ok n → IsAsked s → IsCaller c → IsTime now → (plan : Plan) (reply : Result Made Status) → Makes old new ws h.number n name plan now reply
      → plan ≡ plan_for by c s n.directory.head.attributes now → Does new ws (making_call by h name s) c now (made_reply reply)
  make-ok Mkdir n is asked caller time plan reply making planned = mkdir-ok first old new sound ws h name c s now found l n is asked caller time plan reply making planned
  make-ok Create n is asked caller time plan reply making planned = create-ok first old new sound ws h name c s now found l n is asked caller time plan reply making planned
