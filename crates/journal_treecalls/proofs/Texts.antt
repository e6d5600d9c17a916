-- A link that was put into a directory gets its text: the tree then, and the disk.
use Rattle.std.proofs.Common.{◌≡◌, ◌≢◌, ℕ, ◌+◌, ◌*◌, ◌<◌, ◌≤◌, cond, eqb, true, false, Bool, List, length, replicate, Some, Ok, refl, sym, ap, subst, ◌⊎◌, inl, inr, ◌∙◌, arith}
use Rattle.std.proofs.lemmas.Bool.{cases_eq, eq-eqb, ne_eqb}
use Rattle.std.proofs.lemmas.List.{length-replicate}
use Rattle.journal_tree.specs.declared.limits.TheConstants.{MOST_LINK}
use Rattle.journal_tree.specs.declared.time.Time.{Time}
use Rattle.journal_tree.specs.declared.reply.Attributes.{Attributes}
use Rattle.journal_tree.specs.declared.reply.Handle.{Handle}
use Rattle.journal_tree.specs.declared.reply.Kind.{Kind}
use Rattle.journal_tree.specs.declared.reply.Kind.TheVariants.{Directory, Link}
use Rattle.journal_tree.specs.declared.reply.Made.{Made}
use Rattle.journal_tree.specs.declared.reply.Room.{Room}
use Rattle.journal_tree.specs.declared.reply.Told.{Told}
use Rattle.journal_tree.specs.declared.caller.Caller.{Caller}
use Rattle.journal_tree.specs.Times.{IsTime}
use Rattle.journal_tree.specs.Trees.{Node, Slot, Tree, with_node}
use Rattle.journal_tree.specs.Trees.Body.{link}
use Rattle.journal_tree.specs.Changes.{opened, touch_place, planted}
use Rattle.journal_tree.specs.Calls.{Outcome, told}
use Rattle.journal_tree.specs.Names.{new_node, born}
use Rattle.journal_tree.specs.Op.{Call, Op, MayTake}
use Rattle.journal_tree.specs.Op.Reply.{made as made_reply}
use Rattle.journal_tree.specs.Fit.{IsCaller, IsCallable}
use Rattle.journal_treestore.specs.declared.inode.Head.{Head}
use Rattle.journal_treestore.specs.Entries.{with_entry, tag_of}
use Rattle.journal_treestore.specs.Inodes.{name_from}
use Rattle.journal_treestore.specs.Positions.{with_put}
use Rattle.journal_treestore.specs.Views.{Held, Seen, View, block_at, zero_block, with_inode, with_owner, with_block, held_of, node_of, tree_of}
use Rattle.journal_treestore.specs.Views.Seen.{used}
use Rattle.journal_treestore.specs.Sound.{entry_for, IsSoundView}
use Rattle.journal_treestore.specs.Steps.{with_moment, Spot, home_of, IsSpot, new_held, planted_view, IsSameForm, IsUnowned, Filling, IsFilling, filled_held, filled_view, filled_node, text_block, new_body, Shows}
use Rattle.journal_treestore.proofs.Viewing.{inode-node}
use Rattle.journal_treestore.proofs.Indexing.{no-index, same-blocks, with_inode-blocks}
use Rattle.journal_treestore.proofs.Changing.{inode-same, blocks-block}
use Rattle.journal_treestore.proofs.Filling.{filling-shows}
use Rattle.journal_treestore.proofs.Keeping.{calls-stay-sound}
use Rattle.journal_treecalls.specs.declared.node.Record.{Record}
use Rattle.journal_treecalls.specs.declared.creation.NewNode.{NewNode}
use Rattle.journal_treecalls.specs.declared.room.FreeNumber.{FreeNumber}
use Rattle.journal_treecalls.specs.declared.room.FreeRoom.{FreeRoom}
use Rattle.journal_treecalls.specs.declared.room.NewPlace.{NewPlace}
use Rattle.journal_treecalls.specs.declared.room.NewPlace.TheVariants.{Here, Further}
use Rattle.journal_treecalls.specs.Targets.{held, IsNode}
use Rattle.journal_treecalls.specs.Names.{moved}
use Rattle.journal_treecalls.specs.Rooms.{HasRoomFor, no_blocks, new_head, new_entry, here_number, place_number, grown_head, with_growth, with_placed, IsMade}
use Rattle.journal_treecalls.specs.Symlinks.{with_first, IsLinkedIn}
use Rattle.journal_treecalls.proofs.Births.{Birth, Ground}
use Rattle.journal_treecalls.proofs.Furthers.{get-set, birth, ground}

-- a number's node replaced by another
replanted : (T : Tree) (n : ℕ) (x y : Node) → with_node (planted T n x) n (Some y) ≡ planted T n y
replanted T n x y = λ z. record { numbers = T.numbers; blocks = T.blocks; at = λ i. by (eqb i n) (T.at i) z }
  where
    by : (t : Bool) (s : Slot) → cond t (record { generation = (cond (eqb n n) (record { generation = (T.at n).generation + 1; node = Some x }) (T.at n)).generation; node = Some y }) (cond t (record { generation = (T.at n).generation + 1; node = Some x }) s)
        ≡ cond t (record { generation = (T.at n).generation + 1; node = Some y }) s
    by true s = ap (λ t. record { generation = (cond t (record { generation = (T.at n).generation + 1; node = Some x }) (T.at n)).generation; node = Some y }) (eq-eqb n n refl)
    by false s = refl

own : (T : Tree) (n : ℕ) (x : Node) → ((planted T n x).at n).node ≡ Some x
own T n x = ap (λ t. (cond t (record { generation = (T.at n).generation + 1; node = Some x }) (T.at n)).node) (eq-eqb n n refl)

-- ── the block of the text is nobody's ──

-- an inode of a disk that two of are written: the one, the other, or none of them
pick : (V : View) (n d : ℕ) (x y : Seen) (i : ℕ) (g : Held) → cond (eqb i n) x (cond (eqb i d) y (V.inode i)) ≡ used g → (x ≡ used g) ⊎ ((i ≡ d) × (y ≡ used g)) ⊎ (V.inode i ≡ used g)
pick V n d x y i g is = by (cases_eq i n) (cases_eq i d)
  where
    by : (i ≡ n) ⊎ (i ≡ n → ⊥) → (i ≡ d) ⊎ (i ≡ d → ⊥) → (x ≡ used g) ⊎ ((i ≡ d) × (y ≡ used g)) ⊎ (V.inode i ≡ used g)
    by (inl a) _ = inl (sym (ap (λ t. cond t x (cond (eqb i d) y (V.inode i))) (eq-eqb i n a)) ∙ is)
    by (inr a) (inl d_is) = inr (inl (d_is, sym (ap (λ t. cond t x (cond (eqb i d) y (V.inode i))) (ne_eqb i n a) ∙ ap (λ t. cond t y (V.inode i)) (eq-eqb i d d_is)) ∙ is))
    by (inr a) (inr d_is) = inr (inr (sym (ap (λ t. cond t x (cond (eqb i d) y (V.inode i))) (ne_eqb i n a) ∙ ap (λ t. cond t y (V.inode i)) (ne_eqb i d d_is)) ∙ is))

-- a node that is put into a directory takes no block
module _ (V : View) (spot : Spot) (name : List ℕ) (a : Attributes) (kind : Kind) (size : ℕ) (now : Time) (sound : IsSoundView V) (is_spot : IsSpot V spot name) where
  abbrev P : View
  P = planted_view V spot name a kind size now

  -- each inode has the blocks that it had
  stays : (i : ℕ) (g : Held) → V.inode i ≡ used g → (q : ℕ) → block_at (planted_view V spot name a kind size now) g q ≡ block_at V g q
  stays i g at q =
      ap (λ f. f q) (with_inode-blocks (with_inode (with_put V spot.at.b spot.at.q (entry_for spot.n (home_of spot name))) spot.d (used (with_moment spot.h now))) spot.n (used (new_held spot name a kind size)) g)
      ∙ ap (λ f. f q) (with_inode-blocks (with_put V spot.at.b spot.at.q (entry_for spot.n (home_of spot name))) spot.d (used (with_moment spot.h now)) g)
      ∙ blocks-block V spot.d spot.h spot.at sound.inodes is_spot.is is_spot.at (with_entry (V.block spot.at.b) spot.at.q (entry_for spot.n (home_of spot name))) i g at q

  pub planted-unowned : (b : ℕ) → b ≢ 0 → IsUnowned V b → IsUnowned (planted_view V spot name a kind size now) b
  planted-unowned b some unowned = record { not_at = λ g at. by g (pick V spot.n spot.d (used (new_held spot name a kind size)) (used (with_moment spot.h now)) (V.owner b).number g at) }
    where
      -- the new one has none
      new-none : (g : Held) → used (new_held spot name a kind size) ≡ used g → block_at P g (V.owner b).place ≢ b
      new-none g is e =
          let q : new_held spot name a kind size ≡ g = cc in
          some (sym e ∙ ap (λ (g : Held). block_at P g (V.owner b).place) (sym q) ∙ no-index P (new_held spot name a kind size) refl (λ j _. refl) (V.owner b).place)

      at-directory : (g : Held) → (V.owner b).number ≡ spot.d → used (with_moment spot.h now) ≡ used g → block_at P g (V.owner b).place ≢ b
      at-directory g d is e =
          let q : with_moment spot.h now ≡ g = cc in
          let at : V.inode (V.owner b).number ≡ used spot.h = ap V.inode d ∙ is_spot.is in
          unowned.not_at spot.h at (
          sym (stays (V.owner b).number spot.h at (V.owner b).place)
          ∙ sym (same-blocks P (with_moment spot.h now) spot.h refl refl (V.owner b).place)
          ∙ ap (λ (g : Held). block_at P g (V.owner b).place) q ∙ e)

      by : (g : Held) → (used (new_held spot name a kind size) ≡ used g) ⊎ (((V.owner b).number ≡ spot.d) × (used (with_moment spot.h now) ≡ used g)) ⊎ (V.inode (V.owner b).number ≡ used g) → block_at P g (V.owner b).place ≢ b
      by g (inl is) = new-none g is
      by g (inr (inl d)) = at-directory g d.0 d.1
      by g (inr (inr at)) = λ e. unowned.not_at g at (sym (stays (V.owner b).number g at (V.owner b).place) ∙ e)

-- its inode is the new one
new-inode : (V : View) (d : ℕ) (r : Record) (f : FreeNumber) (p : NewPlace) (name : List ℕ) (new : NewNode) (now : Time) → (with_placed V d r f p name new now).inode f.number ≡ used (held_of (new_head d f (place_number p) new) name)
new-inode V d r f (Here p) name new now = inode-same (with_inode (with_block V p.block (with_entry (V.block p.block) p.at (new_entry f name))) d (used (with_moment (held r) now))) f.number (used (held_of (new_head d f (here_number p) new) name))
new-inode V d r f (Further g) name new now = inode-same (with_inode (with_growth V d g (with_entry zero_block 0 (new_entry f name))) d (used (held_of (moved (grown_head r.head g) now) (name_from r.bytes)))) f.number (used (held_of (new_head d f (512 * g.j) new) name))

-- ── the link has its text ──

-- A new link: the room that it took, the answer of a call that makes it, and that the disk after
-- such a call is sound
pub record LinkBirth (V W : View) (h : Handle) (r : Record) (name : List ℕ) (new : NewNode) (text : List ℕ) (now : Time) (reply : Made) : Type 0 where
  pub room : Room
  pub has_room : MayTake (tree_of V) h.number (Some room)
  pub outcome : (Ok reply, tree_of W) ≡ born (tree_of V) h.number (node_of V (held r)) name (Some room) new.attributes (link text) now
  pub stays : (call : Call) (c : Caller) → IsCallable call → IsCaller c → IsTime now → Op call c now (tree_of V) (made_reply (Ok reply)) (tree_of W) → IsSoundView W

module _ (V W : View) (h : Handle) (r : Record) (name : List ℕ) (new : NewNode) (text : List ℕ) (room : FreeRoom) (now : Time) (reply : Made)
    (sound : IsSoundView V) (node : IsNode V h r) (kind : r.head.kind ≡ Directory) (is_link : new.kind ≡ Link) (sized : new.size ≡ length text) (long : 0 < length text) (few : length text ≤ MOST_LINK)
    (has : HasRoomFor V r.head (tag_of name) room) (linked : IsLinkedIn V W h.number r name new text room now reply) where
  abbrev W1 : View
  W1 = with_placed V h.number r room.number room.place name new now

  abbrev head : Head
  head = new_head h.number room.number (place_number room.place) new

  plain : new.kind ≡ Directory → new.size ≡ 0
  plain e = absurd (cc (sym is_link ∙ e))

  abbrev made : IsMade V (with_placed V h.number r room.number room.place name new now) h.number r name new now reply
  made = record { number = room.number; place = room.place; is_free = has.number; is_place = has.place; view = refl; is = linked.is }

  -- the link without its text
  pub bare : Birth V (with_placed V h.number r room.number room.place name new now) h r name new now reply
  bare = birth V W1 h r name new now reply sound node kind plain made

  -- the disk on which it was put
  base : Ground V (with_placed V h.number r room.number room.place name new now) h.number name new now room.number room.place
  base = ground V W1 h r name new now reply sound node kind plain made

  form : IsSameForm V (with_placed V h.number r room.number room.place name new now)
  form = record {
    numbers = ap (λ (X : View). X.numbers) base.view ∙ base.form.numbers;
    first_data = ap (λ (X : View). X.first_data) base.view ∙ base.form.first_data;
    data_blocks = ap (λ (X : View). X.data_blocks) base.view ∙ base.form.data_blocks;
  }

  unowned : linked.block ≢ 0 → IsUnowned (with_placed V h.number r room.number room.place name new now) linked.block
  unowned some = subst (λ X. IsUnowned X linked.block) (sym base.view)
      (planted-unowned base.base base.spot name new.attributes new.kind new.size now base.sound base.is_spot linked.block some (base.unowned linked.block some linked.is_block.free.unowned linked.is_block.apart))

  -- a call makes it with a text of zeros
  pub outcome-zeros : (Ok reply, tree_of (with_placed V h.number r room.number room.place name new now)) ≡ born (tree_of V) h.number (node_of V (held r)) name (Some bare.room) new.attributes (link (replicate (length text) 0)) now
  outcome-zeros = bare.outcome ∙ (λ i. born (tree_of V) h.number (node_of V (held r)) name (Some bare.room) new.attributes (new_body (is_link i) (sized i)) now)

  module _ (sound1 : IsSoundView (with_placed V h.number r room.number room.place name new now)) where
    abbrev f : Filling
    f = record { n = room.number.number; h = held_of (new_head h.number room.number (place_number room.place) new) name; b = linked.block; text = text }

    some : linked.block ≢ 0
    some e = let l = linked.is_block.free.from in let n = sound.no_data in absurd (omega (arith, e, l, n))

    filling : IsFilling W1 f
    filling = record {
      is = new-inode V h.number r room.number room.place name new now;
      kind = is_link;
      none = refl;
      sized = sized;
      long = long;
      few = few;
      some = some;
      from = (let l = linked.is_block.free.from in let e = form.first_data in omega (arith, e, l));
      to = (let l = linked.is_block.free.to in let e = form.first_data in let d = form.data_blocks in omega (arith, e, d, l));
      unowned = unowned some;
    }

    held-is : held_of (with_first head linked.block) name ≡ filled_held f
    held-is = λ z. record {
      generation = room.number.generation + 1;
      attributes = new.attributes;
      home = record { directory = h.number; place = place_number room.place; name = name };
      kind = new.kind;
      size = new.size;
      blocks = λ i. get-set no_blocks 0 linked.block i (omega arith) z;
      index = 0;
    }

    view : W ≡ filled_view W1 f
    view = linked.view ∙ ap (λ (k : Held). with_inode (with_owner (with_block W1 linked.block (text_block text)) linked.block (record { number = room.number.number; place = 0 })) room.number.number (used k)) held-is

    shown : Shows (filled_view W1 f) (with_node (tree_of W1) room.number.number (Some (filled_node f)))
    shown = filling-shows W1 f sound1 filling

    abbrev T0 : Tree
    T0 = touch_place (tree_of V) h.number bare.room.place now

    abbrev zeros_node : Node
    zeros_node = new_node h.number bare.room name new.attributes (link (replicate (length text) 0))

    abbrev text_node : Node
    text_node = new_node h.number bare.room name new.attributes (link text)

    same-number : room.number.number ≡ bare.room.number
    same-number = let e : Ok reply ≡ (born (tree_of V) h.number (node_of V (held r)) name (Some bare.room) new.attributes (link (replicate (length text) 0)) now).0 = ap (λ (o : Outcome Made). o.0) outcome-zeros in
        sym (ap (λ (m : Made). m.node.number) linked.is) ∙ number e
      where
        number : Ok reply ≡ (born (tree_of V) h.number (node_of V (held r)) name (Some bare.room) new.attributes (link (replicate (length text) 0)) now).0 → reply.node.number ≡ bare.room.number
        number e = let q : reply ≡ record {
          generation = ((tree_of V).at bare.room.number).generation + 1;
          node = told bare.room.number (new_node h.number bare.room name new.attributes (link (replicate (length text) 0)));
          directory = record { before = told h.number (node_of V (held r)); after = told h.number (opened bare.room.place now (node_of V (held r))) };
        } = cc in ap (λ (m : Made). m.node.number) q

    tree1 : tree_of W1 ≡ planted T0 bare.room.number zeros_node
    tree1 = ap (λ (o : Outcome Made). o.1) outcome-zeros

    same-node : node_of W1 f.h ≡ zeros_node
    same-node =
        let a = inode-node W1 room.number.number f.h filling.is in
        let e : Some (node_of W1 f.h) ≡ Some zeros_node = sym a ∙ (λ i. ((tree1 i).at (same-number i)).node) ∙ own T0 bare.room.number zeros_node in
        cc

    filled-is : filled_node f ≡ text_node
    filled-is = ap (λ (x : Node). record { attributes = x.attributes; home = x.home; body = link text }) same-node

    tree : tree_of W ≡ planted T0 bare.room.number text_node
    tree =
        ap tree_of view
        ∙ shown.tree
        ∙ (λ i. with_node (tree1 i) (same-number i) (Some (filled-is i)))
        ∙ replanted T0 bare.room.number zeros_node text_node

    told-is : told bare.room.number zeros_node ≡ told bare.room.number text_node
    told-is = λ i. record { number = bare.room.number; kind = Link; size = length-replicate {A = ℕ} (length text) 0 i; attributes = new.attributes }

    pub link-birth : LinkBirth V W h r name new text now reply
    link-birth = record { room = bare.room; has_room = bare.has_room; outcome = outcome; stays = stays-sound }
      where
        outcome : (Ok reply, tree_of W) ≡ born (tree_of V) h.number (node_of V (held r)) name (Some bare.room) new.attributes (link text) now
        outcome =
            (λ i. ((ap (λ (o : Outcome Made). o.0) outcome-zeros) i, tree i))
            ∙ ap (λ (t : Told). (
              Ok (record {
                generation = ((tree_of V).at bare.room.number).generation + 1;
                node = t;
                directory = record { before = told h.number (node_of V (held r)); after = told h.number (opened bare.room.place now (node_of V (held r))) };
              }),
              planted T0 bare.room.number text_node,
            )) told-is

        stays-sound : (call : Call) (c : Caller) → IsCallable call → IsCaller c → IsTime now → Op call c now (tree_of V) (made_reply (Ok reply)) (tree_of W) → IsSoundView W
        stays-sound call c callable caller time op = subst IsSoundView (sym view)
            (calls-stay-sound V (filled_view W1 f) (tree_of (filled_view W1 f)) call c now (made_reply (Ok reply)) callable caller time sound
            (record { numbers = form.numbers; first_data = form.first_data; data_blocks = form.data_blocks })
            (subst (λ W. Op call c now (tree_of V) (made_reply (Ok reply)) (tree_of W)) view op)
            (record { tree = refl; inodes = shown.inodes; hung = shown.hung }))
