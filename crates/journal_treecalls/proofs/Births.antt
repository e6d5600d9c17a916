-- A node is put where there was room: the tree then, and the disk.
use Rattle.std.proofs.Common.{◌≡◌, ◌≢◌, ℕ, zero, suc, ◌+◌, ◌*◌, ◌/◌, cond, List, get_or, replicate, Some, Ok, refl, sym, ap, subst, ◌∙◌}
use Rattle.std.proofs.lemmas.Bool.{lt-ltb}
use Rattle.std.proofs.lemmas.List.{length-replicate}
use Rattle.journal_tree.specs.declared.time.Time.{Time}
use Rattle.journal_tree.specs.declared.reply.Handle.{Handle}
use Rattle.journal_tree.specs.declared.reply.Kind.{Kind}
use Rattle.journal_tree.specs.declared.reply.Kind.TheVariants.{Directory, File, Link}
use Rattle.journal_tree.specs.declared.reply.Made.{Made}
use Rattle.journal_tree.specs.declared.reply.Room.{Room}
use Rattle.journal_tree.specs.declared.reply.Told.{Told}
use Rattle.journal_tree.specs.declared.caller.Caller.{Caller}
use Rattle.journal_tree.specs.Times.{IsTime, time_of_names}
use Rattle.journal_tree.specs.Changes.{with_times, opened, grown_body, touch_place, planted}
use Rattle.journal_tree.specs.Calls.{told, kind_of, size_of}
use Rattle.journal_tree.specs.Names.{born}
use Rattle.journal_tree.specs.Op.{Call, Op, MayTake, IsRoom}
use Rattle.journal_tree.specs.Op.Reply.{made as made_reply}
use Rattle.journal_tree.specs.Fit.{IsCaller, IsCallable}
use Rattle.journal_treestore.specs.declared.entry.Entry.{Entry}
use Rattle.journal_treestore.specs.Entries.{with_entry, tag_of}
use Rattle.journal_treestore.specs.Views.{Seen, View, with_inode, with_block, held_of, body_of, node_of, slot_of, tree_of}
use Rattle.journal_treestore.specs.Views.Seen.{used}
use Rattle.journal_treestore.specs.Sound.{IsSoundView}
use Rattle.journal_treestore.specs.Positions.{IsPosition}
use Rattle.journal_treestore.specs.Steps.{with_moment, Spot, place_of, IsSpot, new_held, new_body, new_node as spot_node, planted_view, IsSameForm, IsUnowned, Shows}
use Rattle.journal_treestore.proofs.Planting.{planting-shows, inside}
use Rattle.journal_treestore.proofs.Keeping.{calls-stay-sound}
use Rattle.journal_treecalls.specs.declared.node.Record.{Record}
use Rattle.journal_treecalls.specs.declared.creation.NewNode.{NewNode}
use Rattle.journal_treecalls.specs.declared.room.FreeNumber.{FreeNumber}
use Rattle.journal_treecalls.specs.declared.room.FreePlace.{FreePlace}
use Rattle.journal_treecalls.specs.declared.room.NewPlace.{NewPlace}
use Rattle.journal_treecalls.specs.declared.room.NewPlace.TheVariants.{Here}
use Rattle.journal_treecalls.specs.Targets.{held, told_of, IsNode}
use Rattle.journal_treecalls.specs.Names.{moved}
use Rattle.journal_treecalls.specs.Rooms.{new_head, new_entry, here_number, HasFreeNumber, HasPlaceOf, with_new, made_of}
use Rattle.journal_treecalls.specs.Symlinks.{IsApart}
use Rattle.journal_treecalls.proofs.Cases.{node-told}
use Rattle.journal_treecalls.proofs.Searching.{own, entry-of-block}

-- A node is put at a place of a sound disk, which is the one that was there, or that with a block
-- that the directory gets
pub record Ground (V W : View) (d : ℕ) (name : List ℕ) (new : NewNode) (now : Time) (f : FreeNumber) (p : NewPlace) : Type 0 where
  pub base : View
  pub spot : Spot
  pub sound : IsSoundView base
  pub is_spot : IsSpot base spot name
  pub view : W ≡ planted_view base spot name new.attributes new.kind new.size now
  pub form : IsSameForm V base
  pub number : spot.n ≡ f.number
  pub unowned : (b : ℕ) → b ≢ 0 → IsUnowned V b → IsApart p b → IsUnowned base b

-- A new node: the room that it took, the answer of a call that makes it, and that the disk after
-- such a call is sound
pub record Birth (V W : View) (h : Handle) (r : Record) (name : List ℕ) (new : NewNode) (now : Time) (reply : Made) : Type 0 where
  pub room : Room
  pub has_room : MayTake (tree_of V) h.number (Some room)
  pub outcome : (Ok reply, tree_of W) ≡ born (tree_of V) h.number (node_of V (held r)) name (Some room) new.attributes (new_body new.kind new.size) now
  pub stays : (call : Call) (c : Caller) → IsCallable call → IsCaller c → IsTime now → Op call c now (tree_of V) (made_reply (Ok reply)) (tree_of W) → IsSoundView W

-- a new inode has no blocks
pub zeros-get : (n j : ℕ) → get_or (replicate {A = ℕ} n 0) j 0 ≡ 0
zeros-get zero j = refl
zeros-get (suc n) zero = refl
zeros-get (suc n) (suc j) = zeros-get n j

-- what is told of a new node does not hang on its place
pub told-born : (n : ℕ) (s : Spot) (name : List ℕ) (new : NewNode) (d place : ℕ) (f : FreeNumber) → (new.kind ≡ Directory → new.size ≡ 0) → told n (spot_node s name new.attributes new.kind new.size) ≡ told_of n (new_head d f place new)
told-born n s name new d place f plain = by new.kind refl
  where
    by : (k : Kind) → new.kind ≡ k → told n (spot_node s name new.attributes new.kind new.size) ≡ told_of n (new_head d f place new)
    by Directory is = λ i. record { number = n; kind = (ap (λ k. kind_of (new_body k new.size)) is ∙ sym is) i; size = (ap (λ k. size_of (new_body k new.size)) is ∙ sym (plain is)) i; attributes = new.attributes }
    by File is = λ i. record { number = n; kind = (ap (λ k. kind_of (new_body k new.size)) is ∙ sym is) i; size = (ap (λ k. size_of (new_body k new.size)) is ∙ length-replicate {A = ℕ} new.size 0) i; attributes = new.attributes }
    by Link is = λ i. record { number = n; kind = (ap (λ k. kind_of (new_body k new.size)) is ∙ sym is) i; size = (ap (λ k. size_of (new_body k new.size)) is ∙ length-replicate {A = ℕ} new.size 0) i; attributes = new.attributes }

-- ── at a place that the directory has ──

module _ (V W : View) (h : Handle) (r : Record) (name : List ℕ) (new : NewNode) (now : Time) (reply : Made)
    (sound : IsSoundView V) (node : IsNode V h r) (kind : r.head.kind ≡ Directory) (plain : new.kind ≡ Directory → new.size ≡ 0)
    (f : FreeNumber) (p : FreePlace) (is_free : HasFreeNumber V f) (is_place : HasPlaceOf V r.head (tag_of name) p)
    (view_is : W ≡ with_new V h.number r f p name new now) (is : reply ≡ made_of h.number r f (Here p) new now) where
  abbrev spot : Spot
  spot = record { d = h.number; h = held r; at = record { j = p.j; q = p.at; b = p.block }; n = f.number; generation = f.generation }

  at-place : IsPosition V (held r) (record { j = p.j; q = p.at; b = p.block })
  at-place = record {
    is = own V h.number r name sound node.is kind p.j ∙ sym is_place.is.block;
    some = λ e. is_place.is.there (sym is_place.is.block ∙ e);
    low = is_place.is.low;
  }

  is_spot : IsSpot V spot name
  is_spot = record {
    is = node.is;
    kind = kind;
    at = at-place;
    block = is_place.block_for;
    empty = ap (λ (e : Entry). e.number) (entry-of-block V h.number r name sound node.is kind p.j p.at is_place.is.there is_place.is.low) ∙ is_place.is.empty;
    free_is = is_free.is;
    some = is_free.some;
    on_disk = is_free.on_disk;
    young = is_free.young;
  }

  new-is : held_of (new_head h.number f (here_number p) new) name ≡ new_held spot name new.attributes new.kind new.size
  new-is = λ i. record {
    generation = f.generation + 1;
    attributes = new.attributes;
    home = record { directory = h.number; place = here_number p; name = name };
    kind = new.kind;
    size = new.size;
    blocks = λ j. zeros-get 48 j i;
    index = 0;
  }

  view : W ≡ planted_view V spot name new.attributes new.kind new.size now
  view =
      view_is
      ∙ ap (λ x. with_inode (with_inode (with_block V p.block (with_entry (V.block p.block) p.at (new_entry f name))) h.number (used (with_moment (held r) now))) f.number (used x)) new-is

  shown : IsRoom (tree_of V) h.number (record { number = f.number; place = place_of spot })
      × Shows (planted_view V spot name new.attributes new.kind new.size now) (planted (touch_place (tree_of V) h.number (place_of spot) now) f.number (spot_node spot name new.attributes new.kind new.size))
  shown = planting-shows V spot name new.attributes new.kind new.size now sound is_spot plain

  abbrev room : Room
  room = record { number = f.number; place = place_of spot }

  -- what is told
  told-before : told h.number (node_of V (held r)) ≡ told_of h.number r.head
  told-before = node-told V h r sound node

  same-size : size_of (grown_body (place_of spot) (body_of V r.head.kind (held r))) ≡ size_of (body_of V r.head.kind (held r))
  same-size =
      ap (λ k. size_of (grown_body (place_of spot) (body_of V k (held r)))) kind
      ∙ ap (λ b. 8 * cond b (r.head.size / 8) (512 * (place_of spot / 512 + 1))) (lt-ltb (place_of spot) (r.head.size / 8) (inside V sound spot name is_spot))
      ∙ sym (ap (λ k. size_of (body_of V k (held r))) kind)

  same-kind : kind_of (grown_body (place_of spot) (body_of V r.head.kind (held r))) ≡ kind_of (body_of V r.head.kind (held r))
  same-kind = ap (λ k. kind_of (grown_body (place_of spot) (body_of V k (held r)))) kind ∙ sym (ap (λ k. kind_of (body_of V k (held r))) kind)

  told-after : told h.number (opened (place_of spot) now (node_of V (held r))) ≡ told_of h.number (moved r.head now)
  told-after = λ i. record {
    number = h.number;
    kind = (same-kind ∙ ap (λ (t : Told). t.kind) told-before) i;
    size = (same-size ∙ ap (λ (t : Told). t.size) told-before) i;
    attributes = with_times r.head.attributes (time_of_names r.head.attributes now);
  }

  -- the answer of a call that makes it
  pub outcome : (Ok reply, tree_of W) ≡ born (tree_of V) h.number (node_of V (held r)) name (Some room) new.attributes (new_body new.kind new.size) now
  outcome =
      (λ i. (Ok (is i), tree_of (view i)))
      ∙ (λ i. (
        Ok (record {
          generation = f.generation + 1;
          node = sym (told-born f.number spot name new h.number (here_number p) f plain) i;
          directory = record { before = sym told-before i; after = sym told-after i };
        }),
        shown.1.tree i,
      ))
      ∙ ap (λ g. (
        Ok (record {
          generation = g + 1;
          node = told f.number (spot_node spot name new.attributes new.kind new.size);
          directory = record { before = told h.number (node_of V (held r)); after = told h.number (opened (place_of spot) now (node_of V (held r))) };
        }),
        planted (touch_place (tree_of V) h.number (place_of spot) now) f.number (spot_node spot name new.attributes new.kind new.size),
      )) (sym (ap (λ (y : Seen). (slot_of V y).generation) is_free.is))

  -- and the disk is sound
  stays-sound : (call : Call) (c : Caller) → IsCallable call → IsCaller c → IsTime now → Op call c now (tree_of V) (made_reply (Ok reply)) (tree_of W) → IsSoundView W
  stays-sound call c callable caller time op = subst IsSoundView (sym view)
      (calls-stay-sound V (planted_view V spot name new.attributes new.kind new.size now) (tree_of (planted_view V spot name new.attributes new.kind new.size now)) call c now (made_reply (Ok reply)) callable caller time sound
      (record { numbers = refl; first_data = refl; data_blocks = refl })
      (subst (λ W. Op call c now (tree_of V) (made_reply (Ok reply)) (tree_of W)) view op)
      (record { tree = refl; inodes = shown.1.inodes; hung = shown.1.hung }))

  pub birth-here : Birth V W h r name new now reply
  birth-here = record { room = room; has_room = shown.0; outcome = outcome; stays = stays-sound }

  pub ground-here : Ground V W h.number name new now f (Here p)
  ground-here = record {
    base = V;
    spot = spot;
    sound = sound;
    is_spot = is_spot;
    view = view;
    form = record { numbers = refl; first_data = refl; data_blocks = refl };
    number = refl;
    unowned = λ b some is apart. is;
  }
