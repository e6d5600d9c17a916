-- A node is put in a block that its directory gets: the tree then, and the disk.
use Rattle.std.proofs.Common.{◌≡◌, ◌≢◌, ℕ, ◌+◌, ◌*◌, ◌/◌, ◌%◌, ◌<◌, ◌≤◌, max, Bool, true, false, cond, eqb, List, length, get_or, set, Option, Some, Ok, refl, sym, ap, subst, ◌⊎◌, inl, inr, ◌∙◌, arith, get_or-set_same, get_or-set_other}
use Rattle.std.specs.Prelude.{option_map, nat_lt}
use Rattle.std.proofs.lemmas.Bool.{cases_eq, cases_lt, eq-eqb, ne_eqb, lt-ltb, le-ltb}
use Rattle.journal_tree.specs.declared.limits.TheConstants.{LAST_GENERATION}
use Rattle.journal_tree.specs.declared.time.Time.{Time}
use Rattle.journal_tree.specs.declared.reply.Handle.{Handle}
use Rattle.journal_tree.specs.declared.reply.Kind.TheVariants.{Directory}
use Rattle.journal_tree.specs.declared.reply.Made.{Made}
use Rattle.journal_tree.specs.declared.reply.Room.{Room}
use Rattle.journal_tree.specs.declared.reply.Told.{Told}
use Rattle.journal_tree.specs.declared.caller.Caller.{Caller}
use Rattle.journal_tree.specs.Times.{IsTime, time_of_names}
use Rattle.journal_tree.specs.Trees.{Node, Slot, Tree}
use Rattle.journal_tree.specs.Trees.Body.{directory}
use Rattle.journal_tree.specs.Changes.{with_times, opened, grown_body, touch_place, planted}
use Rattle.journal_tree.specs.Calls.{told, kind_of, size_of}
use Rattle.journal_tree.specs.Names.{born}
use Rattle.journal_tree.specs.Op.{Call, Op, IsRoom}
use Rattle.journal_tree.specs.Op.Reply.{made as made_reply}
use Rattle.journal_tree.specs.Fit.{IsCaller, IsCallable}
use Rattle.journal_treestore.specs.declared.entry.Entry.{Entry}
use Rattle.journal_treestore.specs.Entries.{with_entry, tag_of}
use Rattle.journal_treestore.specs.Inodes.{name_from}
use Rattle.journal_treestore.specs.Views.{Held, Seen, View, zero_block, with_inode, with_block, held_of, body_of, node_of, slot_of, tree_of, directory_block, entry_in, entry_by, entry_of, entry_at}
use Rattle.journal_treestore.specs.Views.Seen.{used}
use Rattle.journal_treestore.specs.Sound.{IsSoundView}
use Rattle.journal_treestore.specs.Steps.{with_moment, Spot, place_of, IsSpot, new_held, new_body, new_node as spot_node, planted_view, IsGrowth, widened, widen, Shows}
use Rattle.journal_treestore.proofs.Recording.{length-with, zero-long}
use Rattle.journal_treestore.proofs.Viewing.{no_node_at}
use Rattle.journal_treestore.proofs.Changing.{inode-same}
use Rattle.journal_treestore.proofs.Planting.{planting-shows}
use Rattle.journal_treestore.proofs.Stepping.{entries-step}
use Rattle.journal_treestore.proofs.Growing.{tree-grown, growing-stays-sound}
use Rattle.journal_treestore.proofs.Keeping.{calls-stay-sound}
use Rattle.journal_treestore.proofs.Following.{node-again}
use Rattle.journal_treecalls.specs.declared.node.Record.{Record}
use Rattle.journal_treecalls.specs.declared.creation.NewNode.{NewNode}
use Rattle.journal_treecalls.specs.declared.growth.Growth.{Growth}
use Rattle.journal_treecalls.specs.declared.room.FreeNumber.{FreeNumber}
use Rattle.journal_treecalls.specs.declared.room.NewPlace.{NewPlace}
use Rattle.journal_treecalls.specs.declared.room.NewPlace.TheVariants.{Here, Further}
use Rattle.journal_treecalls.specs.Targets.{held, told_of, IsNode}
use Rattle.journal_treecalls.specs.Names.{moved}
use Rattle.journal_treecalls.specs.Rooms.{new_head, new_entry, HasFreeNumber, HasPlaceFor, HasGrowth, grown_head, with_growth, further_number, with_new_block, with_placed, made_of, IsMade}
use Rattle.journal_treecalls.proofs.Cases.{node-told}
use Rattle.journal_treecalls.proofs.Searching.{own}
use Rattle.journal_treecalls.proofs.Growths.{growth-step, growth-position, growth-bytes, zeros-grown, growth-unowned}
use Rattle.journal_treecalls.proofs.Births.{Birth, Ground, zeros-get, told-born, birth-here, ground-here}

-- ── in a block that the directory gets ──

-- so that growing first and then putting a name there is one change
module _ (T : Tree) (d place : ℕ) (now : Time) where
  abbrev wide : Slot
  wide = record { generation = (T.at d).generation; node = option_map (widened place) (T.at d).node }

  abbrev opened_slot : Slot → Slot
  opened_slot s = record { generation = s.generation; node = option_map (opened place now) s.node }

  wide-slot : cond (eqb d d) wide (T.at d) ≡ wide
  wide-slot = ap (λ t. cond t wide (T.at d)) (eq-eqb d d refl)

  opened-slot : opened_slot (cond (eqb d d) wide (T.at d)) ≡ opened_slot (T.at d)
  opened-slot =
      ap opened_slot wide-slot
      ∙ ap (λ (o : Option Node). record { generation = (T.at d).generation; node = o }) (node-again place now (T.at d).node)

  touch-widened : touch_place (widen T d place) d place now ≡ touch_place T d place now
  touch-widened = λ z. record { numbers = T.numbers; blocks = T.blocks; at = λ i. by (eqb i d) (T.at i) z }
    where
      by : (t : Bool) (x : Slot) → cond t (opened_slot (cond (eqb d d) wide (T.at d))) (cond t wide x) ≡ cond t (opened_slot (T.at d)) x
      by true x = opened-slot
      by false x = refl

-- a number in a list is set
pub get-set : (bs : List ℕ) (j b i : ℕ) → j < length bs → get_or (set bs j b) i 0 ≡ cond (eqb i j) b (get_or bs i 0)
get-set bs j b i low = by (cases_eq i j)
  where
    by : (i ≡ j) ⊎ (i ≡ j → ⊥) → get_or (set bs j b) i 0 ≡ cond (eqb i j) b (get_or bs i 0)
    by (inl same) = ap (λ i. get_or (set bs j b) i 0) same ∙ get_or-set_same bs j b 0 low ∙ sym (ap (λ t. cond t b (get_or bs i 0)) (eq-eqb i j same))
    by (inr other) = get_or-set_other bs j i b 0 other ∙ sym (ap (λ t. cond t b (get_or bs i 0)) (ne_eqb i j other))

module _ (V W : View) (h : Handle) (r : Record) (name : List ℕ) (new : NewNode) (now : Time) (reply : Made)
    (sound : IsSoundView V) (node : IsNode V h r) (kind : r.head.kind ≡ Directory) (plain : new.kind ≡ Directory → new.size ≡ 0)
    (f : FreeNumber) (g : Growth) (is_free : HasFreeNumber V f) (has : HasGrowth V r.head (tag_of name) g)
    (view_is : W ≡ with_new_block V h.number r f g name new now) (is : reply ≡ made_of h.number r f (Further g) new now) where
  abbrev K : Held
  K = held_of (grown_head r.head g) (name_from r.bytes)

  -- the blocks are written, and then the inode
  abbrev X : View
  X = with_growth V h.number g zero_block

  abbrev V1 : View
  V1 = with_inode (with_growth V h.number g zero_block) h.number (used (held_of (grown_head r.head g) (name_from r.bytes)))

  abbrev spot : Spot
  spot = record { d = h.number; h = held_of (grown_head r.head g) (name_from r.bytes); at = record { j = g.j; q = 0; b = further_number g }; n = f.number; generation = f.generation }

  growth : IsGrowth V V1 h.number (held r) K g.j
  growth = growth-step V h.number r (tag_of name) g sound node.is kind has

  sound1 : IsSoundView V1
  sound1 = growing-stays-sound V V1 h.number (held r) K g.j sound growth

  low : g.j < 388
  low = has.block.few

  place_is : 512 * g.j + 0 ≡ 512 * g.j
  place_is = omega arith

  not_d : f.number ≢ h.number
  not_d e = absurd (cc (sym is_free.is ∙ ap V.inode e ∙ node.is))

  -- the directory had nothing there
  empty : (entry_at V h.number (512 * g.j + 0)).number ≡ 0
  empty = ap (λ (e : Entry). e.number) (
      ap (λ y. entry_of V y (512 * g.j + 0)) node.is
      ∙ ap (λ k. entry_by V k (held r) (512 * g.j + 0)) kind
      ∙ ap (λ l. entry_in V (directory_block V (held r) l) ((512 * g.j + 0) % 512)) (let e : (512 * g.j + 0) / 512 ≡ g.j = omega arith in e)
      ∙ ap (λ b. entry_in V b ((512 * g.j + 0) % 512)) (own V h.number r name sound node.is kind g.j ∙ has.block.none))

  is_spot : IsSpot V1 spot name
  is_spot = record {
    is = inode-same X h.number (used K);
    kind = kind;
    at = growth-position V h.number r (tag_of name) g sound node.is kind has 0 (omega arith);
    block = has.block.block_for;
    empty = ap (λ E. (E h.number (512 * g.j + 0)).number) (entries-step V V1 h.number (held r) K sound growth.step) ∙ empty;
    free_is = growth.step.others f.number not_d ∙ is_free.is;
    some = is_free.some;
    on_disk = subst (λ n. f.number < n) (sym growth.step.form.numbers) is_free.on_disk;
    young = is_free.young;
  }

  shown : IsRoom (tree_of V1) h.number (record { number = f.number; place = place_of spot })
      × Shows (planted_view V1 spot name new.attributes new.kind new.size now) (planted (touch_place (tree_of V1) h.number (place_of spot) now) f.number (spot_node spot name new.attributes new.kind new.size))
  shown = planting-shows V1 spot name new.attributes new.kind new.size now sound1 is_spot plain

  abbrev room : Room
  room = record { number = f.number; place = 512 * g.j + 0 }

  has-room : IsRoom (tree_of V) h.number (record { number = f.number; place = 512 * g.j + 0 })
  has-room = record {
    some = is_free.some;
    low = is_free.on_disk;
    free = ap (λ (y : Seen). (slot_of V y).node) is_free.is;
    young = subst (λ g. g < LAST_GENERATION) (sym (ap (λ (y : Seen). (slot_of V y).generation) is_free.is)) is_free.young;
    empty = no_node_at V sound h.number (512 * g.j + 0) (held r) node.is empty;
    within = (let l = low in omega (arith, l));
  }

  -- ── the writes are those of the two steps ──

  new-is : held_of (new_head h.number f (512 * g.j) new) name ≡ new_held spot name new.attributes new.kind new.size
  new-is = λ z. record {
    generation = f.generation + 1;
    attributes = new.attributes;
    home = record { directory = h.number; place = sym place_is z; name = name };
    kind = new.kind;
    size = new.size;
    blocks = λ i. zeros-get 48 i z;
    index = 0;
  }

  entry-long : length (with_entry zero_block 0 (new_entry f name)) ≡ 4096
  entry-long = length-with zero_block 0 (new_entry f name) zero-long (omega arith)

  block-is : with_growth V h.number g (with_entry zero_block 0 (new_entry f name)) ≡ with_block (with_growth V h.number g zero_block) (further_number g) (with_entry ((with_growth V h.number g zero_block).block (further_number g)) 0 (new_entry f name))
  block-is =
      growth-bytes V h.number r (tag_of name) g sound node.is kind has (with_entry zero_block 0 (new_entry f name)) entry-long
      ∙ ap (λ v. with_block (with_growth V h.number g zero_block) (further_number g) (with_entry v 0 (new_entry f name))) (sym (zeros-grown V h.number r (tag_of name) g sound node.is kind has))

  abbrev X1 : View
  X1 = with_block (with_growth V h.number g zero_block) (further_number g) (with_entry ((with_growth V h.number g zero_block).block (further_number g)) 0 (new_entry f name))

  -- the directory's inode is written once in place of twice
  inode-is : (i : ℕ) → cond (eqb i f.number) (used (held_of (new_head h.number f (512 * g.j) new) name)) (cond (eqb i h.number) (used (with_moment K now)) (X.inode i))
      ≡ cond (eqb i f.number) (used (new_held spot name new.attributes new.kind new.size)) (cond (eqb i h.number) (used (with_moment K now)) (cond (eqb i h.number) (used K) (X.inode i)))
  inode-is i = by (eqb i f.number) (eqb i h.number)
    where
      by : (t u : Bool) → cond t (used (held_of (new_head h.number f (512 * g.j) new) name)) (cond u (used (with_moment K now)) (X.inode i))
          ≡ cond t (used (new_held spot name new.attributes new.kind new.size)) (cond u (used (with_moment K now)) (cond u (used K) (X.inode i)))
      by true u = ap used new-is
      by false true = refl
      by false false = refl

  view : W ≡ planted_view V1 spot name new.attributes new.kind new.size now
  view =
      view_is
      ∙ ap (λ Y. with_inode (with_inode Y h.number (used (with_moment K now))) f.number (used (held_of (new_head h.number f (512 * g.j) new) name))) block-is
      ∙ (λ z. record {
        numbers = X.numbers;
        first_data = X.first_data;
        data_blocks = X.data_blocks;
        inode = λ i. inode-is i z;
        owner = X.owner;
        block = X1.block;
      })

  -- ── what is told ──

  told-before : told h.number (node_of V (held r)) ≡ told_of h.number r.head
  told-before = node-told V h r sound node

  grown-size : size_of (grown_body (512 * g.j + 0) (body_of V r.head.kind (held r))) ≡ max r.head.size (4096 * (g.j + 1))
  grown-size =
      ap (λ k. size_of (grown_body (512 * g.j + 0) (body_of V k (held r)))) kind
      ∙ by (cases_lt (512 * g.j + 0) (r.head.size / 8))
    where
      whole : (blocks : ℕ) × (r.head.size ≡ 4096 * blocks)
      whole = (sound.inodes h.number (held r) node.is).whole kind

      by : (512 * g.j + 0 < r.head.size / 8) ⊎ (r.head.size / 8 ≤ 512 * g.j + 0) → 8 * cond (nat_lt (512 * g.j + 0) (r.head.size / 8)) (r.head.size / 8) (512 * ((512 * g.j + 0) / 512 + 1)) ≡ max r.head.size (4096 * (g.j + 1))
      by (inl inner) =
          ap (λ t. 8 * cond t (r.head.size / 8) (512 * ((512 * g.j + 0) / 512 + 1))) (lt-ltb (512 * g.j + 0) (r.head.size / 8) inner)
          ∙ (let e = whole.1 in omega (arith, e, inner))
      by (inr past) =
          ap (λ t. 8 * cond t (r.head.size / 8) (512 * ((512 * g.j + 0) / 512 + 1))) (le-ltb (512 * g.j + 0) (r.head.size / 8) past)
          ∙ (let e = whole.1 in omega (arith, e, past))

  same-kind : kind_of (grown_body (512 * g.j + 0) (body_of V r.head.kind (held r))) ≡ kind_of (body_of V r.head.kind (held r))
  same-kind = ap (λ k. kind_of (grown_body (512 * g.j + 0) (body_of V k (held r)))) kind ∙ sym (ap (λ k. kind_of (body_of V k (held r))) kind)

  told-after : told h.number (opened (512 * g.j + 0) now (node_of V (held r))) ≡ told_of h.number (moved (grown_head r.head g) now)
  told-after = λ z. record {
    number = h.number;
    kind = (same-kind ∙ ap (λ (t : Told). t.kind) told-before) z;
    size = grown-size z;
    attributes = with_times r.head.attributes (time_of_names r.head.attributes now);
  }

  tree-is : touch_place (tree_of V1) h.number (512 * g.j + 0) now ≡ touch_place (tree_of V) h.number (512 * g.j + 0) now
  tree-is =
      ap (λ T. touch_place T h.number (512 * g.j + 0) now) (tree-grown V V1 h.number (held r) K g.j sound growth 0 (omega arith))
      ∙ touch-widened (tree_of V) h.number (512 * g.j + 0) now

  outcome : (Ok reply, tree_of W) ≡ born (tree_of V) h.number (node_of V (held r)) name (Some room) new.attributes (new_body new.kind new.size) now
  outcome =
      (λ i. (Ok (is i), tree_of (view i)))
      ∙ (λ i. (
        Ok (record {
          generation = f.generation + 1;
          node = sym (told-born f.number spot name new h.number (512 * g.j) f plain) i;
          directory = record { before = sym told-before i; after = sym told-after i };
        }),
        (shown.1.tree ∙ ap (λ T. planted T f.number (spot_node spot name new.attributes new.kind new.size)) tree-is) i,
      ))
      ∙ ap (λ m. (
        Ok (record {
          generation = m + 1;
          node = told f.number (spot_node spot name new.attributes new.kind new.size);
          directory = record { before = told h.number (node_of V (held r)); after = told h.number (opened (512 * g.j + 0) now (node_of V (held r))) };
        }),
        planted (touch_place (tree_of V) h.number (512 * g.j + 0) now) f.number (spot_node spot name new.attributes new.kind new.size),
      )) (sym (ap (λ (y : Seen). (slot_of V y).generation) is_free.is))

  stays-sound : (call : Call) (c : Caller) → IsCallable call → IsCaller c → IsTime now → Op call c now (tree_of V) (made_reply (Ok reply)) (tree_of W) → IsSoundView W
  stays-sound call c callable caller time op = subst IsSoundView (sym view)
      (calls-stay-sound V (planted_view V1 spot name new.attributes new.kind new.size now) (tree_of (planted_view V1 spot name new.attributes new.kind new.size now)) call c now (made_reply (Ok reply)) callable caller time sound
      (record { numbers = growth.step.form.numbers; first_data = growth.step.form.first_data; data_blocks = growth.step.form.data_blocks })
      (subst (λ W. Op call c now (tree_of V) (made_reply (Ok reply)) (tree_of W)) view op)
      (record { tree = refl; inodes = shown.1.inodes; hung = shown.1.hung }))

  pub birth-further : Birth V W h r name new now reply
  birth-further = record { room = room; has_room = has-room; outcome = outcome; stays = stays-sound }

  pub ground-further : Ground V W h.number name new now f (Further g)
  ground-further = record {
    base = V1;
    spot = spot;
    sound = sound1;
    is_spot = is_spot;
    view = view;
    form = growth.step.form;
    number = refl;
    unowned = growth-unowned V h.number r (tag_of name) g sound node.is kind has;
  }

-- ── wherever it was ──

pub birth : (V W : View) (h : Handle) (r : Record) (name : List ℕ) (new : NewNode) (now : Time) (reply : Made) → IsSoundView V → IsNode V h r → r.head.kind ≡ Directory → (new.kind ≡ Directory → new.size ≡ 0)
    → IsMade V W h.number r name new now reply → Birth V W h r name new now reply
birth V W h r name new now reply sound node kind plain made = by made.place made.is_place made.view made.is
  where
    by : (p : NewPlace) → HasPlaceFor V r.head (tag_of name) p → W ≡ with_placed V h.number r made.number p name new now → reply ≡ made_of h.number r made.number p new now → Birth V W h r name new now reply
    by (Here p) at view is = birth-here V W h r name new now reply sound node kind plain made.number p made.is_free at view is
    by (Further g) at view is = birth-further V W h r name new now reply sound node kind plain made.number g made.is_free at view is

pub ground : (V W : View) (h : Handle) (r : Record) (name : List ℕ) (new : NewNode) (now : Time) (reply : Made) → IsSoundView V → IsNode V h r → r.head.kind ≡ Directory → (new.kind ≡ Directory → new.size ≡ 0)
    → (made : IsMade V W h.number r name new now reply) → Ground V W h.number name new now made.number made.place
ground V W h r name new now reply sound node kind plain made = by made.place made.is_place made.view made.is
  where
    by : (p : NewPlace) → HasPlaceFor V r.head (tag_of name) p → W ≡ with_placed V h.number r made.number p name new now → reply ≡ made_of h.number r made.number p new now → Ground V W h.number name new now made.number p
    by (Here p) at view is = ground-here V W h r name new now reply sound node kind plain made.number p made.is_free at view is
    by (Further g) at view is = ground-further V W h r name new now reply sound node kind plain made.number g made.is_free at view is
