-- A node gets another name in its directory.
use Rattle.std.proofs.Common.{◌≡◌, ◌≢◌, ℕ, zero, suc, ◌+◌, ◌*◌, ◌/◌, ◌<◌, Bool, true, false, cond, eqb, ◌&&◌, ◌++◌, take, List, Option, Some, None, refl, sym, ap, subst, ◌⊎◌, inl, inr, ◌∙◌, arith}
use Rattle.std.specs.Prelude.{option_map}
use Rattle.std.proofs.lemmas.Bool.{eq-eqb, lt-ltb}
use Rattle.journal_tree.specs.declared.time.Time.{Time}
use Rattle.journal_tree.specs.declared.reply.Kind.{Kind}
use Rattle.journal_tree.specs.declared.reply.Kind.TheVariants.{Directory, File, Link}
use Rattle.journal_tree.specs.Times.{time_of_change, time_of_names}
use Rattle.journal_tree.specs.Trees.{Home, Body, Node, Tree, with_slot, with_node}
use Rattle.journal_tree.specs.Trees.Body.{directory, file, link}
use Rattle.journal_tree.specs.Changes.{with_times, grown_body, touched, touch, opened, touch_place}
use Rattle.journal_tree.specs.Renames.{with_ctime, rehung, moved}
use Rattle.journal_tree.proofs.Changing.{same_generation}
use Rattle.journal_treestore.specs.declared.entry.Entry.{Entry}
use Rattle.journal_treestore.specs.Entries.{no_entry, tag_of}
use Rattle.journal_treestore.specs.Levels.{IsBlockFor}
use Rattle.journal_treestore.specs.Positions.{Position, place_at, IsPosition, with_puts}
use Rattle.journal_treestore.specs.Views.{Held, Seen, View, block_at, with_inode, bytes_in, bytes_of, node_of, body_of, slot_of, tree_of, entry_of, entry_by, entry_at, home_in, homes}
use Rattle.journal_treestore.specs.Views.Seen.{used}
use Rattle.journal_treestore.specs.Sound.{entry_for, IsHung, IsSoundInode, IsSoundView}
use Rattle.journal_treestore.specs.Steps.{with_moment, Seat, seat_place, IsPlaced}
use Rattle.journal_treestore.specs.Moves.{rehomed, renamed_home, IsSecondRoom, without_second, renamed_view, renaming_of, RenamingShows}
use Rattle.journal_treestore.proofs.Recording.{tag-low}
use Rattle.journal_treestore.proofs.Hanging.{with_home, with_place, with_own, IsOwn, cases_own, own-here, own-other, home-same, HasSecondRoom, hang}
use Rattle.journal_treestore.proofs.Viewing.{inode-node, zero_free}
use Rattle.journal_treestore.proofs.Changing.{tree-inode, homes-inode, entries-inode, AreInodes, inodes-inode, inode-other, IsPut, put-none, put-then, position-put, put, entries-put, IsSomePosition, places, puts, entries-puts}
use Rattle.journal_treestore.proofs.Planting.{position-inside, inode-moment, entry_by-moment, with_home-again}
use Rattle.journal_treestore.proofs.Placed.{own-places, some-position, cut-own, not_d, small}

-- ── a directory of other times, and a node of another home ──

-- the second of two changes at one key stands
pub home-twice : (H : ℕ → Option Home) (n : ℕ) (v w : Option Home) → with_home (with_home H n v) n w ≡ with_home H n w
home-twice H n v w = λ z. λ i. by (eqb i n) (H i) z
  where
    by : (b : Bool) (o : Option Home) → cond b w (cond b v o) ≡ cond b w o
    by true o = refl
    by false o = refl

pub place-twice : (E : ℕ → ℕ → Entry) (d p : ℕ) (a b : Entry) → with_place (with_place E d p a) d p b ≡ with_place E d p b
place-twice E d p a b = λ z. λ x. λ y. by (eqb x d && eqb y p) (E x y) z
  where
    by : (t : Bool) (o : Entry) → cond t b (cond t a o) ≡ cond t b o
    by true o = refl
    by false o = refl

-- no node has number 0 either where one is gone
pub zero_gone : (H : ℕ → Option Home) (n : ℕ) → H 0 ≡ None → with_home H n None 0 ≡ None
zero_gone H n is = by (eqb 0 n)
  where
    by : (b : Bool) → cond b None (H 0) ≡ None
    by true = refl
    by false = is

-- its entries are those of before
pub entry_by-rehomed : (V : View) (g : Held) (home : Home) (now : Time) (kind : Kind) (place : ℕ) → entry_by V kind (rehomed g home now) place ≡ entry_by V kind g place
unfolding block_at
entry_by-rehomed V g home now Directory place = refl
entry_by-rehomed V g home now File place = refl
entry_by-rehomed V g home now Link place = refl

-- it is as sound as before
pub inode-rehomed : (V : View) (n : ℕ) (h : Held) (home : Home) (now : Time) → IsSoundInode V n h → (g : Held) → used (rehomed h home now) ≡ used g → IsSoundInode V n g
unfolding block_at
inode-rehomed V n h home now old g is = by (cc)
  where
    by : rehomed h home now ≡ g → IsSoundInode V n g
    by same = subst (IsSoundInode V n) same (record { owned = old.owned; there = old.there; after = old.after; sized = old.sized; whole = old.whole; first = old.first })

-- what is held does not hang on inodes
bytes_of-inode : (V : View) (n : ℕ) (x : Seen) (blocks : ℕ → ℕ) (l : ℕ) → bytes_of (with_inode V n x) blocks l ≡ bytes_of V blocks l
bytes_of-inode V n x blocks zero = refl
bytes_of-inode V n x blocks (suc l) = ap (λ w. w ++ bytes_in V (blocks l)) (bytes_of-inode V n x blocks l)

pub body-inode : (V : View) (n : ℕ) (x : Seen) (g : Held) (kind : Kind) → body_of (with_inode V n x) kind g ≡ body_of V kind g
unfolding block_at
body-inode V n x g Directory = refl
body-inode V n x g File = ap (λ w. file (take g.size w)) (bytes_of-inode V n x (block_at V g) ((g.size + 4095) / 4096))
body-inode V n x g Link = ap (λ w. link (take g.size w)) (bytes_of-inode V n x (block_at V g) ((g.size + 4095) / 4096))

body-rehomed : (V : View) (g : Held) (home : Home) (now : Time) (kind : Kind) → body_of V kind (rehomed g home now) ≡ body_of V kind g
unfolding block_at
body-rehomed V g home now Directory = refl
body-rehomed V g home now File = refl
body-rehomed V g home now Link = refl

abbrev body_in : Option Node → Body
body_in None = directory 0
body_in (Some x) = x.body

-- two disks of one tree hold the same for an inode that both have
pub body-same : (V W : View) (n : ℕ) (g : Held) → V.inode n ≡ used g → W.inode n ≡ used g → tree_of W ≡ tree_of V → body_of W g.kind g ≡ body_of V g.kind g
body-same V W n g at in_w same = ap body_in (sym (inode-node W n g in_w) ∙ ap (λ (T : Tree). (T.at n).node) same ∙ inode-node V n g at)

-- the directory of which a name is taken
pub tree-touched : (V W : View) (d : ℕ) (h : Held) (now : Time) → V.inode d ≡ used h → h.kind ≡ Directory → tree_of W ≡ tree_of V → tree_of (with_inode W d (used (with_moment h now))) ≡ touch (tree_of V) d now
tree-touched V W d h now is kind same =
    tree-inode W d (used (with_moment h now))
    ∙ ap (λ T. with_slot T d (slot_of W (used (with_moment h now)))) same
    ∙ ap (with_slot (tree_of V) d) slot
  where
    same_body : body_of W h.kind (with_moment h now) ≡ body_of V h.kind h
    same_body = ap (λ kind. body_of W kind (with_moment h now)) kind ∙ sym (ap (λ kind. body_of V kind h) kind)

    slot : slot_of W (used (with_moment h now)) ≡ record { generation = (slot_of V (V.inode d)).generation; node = option_map (touched now) (slot_of V (V.inode d)).node }
    slot =
        ap (λ (body : Body). record { generation = h.generation; node = Some (record { attributes = with_times h.attributes (time_of_names h.attributes now); home = h.home; body = body }) }) same_body
        ∙ ap (λ (y : Seen). record { generation = (slot_of V y).generation; node = option_map (touched now) (slot_of V y).node }) (sym is)

-- a directory that has the place gets no more by it
pub place-touched : (V : View) (d : ℕ) (h : Held) (place : ℕ) (now : Time) → V.inode d ≡ used h → h.kind ≡ Directory → place < h.size / 8 → touch_place (tree_of V) d place now ≡ touch (tree_of V) d now
place-touched V d h place now is kind low =
    ap (λ (y : Seen). with_slot (tree_of V) d (record { generation = (slot_of V y).generation; node = option_map (opened place now) (slot_of V y).node })) is
    ∙ ap (λ (b : Body). with_slot (tree_of V) d (record { generation = h.generation; node = Some (record { attributes = with_times h.attributes (time_of_names h.attributes now); home = h.home; body = b }) })) body
    ∙ sym (ap (λ (y : Seen). with_slot (tree_of V) d (record { generation = (slot_of V y).generation; node = option_map (touched now) (slot_of V y).node })) is)
  where
    body : grown_body place (body_of V h.kind h) ≡ body_of V h.kind h
    body =
        ap (λ kind. grown_body place (body_of V kind h)) kind
        ∙ ap (λ t. directory (cond t (h.size / 8) (512 * (place / 512 + 1)))) (lt-ltb place (h.size / 8) low)
        ∙ sym (ap (λ kind. body_of V kind h) kind)

-- the node under its new home
pub tree-rehomed : (V W : View) (T : Tree) (n : ℕ) (g : Held) (home new : Home) (now : Time) → tree_of W ≡ T → (T.at n).generation ≡ g.generation → home ≡ new → body_of W g.kind g ≡ body_of V g.kind g
    → tree_of (with_inode W n (used (rehomed g home now))) ≡ with_node T n (Some (rehung new now (node_of V g)))
tree-rehomed V W T n g home new now same generation homes_same body =
    tree-inode W n (used (rehomed g home now))
    ∙ ap (λ T. with_slot T n (slot_of W (used (rehomed g home now)))) same
    ∙ ap (with_slot T n) slot
  where
    slot : slot_of W (used (rehomed g home now)) ≡ record { generation = (T.at n).generation; node = Some (rehung new now (node_of V g)) }
    slot = λ z. record {
      generation = sym generation z;
      node = Some (record {
        attributes = with_ctime g.attributes (time_of_change g.attributes.ctime now);
        home = homes_same z;
        body = (body-rehomed W g home now g.kind ∙ body) z;
      });
    }

-- ── its entries ──

-- an entry that goes, where an entry comes at once, need not go first
module _ (E : ℕ → ℕ → Entry) (d p : ℕ) (a b : Entry) where
  place-between : (o : ℕ) → with_place (with_place (with_place E d p a) d o a) d p b ≡ with_place (with_place E d o a) d p b
  place-between o = λ z. λ x. λ y. by (eqb x d && eqb y p) (eqb x d && eqb y o) (E x y) z
    where
      by : (t u : Bool) (e : Entry) → cond t b (cond u a (cond t a e)) ≡ cond t b (cond u a e)
      by true u e = refl
      by false u e = refl

  -- a second entry goes, if there is one
  abbrev pub without_own : Option ℕ → ℕ → ℕ → Entry
  without_own None = E
  without_own (Some o) = with_place E d o a

  own-twice : (o m : Option ℕ) → with_own (with_own E d p o a) d p m b ≡ with_own (without_own o) d p m b
  own-twice None None = place-twice E d p a b
  own-twice None (Some m) = ap (λ F. with_place F d m b) (place-twice E d p a b)
  own-twice (Some o) None = place-between o
  own-twice (Some o) (Some m) = ap (λ F. with_place F d m b) (place-between o)

module _ (V : View) (sound : IsSoundView V) (s : Seat) (placed : IsPlaced V s) (name : List ℕ) (more : Option Position) (room : IsSecondRoom V s name more) (now : Time) where
  abbrev home : Home
  home = renamed_home s.g name

  abbrev entry : Entry
  entry = entry_for s.n (renamed_home s.g name)

  abbrev V0 : View
  V0 = without_second V s.more

  abbrev V1 : View
  V1 = with_puts (without_second V s.more) s.at more (entry_for s.n (renamed_home s.g name))

  abbrev V2 : View
  V2 = with_inode V1 s.d (used (with_moment s.h now))

  abbrev V3 : View
  V3 = with_inode V2 s.n (used (rehomed s.g (renamed_home s.g name) now))

  apart : s.n ≢ s.d
  apart = not_d V sound s placed

  -- ── the blocks ──

  put0 : IsPut V V0
  put0 = by s.more (some-position V sound s placed)
    where
      by : (o : Option Position) → IsSomePosition V s.h o → IsPut V (without_second V o)
      by None at = put-none V sound.inodes
      by (Some p) at = put V s.d s.h p no_entry sound.inodes placed.is placed.kind at

  is0 : V0.inode s.d ≡ used s.h
  is0 = put0.inode s.d ∙ placed.is

  at0 : IsPosition V0 s.h s.at
  at0 = position-put V V0 s.d s.h s.at put0 placed.is placed.at

  more0 : IsSomePosition V0 s.h more
  more0 = by more room
    where
      by : (o : Option Position) → IsSecondRoom V s name o → IsSomePosition V0 s.h o
      by None room = tt
      by (Some p) room = position-put V V0 s.d s.h p put0 placed.is room.0

  put1 : IsPut V V1
  put1 = put-then V V0 V1 put0 (puts V0 s.d s.h s.at more entry put0.heads is0 placed.kind at0 more0)

  inodes2 : AreInodes V2
  inodes2 = inodes-inode V1 s.d (used (with_moment s.h now)) put1.heads (inode-moment V1 s.d s.h now (put1.heads s.d s.h (put1.inode s.d ∙ placed.is)))

  node2 : V2.inode s.n ≡ used s.g
  node2 = inode-other V1 s.d s.n (used (with_moment s.h now)) apart ∙ put1.inode s.n ∙ placed.node

  pub inodes-renamed : AreInodes (renamed_view V s more name now)
  inodes-renamed = inodes-inode V2 s.n (used (rehomed s.g (renamed_home s.g name) now)) inodes2 (inode-rehomed V2 s.n s.g (renamed_home s.g name) now (inodes2 s.n s.g node2))

  -- ── where the node hangs ──

  -- the entries without its own
  abbrev F : ℕ → ℕ → Entry
  F = with_own (entry_at V) s.d (seat_place s) (places s.more) no_entry

  pub hung-renamed : IsHung (homes (renamed_view V s more name now)) (entry_at (renamed_view V s more name now))
  hung-renamed = subst (λ H. IsHung H (entry_at V3)) (sym homes3) (subst (IsHung (with_home (homes V) s.n (Some home))) (sym entries3) hangs)
    where
      entries0 : entry_at V0 ≡ without_own (entry_at V) s.d (seat_place s) no_entry entry (places s.more)
      entries0 = by s.more (some-position V sound s placed)
        where
          by : (o : Option Position) → IsSomePosition V s.h o → entry_at (without_second V o) ≡ without_own (entry_at V) s.d (seat_place s) no_entry entry (places o)
          by None at = refl
          by (Some p) at = entries-put V s.d s.h p no_entry sound.inodes placed.is placed.kind at (omega arith, omega arith)

      entries1 : entry_at V1 ≡ with_own (without_own (entry_at V) s.d (seat_place s) no_entry entry (places s.more)) s.d (seat_place s) (places more) entry
      entries1 =
          entries-puts V0 s.d s.h s.at more entry put0.heads is0 placed.kind at0 more0 (small V sound s placed, tag-low name)
          ∙ ap (λ F. with_own F s.d (seat_place s) (places more) entry) entries0

      entries2 : entry_at V2 ≡ entry_at V1
      entries2 = entries-inode V1 s.d (used (with_moment s.h now)) (λ place. entry_by-moment V1 s.h now s.h.kind place ∙ sym (ap (λ y. entry_of V1 y place) (put1.inode s.d ∙ placed.is)))

      entries3 : entry_at V3 ≡ with_own (with_own (entry_at V) s.d (seat_place s) (places s.more) no_entry) s.d (seat_place s) (places more) entry
      entries3 =
          entries-inode V2 s.n (used (rehomed s.g (renamed_home s.g name) now)) (λ place. entry_by-rehomed V2 s.g (renamed_home s.g name) now s.g.kind place ∙ sym (ap (λ y. entry_of V2 y place) node2))
          ∙ entries2 ∙ entries1
          ∙ sym (own-twice (entry_at V) s.d (seat_place s) no_entry entry (places s.more) (places more))

      homes1 : homes V1 ≡ homes V
      homes1 = λ z. λ i. home_in (put1.inode i z)

      homes3 : homes V3 ≡ with_home (homes V) s.n (Some home)
      homes3 =
          homes-inode V2 s.n (used (rehomed s.g (renamed_home s.g name) now))
          ∙ ap (λ H. with_home H s.n (Some home)) (
          homes-inode V1 s.d (used (with_moment s.h now))
          ∙ ap (λ H. with_home H s.d (Some s.h.home)) homes1
          ∙ with_home-again (homes V) s.d (Some s.h.home) (ap home_in placed.is))

      -- it goes, and hangs again at its place
      gone : IsHung (with_home (homes V) s.n None) F
      gone = cut-own V sound s placed

      empty : (F s.d (seat_place s)).number ≡ 0
      empty = ap (λ (e : Entry). e.number) (own-here (entry_at V) s.d (seat_place s) (places s.more) no_entry s.d (seat_place s) (refl, inl refl))

      in_block : s.at.j ≡ seat_place s / 512
      in_block = let low = placed.at.low in omega (arith, low)

      -- nothing is at the other position then
      free : (p : Position) → ((entry_at V s.d (place_at p)).number ≡ 0) ⊎ ((entry_at V s.d (place_at p)).number ≡ s.n) → (F s.d (place_at p)).number ≡ 0
      free p at = by at (cases_own s.d (seat_place s) (places s.more) s.d (place_at p))
        where
          by : ((entry_at V s.d (place_at p)).number ≡ 0) ⊎ ((entry_at V s.d (place_at p)).number ≡ s.n)
              → IsOwn s.d (seat_place s) (places s.more) s.d (place_at p) ⊎ (IsOwn s.d (seat_place s) (places s.more) s.d (place_at p) → ⊥) → (F s.d (place_at p)).number ≡ 0
          by _ (inl own) = ap (λ (e : Entry). e.number) (own-here (entry_at V) s.d (seat_place s) (places s.more) no_entry s.d (place_at p) own)
          by (inl none) (inr other) = ap (λ (e : Entry). e.number) (own-other (entry_at V) s.d (seat_place s) (places s.more) no_entry s.d (place_at p) other) ∙ none
          by (inr its) (inr other) = absurd (other (own-places V sound s placed (place_at p) its))

      second : HasSecondRoom F (record { directory = s.d; place = seat_place s; name = name }) (places more)
      second = by more room
        where
          by : (o : Option Position) → IsSecondRoom V s name o → HasSecondRoom F (record { directory = s.d; place = seat_place s; name = name }) (places o)
          by None block = subst (IsBlockFor (tag_of name)) in_block block
          by (Some p) room = (
            subst (IsBlockFor (tag_of name)) (let low = room.0.low in let e : p.j ≡ place_at p / 512 = omega (arith, low) in e) room.1,
            λ block. room.2 (subst (IsBlockFor (tag_of name)) (sym in_block) block),
            free p room.3,
          )

      home_is : record { directory = s.d; place = seat_place s; name = name } ≡ home
      home_is = λ z. record { directory = sym placed.directory z; place = sym placed.place z; name = name }

      again : IsHung (with_home (with_home (homes V) s.n None) s.n (Some (record { directory = s.d; place = seat_place s; name = name }))) (with_own F s.d (seat_place s) (places more) entry)
      again = hang (with_home (homes V) s.n None) F s.n (record { directory = s.d; place = seat_place s; name = name }) (places more)
          (zero_gone (homes V) s.n (zero_free V sound)) (home-same (homes V) s.n None) placed.some empty second gone

      hangs : IsHung (with_home (homes V) s.n (Some home)) (with_own F s.d (seat_place s) (places more) entry)
      hangs =
          subst (λ H. IsHung H (with_own F s.d (seat_place s) (places more) entry))
          (home-twice (homes V) s.n None (Some (record { directory = s.d; place = seat_place s; name = name })) ∙ ap (λ (h : Home). with_home (homes V) s.n (Some h)) home_is)
          again

  -- ── the tree ──

  -- the place is one of the directory, which does not grow
  pub tree-renamed : tree_of (renamed_view V s more name now) ≡ moved (tree_of V) (renaming_of V s name) s.n (node_of V s.g) s.g.home.place now
  tree-renamed =
      tree-rehomed V V2 (touch (tree_of V) s.d now) s.n s.g (renamed_home s.g name) (record { directory = s.d; place = s.g.home.place; name = name }) now tree2 generation home_is body
      ∙ ap (λ T. with_node T s.n (Some (rehung (record { directory = s.d; place = s.g.home.place; name = name }) now (node_of V s.g)))) (sym (place-touched V s.d s.h s.g.home.place now placed.is placed.kind within))
      ∙ ap (λ b. with_node (cond b (touch_place (tree_of V) s.d s.g.home.place now) (touch_place (touch (tree_of V) s.d now) s.d s.g.home.place now)) s.n
      (Some (rehung (record { directory = s.d; place = cond b s.g.home.place s.g.home.place; name = name }) now (node_of V s.g))))
      (sym (eq-eqb s.d s.d refl))
    where
      within : s.g.home.place < s.h.size / 8
      within = subst (λ p. p < s.h.size / 8) (sym placed.place) (position-inside V s.d s.h s.at (sound.inodes s.d s.h placed.is) placed.kind placed.at)

      tree2 : tree_of V2 ≡ touch (tree_of V) s.d now
      tree2 = tree-touched V V1 s.d s.h now placed.is placed.kind put1.tree

      generation : ((touch (tree_of V) s.d now).at s.n).generation ≡ s.g.generation
      generation =
          same_generation (tree_of V) s.d s.n (option_map (touched now) ((tree_of V).at s.d).node)
          ∙ ap (λ (y : Seen). (slot_of V y).generation) placed.node

      home_is : renamed_home s.g name ≡ record { directory = s.d; place = s.g.home.place; name = name }
      home_is = ap (λ d. record { directory = d; place = s.g.home.place; name = name }) placed.directory

      body : body_of V2 s.g.kind s.g ≡ body_of V s.g.kind s.g
      body = body-inode V1 s.d (used (with_moment s.h now)) s.g s.g.kind ∙ body-same V V1 s.n s.g placed.node (put1.inode s.n ∙ placed.node) put1.tree

pub renaming-shows : RenamingShows
renaming-shows V s more name now sound placed room = record {
  tree = tree-renamed V sound s placed name more room now;
  inodes = inodes-renamed V sound s placed name more room now;
  hung = hung-renamed V sound s placed name more room now;
}
