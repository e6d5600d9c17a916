-- A node is put into a directory.
use Rattle.std.proofs.Common.{◌≡◌, ◌≢◌, ℕ, zero, suc, ◌++◌, take, replicate, ◌+◌, ◌*◌, ◌/◌, ◌%◌, ◌<◌, ◌≤◌, Bool, true, false, cond, List, Option, Some, None, refl, sym, ap, subst, ◌⊎◌, inl, inr, ◌∙◌, arith}
use Rattle.std.specs.Prelude.{option_map, nat_lt}
use Rattle.std.proofs.lemmas.List.{take-replicate, replicate-append-replicate}
use Rattle.std.proofs.lemmas.Bool.{cases_eq, cases_lt, eq-eqb, ne_eqb, lt-ltb}
use Rattle.journal_tree.specs.declared.limits.TheConstants.{LAST_GENERATION, MOST_PLACES}
use Rattle.journal_tree.specs.declared.time.Time.{Time}
use Rattle.journal_tree.specs.declared.reply.Attributes.{Attributes}
use Rattle.journal_tree.specs.declared.reply.Kind.{Kind}
use Rattle.journal_tree.specs.declared.reply.Kind.TheVariants.{Directory, File, Link}
use Rattle.journal_tree.specs.Times.{time_of_names}
use Rattle.journal_tree.specs.Trees.{Home, Body, with_slot}
use Rattle.journal_tree.specs.Trees.Body.{directory, file, link}
use Rattle.journal_tree.specs.Fit.{IsFitBody}
use Rattle.journal_tree.specs.Op.{IsRoom}
use Rattle.journal_tree.specs.Changes.{with_times, grown_body, opened, touch_place, planted}
use Rattle.journal_treestore.specs.Entries.{tag_of}
use Rattle.journal_treestore.specs.Levels.{IsBlockFor}
use Rattle.journal_treestore.specs.Positions.{Position, place_at, IsPosition, with_put}
use Rattle.journal_treestore.specs.Views.{Held, Seen, View, block_at, zero_block, bytes_in, bytes_of, with_inode, node_of, body_of, slot_of, tree_of, entry_in, entry_of, entry_by, entry_at, home_in, homes}
use Rattle.journal_treestore.specs.Views.Seen.{free, used}
use Rattle.journal_treestore.specs.Sound.{entry_for, IsHung, IsSoundInode, IsSoundView}
use Rattle.journal_treestore.specs.Steps.{Spot, place_of, home_of, IsSpot, with_moment, new_held, new_body, new_node, planted_view, PlantingShows}
use Rattle.journal_treestore.proofs.Recording.{tag-low, zero_block-is}
use Rattle.journal_treestore.proofs.Hanging.{with_home, with_place, hang}
use Rattle.journal_treestore.proofs.Viewing.{inode-node, zero_free, no_node_at}
use Rattle.journal_treestore.proofs.Indexing.{no-index, directory-after, plain-sound, bytes_of-frame}
use Rattle.journal_treestore.proofs.Changing.{tree-inode, homes-inode, entries-inode, AreInodes, inodes-inode, inode-other, IsPut, put, entries-put}

-- the directory's entries are those of before
pub entry_by-moment : (V : View) (h : Held) (now : Time) (kind : Kind) (place : ℕ) → entry_by V kind (with_moment h now) place ≡ entry_by V kind h place
unfolding block_at
entry_by-moment V h now Directory place = refl
entry_by-moment V h now File place = refl
entry_by-moment V h now Link place = refl

no_entries : (V : View) (s : Spot) (name : List ℕ) (a : Attributes) (kind : Kind) (size : ℕ) (place : ℕ) → entry_by V kind (new_held s name a kind size) place ≡ record { number = 0; tag = 0 }
no_entries V s name a Directory size place = ap (λ b. entry_in V b (place % 512)) (by (nat_lt (place / 512) 388))
  where
    by : (t : Bool) → cond t (block_at V (new_held s name a Directory size) (place / 512)) 0 ≡ 0
    by true = no-index V (new_held s name a Directory size) refl (λ _ _. refl) (place / 512)
    by false = refl
no_entries V s name a File size place = refl
no_entries V s name a Link size place = refl

-- a node without blocks has zeros
bytes_of-holes : (V : View) (k : ℕ) → bytes_of V (λ j. 0) k ≡ replicate (4096 * k) 0
bytes_of-holes V zero = refl
bytes_of-holes V (suc k) =
    ap (λ v. v ++ zero_block) (bytes_of-holes V k)
    ∙ ap (λ v. replicate (4096 * k) 0 ++ v) zero_block-is
    ∙ replicate-append-replicate (4096 * k) 4096 0
    ∙ ap (λ n. replicate n 0) (let e : 4096 * k + 4096 ≡ 4096 * suc k = omega arith in e)

content-holes : (V : View) (size : ℕ) → take size (bytes_of V (λ j. 0) ((size + 4095) / 4096)) ≡ replicate size 0
content-holes V size = ap (take size) (bytes_of-holes V ((size + 4095) / 4096)) ∙ take-replicate size (4096 * ((size + 4095) / 4096)) 0 (omega arith)

-- a home is replaced by itself
pub with_home-again : (H : ℕ → Option Home) (n : ℕ) (v : Option Home) → H n ≡ v → with_home H n v ≡ H
with_home-again H n v is = λ z. λ i. by i (cases_eq i n) z
  where
    by : (i : ℕ) → (i ≡ n) ⊎ (i ≡ n → ⊥) → with_home H n v i ≡ H i
    by i (inl same) = rw (eq-eqb i n same) (sym is ∙ ap H (sym same))
    by i (inr other) = rw (ne_eqb i n other) refl

-- a position lies within its directory
pub position-inside : (V : View) (d : ℕ) (h : Held) (p : Position) → IsSoundInode V d h → h.kind ≡ Directory → IsPosition V h p → place_at p < h.size / 8
position-inside V d h p s kind at = by (cases_lt (4096 * p.j) h.size)
  where
    by : (4096 * p.j < h.size) ⊎ (h.size ≤ 4096 * p.j) → place_at p < h.size / 8
    by (inr behind) = absurd (at.some (sym at.is ∙ directory-after V d h s p.j behind))
    by (inl low) = let w = s.whole kind in let e = w.1 in let q = at.low in omega (arith, e, q, low)

-- a directory of other times is as sound as before
pub inode-moment : (V : View) (d : ℕ) (h : Held) (now : Time) → IsSoundInode V d h → (g : Held) → used (with_moment h now) ≡ used g → IsSoundInode V d g
unfolding block_at
inode-moment V d h now old g is = by (cc)
  where
    by : with_moment h now ≡ g → IsSoundInode V d g
    by same = subst (IsSoundInode V d) same (record { owned = old.owned; there = old.there; after = old.after; sized = old.sized; whole = old.whole; first = old.first })

module _ (V : View) (sound : IsSoundView V) (s : Spot) (name : List ℕ) (spot : IsSpot V s name) where
  head : IsSoundInode V s.d s.h
  head = sound.inodes s.d s.h spot.is

  -- the place is one of the directory
  pub inside : place_of s < s.h.size / 8
  inside = position-inside V s.d s.h s.at head spot.kind spot.at

  not_d : s.n ≢ s.d
  not_d e = absurd (cc (sym spot.free_is ∙ ap V.inode e ∙ spot.is))

  -- what is put there has room
  pub room : IsRoom (tree_of V) s.d (record { number = s.n; place = place_of s })
  room = record {
    some = spot.some;
    low = spot.on_disk;
    free = ap (λ (y : Seen). (slot_of V y).node) spot.free_is;
    young = subst (λ g. g < LAST_GENERATION) (sym (ap (λ (y : Seen). (slot_of V y).generation) spot.free_is)) spot.young;
    empty = no_node_at V sound s.d (place_of s) s.h spot.is spot.empty;
    within = within;
  }
    where
      fits : IsFitBody (directory (s.h.size / 8))
      fits = subst IsFitBody (ap (λ kind. body_of V kind s.h) spot.kind) (sound.fit.nodes s.d (node_of V s.h) (inode-node V s.d s.h spot.is)).body

      within : place_of s < MOST_PLACES
      within = let f = fits.0 in let i = inside in omega (arith, f, i)

  module _ (a : Attributes) (kind : Kind) (size : ℕ) (now : Time) (plain : kind ≡ Directory → size ≡ 0) where
    abbrev V1 : View
    V1 = with_put V s.at.b s.at.q (entry_for s.n (home_of s name))

    abbrev V2 : View
    V2 = with_inode V1 s.d (used (with_moment s.h now))

    abbrev V3 : View
    V3 = with_inode V2 s.n (used (new_held s name a kind size))

    small : s.n < 4294967296
    small = let o = spot.on_disk in let few = sound.few_numbers in omega (arith, o, few)

    put1 : IsPut V (with_put V s.at.b s.at.q (entry_for s.n (home_of s name)))
    put1 = put V s.d s.h s.at (entry_for s.n (home_of s name)) sound.inodes spot.is spot.kind spot.at

    heads2 : AreInodes V2
    heads2 = inodes-inode V1 s.d (used (with_moment s.h now)) put1.heads (inode-moment V1 s.d s.h now (put1.heads s.d s.h spot.is))

    pub inodes-planted : AreInodes (planted_view V s name a kind size now)
    inodes-planted = inodes-inode V2 s.n (used (new_held s name a kind size)) heads2 (λ g is. by g (cc))
      where
        by : (g : Held) → new_held s name a kind size ≡ g → IsSoundInode V2 s.n g
        by g is = subst (IsSoundInode V2 s.n) is (plain-sound V2 s.n (new_held s name a kind size) refl (λ _ _. refl) (λ j some. absurd (some refl)) (λ j some. absurd (some refl)) (λ _ _. refl) (λ j some. absurd (some refl)) (λ is. (0, plain is)))

    -- the tree has the node
    pub tree-planted : tree_of (planted_view V s name a kind size now) ≡ planted (touch_place (tree_of V) s.d (place_of s) now) s.n (new_node s name a kind size)
    tree-planted =
        tree-inode V2 s.n (used (new_held s name a kind size))
        ∙ ap (λ T. with_slot T s.n (slot_of V2 (used (new_held s name a kind size)))) touched
        ∙ ap (λ s2. with_slot (touch_place (tree_of V) s.d (place_of s) now) s.n s2) slot
      where
        grows : grown_body (place_of s) (body_of V s.h.kind s.h) ≡ body_of V1 s.h.kind (with_moment s.h now)
        grows =
            ap (λ kind. grown_body (place_of s) (body_of V kind s.h)) spot.kind
            ∙ ap (λ t. directory (cond t (s.h.size / 8) (512 * (place_of s / 512 + 1)))) (lt-ltb (place_of s) (s.h.size / 8) inside)
            ∙ sym (ap (λ kind. body_of V1 kind (with_moment s.h now)) spot.kind)

        node : opened (place_of s) now (node_of V s.h) ≡ node_of V1 (with_moment s.h now)
        node = ap (λ (body : Body). record { attributes = with_times s.h.attributes (time_of_names s.h.attributes now); home = s.h.home; body = body }) grows

        touched : tree_of V2 ≡ touch_place (tree_of V) s.d (place_of s) now
        touched =
            tree-inode V1 s.d (used (with_moment s.h now))
            ∙ ap (λ T. with_slot T s.d (slot_of V1 (used (with_moment s.h now)))) put1.tree
            ∙ ap (λ x. with_slot (tree_of V) s.d (record { generation = s.h.generation; node = Some x })) (sym node)
            ∙ ap (λ (y : Seen). with_slot (tree_of V) s.d (record { generation = (slot_of V y).generation; node = option_map (opened (place_of s) now) (slot_of V y).node })) (sym spot.is)

        holes : take size (bytes_of V2 (block_at V2 (new_held s name a kind size)) ((size + 4095) / 4096)) ≡ take size (bytes_of V2 (λ j. 0) ((size + 4095) / 4096))
        holes = ap (take size) (bytes_of-frame V2 V2 (block_at V2 (new_held s name a kind size)) (λ j. 0) (λ j. ap (bytes_in V2) (no-index V2 (new_held s name a kind size) refl (λ _ _. refl) j)) ((size + 4095) / 4096))

        same_body : (k : Kind) → kind ≡ k → body_of V2 k (new_held s name a kind size) ≡ new_body k size
        same_body Directory is = ap (λ n. directory (n / 8)) (plain is)
        same_body File is = ap file (holes ∙ content-holes V2 size)
        same_body Link is = ap link (holes ∙ content-holes V2 size)

        generation : ((touch_place (tree_of V) s.d (place_of s) now).at s.n).generation ≡ s.generation
        generation =
            ap (λ t. (cond t (record { generation = (slot_of V (V.inode s.d)).generation; node = option_map (opened (place_of s) now) (slot_of V (V.inode s.d)).node }) (slot_of V (V.inode s.n))).generation) (ne_eqb s.n s.d not_d)
            ∙ ap (λ (y : Seen). (slot_of V y).generation) spot.free_is

        slot : slot_of V2 (used (new_held s name a kind size)) ≡ record { generation = ((touch_place (tree_of V) s.d (place_of s) now).at s.n).generation + 1; node = Some (new_node s name a kind size) }
        slot = λ z. record {
          generation = sym generation z + 1;
          node = Some (record { attributes = a; home = home_of s name; body = same_body kind refl z });
        }

    -- and hangs there
    pub hung-planted : IsHung (homes (planted_view V s name a kind size now)) (entry_at (planted_view V s name a kind size now))
    hung-planted = subst (λ H. IsHung H (entry_at V3)) (sym homes3) (subst (IsHung (with_home (homes V) s.n (Some (home_of s name)))) (sym entries3) hangs)
      where
        entries1 : entry_at V1 ≡ with_place (entry_at V) s.d (place_of s) (entry_for s.n (home_of s name))
        entries1 = entries-put V s.d s.h s.at (entry_for s.n (home_of s name)) sound.inodes spot.is spot.kind spot.at (small, tag-low name)

        entries2 : entry_at V2 ≡ entry_at V1
        entries2 = entries-inode V1 s.d (used (with_moment s.h now)) (λ place. entry_by-moment V1 s.h now s.h.kind place ∙ sym (ap (λ y. entry_of V1 y place) spot.is))

        free2 : V2.inode s.n ≡ free s.generation
        free2 = inode-other V1 s.d s.n (used (with_moment s.h now)) not_d ∙ spot.free_is

        entries3 : entry_at V3 ≡ with_place (entry_at V) s.d (place_of s) (entry_for s.n (home_of s name))
        entries3 =
            entries-inode V2 s.n (used (new_held s name a kind size)) (λ place. no_entries V2 s name a kind size place ∙ sym (ap (λ y. entry_of V2 y place) free2))
            ∙ entries2 ∙ entries1

        homes3 : homes V3 ≡ with_home (homes V) s.n (Some (home_of s name))
        homes3 =
            homes-inode V2 s.n (used (new_held s name a kind size))
            ∙ ap (λ H. with_home H s.n (Some (home_of s name))) (homes-inode V1 s.d (used (with_moment s.h now)) ∙ with_home-again (homes V) s.d (Some s.h.home) (ap home_in spot.is))

        block : IsBlockFor (tag_of name) (place_of s / 512)
        block = subst (IsBlockFor (tag_of name)) (let low = spot.at.low in let e : s.at.j ≡ (512 * s.at.j + s.at.q) / 512 = omega (arith, low) in e) spot.block

        hangs : IsHung (with_home (homes V) s.n (Some (home_of s name))) (with_place (entry_at V) s.d (place_of s) (entry_for s.n (home_of s name)))
        hangs = hang (homes V) (entry_at V) s.n (home_of s name) None (zero_free V sound) (ap home_in spot.free_is) spot.some spot.empty block sound.hung

pub planting-shows : PlantingShows
planting-shows V s name a kind size now sound spot plain = (
  room V sound s name spot,
  record {
    tree = tree-planted V sound s name spot a kind size now plain;
    inodes = inodes-planted V sound s name spot a kind size now plain;
    hung = hung-planted V sound s name spot a kind size now plain;
  },
)
