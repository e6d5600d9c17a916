-- A node goes to a free place of another directory.
use Rattle.std.proofs.Common.{◌≡◌, ◌≢◌, ℕ, ◌+◌, ◌*◌, ◌/◌, ◌<◌, cond, List, Option, Some, None, refl, sym, ap, subst, ◌∙◌, arith}
use Rattle.std.specs.Prelude.{option_map}
use Rattle.std.proofs.lemmas.Bool.{ne_eqb, lt-ltb}
use Rattle.journal_tree.specs.declared.limits.TheConstants.{MOST_PLACES}
use Rattle.journal_tree.specs.declared.time.Time.{Time}
use Rattle.journal_tree.specs.Times.{time_of_names}
use Rattle.journal_tree.specs.Trees.{Home, Body, Slot, Tree, with_slot, with_node}
use Rattle.journal_tree.specs.Trees.Body.{directory}
use Rattle.journal_tree.specs.Fit.{IsFitBody}
use Rattle.journal_tree.specs.Op.{MayTakePlace}
use Rattle.journal_tree.specs.Changes.{with_times, grown_body, touched, touch, opened, touch_place}
use Rattle.journal_tree.specs.Renames.{rehung, moved}
use Rattle.journal_tree.proofs.Changing.{at_other, same_generation}
use Rattle.journal_treestore.specs.declared.entry.Entry.{Entry}
use Rattle.journal_treestore.specs.Entries.{no_entry, tag_of}
use Rattle.journal_treestore.specs.Levels.{IsBlockFor}
use Rattle.journal_treestore.specs.Positions.{Position, place_at, IsPosition, with_puts}
use Rattle.journal_treestore.specs.Views.{Seen, View, with_inode, node_of, body_of, slot_of, tree_of, entry_of, entry_at, home_in, homes}
use Rattle.journal_treestore.specs.Views.Seen.{used}
use Rattle.journal_treestore.specs.Sound.{entry_for, IsHung, IsSoundView}
use Rattle.journal_treestore.specs.Steps.{with_moment, Seat, seat_place, IsPlaced}
use Rattle.journal_treestore.specs.Moves.{rehomed, Goal, goal_place, goal_home, IsGoalFor, IsGoal, moved_view, move_of, MovingShows}
use Rattle.journal_treestore.proofs.Recording.{tag-low}
use Rattle.journal_treestore.proofs.Hanging.{with_home, with_own, own-other, home-same, HasSecondRoom, hang}
use Rattle.journal_treestore.proofs.Viewing.{inode-node, zero_free, no_node_at}
use Rattle.journal_treestore.proofs.Changing.{tree-inode, homes-inode, entries-inode, AreInodes, inodes-inode, inode-other, IsPut, put-then, position-put, IsSomePosition, places, puts, entries-puts}
use Rattle.journal_treestore.proofs.Planting.{position-inside, inode-moment, entry_by-moment, with_home-again}
use Rattle.journal_treestore.proofs.Placed.{some-position, cut-own, not_d, small}
use Rattle.journal_treestore.proofs.Renaming.{home-twice, zero_gone, entry_by-rehomed, inode-rehomed, body-inode, body-same, tree-touched, tree-rehomed}

-- ── the goal ──

module _ (V : View) (sound : IsSoundView V) (t : Goal) (name : List ℕ) (goal : IsGoal V t name) where
  -- the place is one of the directory
  inside : goal_place t < t.h.size / 8
  inside = position-inside V t.e t.h t.at (sound.inodes t.e t.h goal.is) goal.kind goal.at

  -- and may be taken
  pub goal-free : (d : ℕ) → MayTakePlace (tree_of V) d t.e (Some (goal_place t))
  goal-free d = (λ _. no_node_at V sound t.e (goal_place t) t.h goal.is goal.empty, within)
    where
      fits : IsFitBody (directory (t.h.size / 8))
      fits = subst IsFitBody (ap (λ kind. body_of V kind t.h) goal.kind) (sound.fit.nodes t.e (node_of V t.h) (inode-node V t.e t.h goal.is)).body

      within : goal_place t < MOST_PLACES
      within = let f = fits.0 in let i = inside in omega (arith, f, i)

  -- the directory in which a name is put, where only that of another directory has changed
  pub tree-opened : (W : View) (T : Tree) (now : Time) → tree_of W ≡ T → T.at t.e ≡ (tree_of V).at t.e → tree_of (with_inode W t.e (used (with_moment t.h now))) ≡ touch_place T t.e (goal_place t) now
  tree-opened W T now same stays =
      tree-inode W t.e (used (with_moment t.h now))
      ∙ ap (λ T. with_slot T t.e (slot_of W (used (with_moment t.h now)))) same
      ∙ ap (with_slot T t.e) slot
    where
      grows : body_of W t.h.kind (with_moment t.h now) ≡ grown_body (goal_place t) (body_of V t.h.kind t.h)
      grows =
          ap (λ kind. body_of W kind (with_moment t.h now)) goal.kind
          ∙ sym (
          ap (λ kind. grown_body (goal_place t) (body_of V kind t.h)) goal.kind
          ∙ ap (λ b. directory (cond b (t.h.size / 8) (512 * (goal_place t / 512 + 1)))) (lt-ltb (goal_place t) (t.h.size / 8) inside))

      slot : slot_of W (used (with_moment t.h now)) ≡ record { generation = (T.at t.e).generation; node = option_map (opened (goal_place t) now) (T.at t.e).node }
      slot =
          ap (λ (body : Body). record { generation = t.h.generation; node = Some (record { attributes = with_times t.h.attributes (time_of_names t.h.attributes now); home = t.h.home; body = body }) }) grows
          ∙ ap (λ (s : Slot). record { generation = s.generation; node = option_map (opened (goal_place t) now) s.node }) (sym (stays ∙ ap (slot_of V) goal.is))

module _ (V : View) (sound : IsSoundView V) (s : Seat) (placed : IsPlaced V s) (t : Goal) (name : List ℕ) (goal : IsGoal V t name) (two : s.d ≢ t.e) (other : s.n ≢ t.e) (now : Time) where
  abbrev home : Home
  home = goal_home t name

  abbrev entry : Entry
  entry = entry_for s.n (goal_home t name)

  abbrev V0 : View
  V0 = with_puts V s.at s.more no_entry

  abbrev V1 : View
  V1 = with_puts V0 t.at t.more entry

  abbrev V2 : View
  V2 = with_inode V1 s.d (used (with_moment s.h now))

  abbrev V3 : View
  V3 = with_inode V2 t.e (used (with_moment t.h now))

  abbrev V4 : View
  V4 = with_inode V3 s.n (used (rehomed s.g (goal_home t name) now))

  apart : s.n ≢ s.d
  apart = not_d V sound s placed

  -- ── the blocks ──

  put0 : IsPut V V0
  put0 = puts V s.d s.h s.at s.more no_entry sound.inodes placed.is placed.kind placed.at (some-position V sound s placed)

  goal0 : V0.inode t.e ≡ used t.h
  goal0 = put0.inode t.e ∙ goal.is

  at0 : IsPosition V0 t.h t.at
  at0 = position-put V V0 t.e t.h t.at put0 goal.is goal.at

  more0 : IsSomePosition V0 t.h t.more
  more0 = by t.more goal.more
    where
      by : (o : Option Position) → IsGoalFor V t name o → IsSomePosition V0 t.h o
      by None block = tt
      by (Some p) more = position-put V V0 t.e t.h p put0 goal.is more.0

  put1 : IsPut V V1
  put1 = put-then V V0 V1 put0 (puts V0 t.e t.h t.at t.more entry put0.heads goal0 goal.kind at0 more0)

  entries1 : entry_at V1 ≡ with_own (with_own (entry_at V) s.d (seat_place s) (places s.more) no_entry) t.e (goal_place t) (places t.more) entry
  entries1 =
      entries-puts V0 t.e t.h t.at t.more entry put0.heads goal0 goal.kind at0 more0 (small V sound s placed, tag-low name)
      ∙ ap (λ E. with_own E t.e (goal_place t) (places t.more) entry)
      (entries-puts V s.d s.h s.at s.more no_entry sound.inodes placed.is placed.kind placed.at (some-position V sound s placed) (omega arith, omega arith))

  -- ── the inodes ──

  source1 : V1.inode s.d ≡ used s.h
  source1 = put1.inode s.d ∙ placed.is

  inodes2 : AreInodes V2
  inodes2 = inodes-inode V1 s.d (used (with_moment s.h now)) put1.heads (inode-moment V1 s.d s.h now (put1.heads s.d s.h source1))

  goal2 : V2.inode t.e ≡ used t.h
  goal2 = inode-other V1 s.d t.e (used (with_moment s.h now)) (λ e. two (sym e)) ∙ put1.inode t.e ∙ goal.is

  inodes3 : AreInodes V3
  inodes3 = inodes-inode V2 t.e (used (with_moment t.h now)) inodes2 (inode-moment V2 t.e t.h now (inodes2 t.e t.h goal2))

  node3 : V3.inode s.n ≡ used s.g
  node3 = inode-other V2 t.e s.n (used (with_moment t.h now)) other ∙ inode-other V1 s.d s.n (used (with_moment s.h now)) apart ∙ put1.inode s.n ∙ placed.node

  pub inodes-moved : AreInodes (moved_view V s t name now)
  inodes-moved = inodes-inode V3 s.n (used (rehomed s.g (goal_home t name) now)) inodes3 (inode-rehomed V3 s.n s.g (goal_home t name) now (inodes3 s.n s.g node3))

  -- ── where the node hangs ──

  -- the entries without its own
  abbrev F : ℕ → ℕ → Entry
  F = with_own (entry_at V) s.d (seat_place s) (places s.more) no_entry

  pub hung-moved : IsHung (homes (moved_view V s t name now)) (entry_at (moved_view V s t name now))
  hung-moved = subst (λ H. IsHung H (entry_at V4)) (sym homes4) (subst (IsHung (with_home (homes V) s.n (Some (goal_home t name)))) (sym entries4) hangs)
    where
      entries2 : entry_at V2 ≡ entry_at V1
      entries2 = entries-inode V1 s.d (used (with_moment s.h now)) (λ place. entry_by-moment V1 s.h now s.h.kind place ∙ sym (ap (λ y. entry_of V1 y place) source1))

      entries3 : entry_at V3 ≡ entry_at V2
      entries3 = entries-inode V2 t.e (used (with_moment t.h now)) (λ place. entry_by-moment V2 t.h now t.h.kind place ∙ sym (ap (λ y. entry_of V2 y place) goal2))

      entries4 : entry_at V4 ≡ with_own (with_own (entry_at V) s.d (seat_place s) (places s.more) no_entry) t.e (goal_place t) (places t.more) entry
      entries4 =
          entries-inode V3 s.n (used (rehomed s.g (goal_home t name) now)) (λ place. entry_by-rehomed V3 s.g (goal_home t name) now s.g.kind place ∙ sym (ap (λ y. entry_of V3 y place) node3))
          ∙ entries3 ∙ entries2 ∙ entries1

      homes1 : homes V1 ≡ homes V
      homes1 = λ z. λ i. home_in (put1.inode i z)

      homes2 : homes V2 ≡ homes V
      homes2 =
          homes-inode V1 s.d (used (with_moment s.h now))
          ∙ ap (λ H. with_home H s.d (Some s.h.home)) homes1
          ∙ with_home-again (homes V) s.d (Some s.h.home) (ap home_in placed.is)

      homes3 : homes V3 ≡ homes V
      homes3 =
          homes-inode V2 t.e (used (with_moment t.h now))
          ∙ ap (λ H. with_home H t.e (Some t.h.home)) homes2
          ∙ with_home-again (homes V) t.e (Some t.h.home) (ap home_in goal.is)

      homes4 : homes V4 ≡ with_home (homes V) s.n (Some (goal_home t name))
      homes4 =
          homes-inode V3 s.n (used (rehomed s.g (goal_home t name) now))
          ∙ ap (λ H. with_home H s.n (Some (goal_home t name))) homes3

      -- it goes, and hangs again at the other place
      gone : IsHung (with_home (homes V) s.n None) F
      gone = cut-own V sound s placed

      -- the entries of the other directory are those of before
      kept : (place : ℕ) → F t.e place ≡ entry_at V t.e place
      kept place = own-other (entry_at V) s.d (seat_place s) (places s.more) no_entry t.e place (λ own. two (sym own.0))

      empty : (F t.e (goal_place t)).number ≡ 0
      empty = ap (λ (e : Entry). e.number) (kept (goal_place t)) ∙ goal.empty

      in_block : (p : Position) → p.q < 512 → p.j ≡ place_at p / 512
      in_block p low = omega (arith, low)

      second : HasSecondRoom F home (places t.more)
      second = by t.more goal.more
        where
          by : (o : Option Position) → IsGoalFor V t name o → HasSecondRoom F home (places o)
          by None block = subst (IsBlockFor (tag_of name)) (in_block t.at goal.at.low) block
          by (Some p) more = (
            subst (IsBlockFor (tag_of name)) (in_block p more.0.low) more.1,
            λ block. more.2 (subst (IsBlockFor (tag_of name)) (sym (in_block t.at goal.at.low)) block),
            ap (λ (e : Entry). e.number) (kept (place_at p)) ∙ more.3,
          )

      again : IsHung (with_home (with_home (homes V) s.n None) s.n (Some (goal_home t name))) (with_own F t.e (goal_place t) (places t.more) entry)
      again = hang (with_home (homes V) s.n None) F s.n (goal_home t name) (places t.more)
          (zero_gone (homes V) s.n (zero_free V sound)) (home-same (homes V) s.n None) placed.some empty second gone

      hangs : IsHung (with_home (homes V) s.n (Some (goal_home t name))) (with_own F t.e (goal_place t) (places t.more) entry)
      hangs = subst (λ H. IsHung H (with_own F t.e (goal_place t) (places t.more) entry)) (home-twice (homes V) s.n None (Some (goal_home t name))) again

  -- ── the tree ──

  pub tree-moved : tree_of (moved_view V s t name now) ≡ moved (tree_of V) (move_of V s t name) s.n (node_of V s.g) (goal_place t) now
  tree-moved =
      tree-rehomed V V3 (touch_place (touch (tree_of V) s.d now) t.e (goal_place t) now) s.n s.g (goal_home t name) (goal_home t name) now tree3 generation refl body
      ∙ ap (λ b. with_node (cond b (touch_place (tree_of V) s.d (goal_place t) now) (touch_place (touch (tree_of V) s.d now) t.e (goal_place t) now)) s.n
      (Some (rehung (record { directory = t.e; place = cond b s.g.home.place (goal_place t); name = name }) now (node_of V s.g))))
      (sym (ne_eqb s.d t.e two))
    where
      tree2 : tree_of V2 ≡ touch (tree_of V) s.d now
      tree2 = tree-touched V V1 s.d s.h now placed.is placed.kind put1.tree

      stays : (touch (tree_of V) s.d now).at t.e ≡ (tree_of V).at t.e
      stays = at_other (tree_of V) s.d t.e (record { generation = ((tree_of V).at s.d).generation; node = option_map (touched now) ((tree_of V).at s.d).node }) (λ e. two (sym e))

      tree3 : tree_of V3 ≡ touch_place (touch (tree_of V) s.d now) t.e (goal_place t) now
      tree3 = tree-opened V sound t name goal V2 (touch (tree_of V) s.d now) now tree2 stays

      generation : ((touch_place (touch (tree_of V) s.d now) t.e (goal_place t) now).at s.n).generation ≡ s.g.generation
      generation =
          same_generation (touch (tree_of V) s.d now) t.e s.n (option_map (opened (goal_place t) now) ((touch (tree_of V) s.d now).at t.e).node)
          ∙ same_generation (tree_of V) s.d s.n (option_map (touched now) ((tree_of V).at s.d).node)
          ∙ ap (λ (y : Seen). (slot_of V y).generation) placed.node

      body : body_of V3 s.g.kind s.g ≡ body_of V s.g.kind s.g
      body =
          body-inode V2 t.e (used (with_moment t.h now)) s.g s.g.kind
          ∙ body-inode V1 s.d (used (with_moment s.h now)) s.g s.g.kind
          ∙ body-same V V1 s.n s.g placed.node (put1.inode s.n ∙ placed.node) put1.tree

pub moving-shows : MovingShows
moving-shows V s t name now sound placed goal two other = (
  goal-free V sound t name goal s.d,
  record {
    tree = tree-moved V sound s placed t name goal two other now;
    inodes = inodes-moved V sound s placed t name goal two other now;
    hung = hung-moved V sound s placed t name goal two other now;
  },
)
