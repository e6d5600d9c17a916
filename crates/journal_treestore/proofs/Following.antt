-- A step of RENAME after another: over a node that is replaced, and in a block that the directory
-- gets.
use Rattle.std.proofs.Common.{◌≡◌, ◌≢◌, ℕ, ◌+◌, ◌*◌, ◌/◌, ◌<◌, Bool, true, false, cond, eqb, List, Option, Some, None, refl, sym, ap, subst, inl, inr, ◌∙◌, arith}
use Rattle.std.specs.Prelude.{option_map, nat_lt}
use Rattle.std.proofs.lemmas.Bool.{eq-eqb, ne_eqb, lt-ltb}
use Rattle.journal_tree.specs.declared.time.Time.{Time}
use Rattle.journal_tree.specs.Times.{time_of_names}
use Rattle.journal_tree.specs.Trees.{Body, Node, Slot, Tree, with_node}
use Rattle.journal_tree.specs.Trees.Body.{directory, file, link}
use Rattle.journal_tree.specs.Op.{MayTakePlace}
use Rattle.journal_tree.specs.Changes.{with_times, grown, grown_body, touched, touch, opened, touch_place}
use Rattle.journal_tree.specs.Renames.{Move, rehung, new_home, moved}
use Rattle.journal_tree.proofs.Changing.{grown_has, at_other}
use Rattle.journal_treestore.specs.declared.entry.Entry.{Entry}
use Rattle.journal_treestore.specs.Entries.{no_entry, tag_of}
use Rattle.journal_treestore.specs.Levels.{IsBlockFor}
use Rattle.journal_treestore.specs.Positions.{Position, place_at, IsPosition, with_puts}
use Rattle.journal_treestore.specs.Views.{Held, View, block_at, node_of, body_of, tree_of, entry_of, entry_at}
use Rattle.journal_treestore.specs.Views.Seen.{free, used}
use Rattle.journal_treestore.specs.Sound.{IsSoundView}
use Rattle.journal_treestore.specs.Steps.{Seat, seat_place, IsSecondAt, IsPlaced, IsSeat, IsGrowth, widened, widen, Shows}
use Rattle.journal_treestore.specs.Moves.{dropped_view, IsSecondRoom, renamed_view, Goal, goal_place, IsGoalFor, IsGoal, moved_view, renaming_of, move_of}
use Rattle.journal_treestore.proofs.Hanging.{IsOwn, own-here, own-other}
use Rattle.journal_treestore.proofs.Viewing.{inode-node, no_node_at}
use Rattle.journal_treestore.proofs.Indexing.{with_inode-blocks}
use Rattle.journal_treestore.proofs.Changing.{inode-other, directory-frame, position-at, places}
use Rattle.journal_treestore.proofs.Planting.{position-inside}
use Rattle.journal_treestore.proofs.Stepping.{block-kept, entries-step}
use Rattle.journal_treestore.proofs.Growing.{tree-grown, growing-stays-sound}
use Rattle.journal_treestore.proofs.Placed.{names, own-number, second-block, not_d}
use Rattle.journal_treestore.proofs.Dropping.{put-dropped, tree-dropped, entries-dropped, dropping-stays-sound}
use Rattle.journal_treestore.proofs.Renaming.{renaming-shows}
use Rattle.journal_treestore.proofs.Moving.{moving-shows}

-- ── over a node that is replaced ──

-- the places of its entries
abbrev pub goal_of : Seat → Goal
goal_of r = record { e = r.d; h = r.h; at = r.at; more = r.more }

-- the position at which its name is looked for
abbrev pub position_or : Position → Option Position → Position
position_or p None = p
position_or p (Some more) = more

abbrev pub name_position : Seat → Position
name_position r = position_or r.at r.more

module _ (V : View) (sound : IsSoundView V) (r : Seat) (seat : IsSeat V r) where
  -- another inode stays, with its blocks
  pub dropped-inode : (i : ℕ) → i ≢ r.n → (dropped_view V r).inode i ≡ V.inode i
  dropped-inode i other = inode-other (with_puts V r.at r.more no_entry) r.n i (free r.g.generation) other ∙ (put-dropped V sound r seat).inode i

  pub dropped-blocks : (i : ℕ) (g : Held) → V.inode i ≡ used g → (l : ℕ) → block_at (dropped_view V r) g l ≡ block_at V g l
  dropped-blocks i g is l =
      ap (λ f. f l) (with_inode-blocks (with_puts V r.at r.more no_entry) r.n (free r.g.generation) g)
      ∙ (put-dropped V sound r seat).blocks i g is l

  pub dropped-position : (i : ℕ) (g : Held) (p : Position) → V.inode i ≡ used g → IsPosition V g p → IsPosition (dropped_view V r) g p
  dropped-position i g p is at = record { is = directory-frame V (dropped_view V r) g g p.j (dropped-blocks i g is p.j) ∙ at.is; some = at.some; low = at.low }

  -- nothing is at its places
  pub dropped-empty : (place : ℕ) → IsOwn r.d (seat_place r) (places r.more) r.d place → (entry_at (dropped_view V r) r.d place).number ≡ 0
  dropped-empty place own =
      ap (λ E. (E r.d place).number) (entries-dropped V sound r seat)
      ∙ ap (λ (e : Entry). e.number) (own-here (entry_at V) r.d (seat_place r) (places r.more) no_entry r.d place own)

  not_own : r.n ≢ r.d
  not_own = not_d V sound r seat.placed

  -- and another node may hang there under its name
  pub dropped-goal : (name : List ℕ) → r.g.home.name ≡ name → IsGoal (dropped_view V r) (goal_of r) name
  dropped-goal name named = record {
    is = dropped-inode r.d (λ e. not_own (sym e)) ∙ seat.placed.is;
    kind = seat.placed.kind;
    at = dropped-position r.d r.h r.at seat.placed.is seat.placed.at;
    empty = dropped-empty (seat_place r) (refl, inl refl);
    more = by r.more refl seat.placed.more;
  }
    where
      by : (o : Option Position) → r.more ≡ o → IsSecondAt V r o → IsGoalFor (dropped_view V r) (goal_of r) name o
      by None is block = subst (λ n. IsBlockFor (tag_of n) r.at.j) named block
      by (Some p) is more = (
        dropped-position r.d r.h p seat.placed.is more.0,
        subst (λ n. IsBlockFor (tag_of n) p.j) named second.0,
        λ block. second.1 (subst (λ n. IsBlockFor (tag_of n) r.at.j) (sym named) block),
        dropped-empty (place_at p) (refl, inr (ap places is)),
      )
        where
          second : IsBlockFor (tag_of r.g.home.name) p.j × (IsBlockFor (tag_of r.g.home.name) r.at.j → ⊥)
          second = second-block V sound r seat.placed p is

  module _ (s : Seat) (placed : IsPlaced V s) (two : s.n ≢ r.n) where
    -- nothing hangs in it
    outside : s.d ≢ r.n
    outside e = placed.some (sym (names V sound s placed) ∙ ap (λ (e : Entry). e.number) (
        ap (λ d. entry_at V d (seat_place s)) e
        ∙ ap (λ y. entry_of V y (seat_place s)) seat.placed.node
        ∙ seat.bare (seat_place s)))

    -- another node hangs where it did, and is the same
    pub dropped-placed : IsPlaced (dropped_view V r) s
    dropped-placed = record {
      is = dropped-inode s.d outside ∙ placed.is;
      kind = placed.kind;
      some = placed.some;
      node = dropped-inode s.n two ∙ placed.node;
      directory = placed.directory;
      place = placed.place;
      at = dropped-position s.d s.h s.at placed.is placed.at;
      more = by s.more placed.more;
    }
      where
        apart : (place : ℕ) → (entry_at V s.d place).number ≡ s.n → IsOwn r.d (seat_place r) (places r.more) s.d place → ⊥
        apart place its own = two (sym its ∙ ap (λ d. (entry_at V d place).number) own.0 ∙ own-number V sound r seat.placed place own.1)

        by : (o : Option Position) → IsSecondAt V s o → IsSecondAt (dropped_view V r) s o
        by None block = block
        by (Some p) more = (
          dropped-position s.d s.h p placed.is more.0,
          more.1,
          ap (λ E. (E s.d (place_at p)).number) (entries-dropped V sound r seat)
              ∙ ap (λ (e : Entry). e.number) (own-other (entry_at V) r.d (seat_place r) (places r.more) no_entry s.d (place_at p) (apart (place_at p) more.2))
              ∙ more.2,
        )

    pub dropped-node : node_of (dropped_view V r) s.g ≡ node_of V s.g
    dropped-node = let e : Some (node_of (dropped_view V r) s.g) ≡ Some (node_of V s.g) = both in cc
      where
        both : Some (node_of (dropped_view V r) s.g) ≡ Some (node_of V s.g)
        both =
            sym (inode-node (dropped_view V r) s.n s.g (dropped-inode s.n two ∙ placed.node))
            ∙ ap (λ (T : Tree). (T.at s.n).node) (tree-dropped V sound r seat)
            ∙ ap (λ (s : Slot). s.node) (at_other (tree_of V) r.n s.n (record { generation = ((tree_of V).at r.n).generation; node = None }) two)
            ∙ inode-node V s.n s.g placed.node

    -- a node gets the name of one that is replaced in its directory
    pub replacing-renames : (more : Option Position) (name : List ℕ) (now : Time) → IsSecondRoom (dropped_view V r) s name more
        → Shows (renamed_view (dropped_view V r) s more name now) (moved (with_node (tree_of V) r.n None) (renaming_of V s name) s.n (node_of V s.g) s.g.home.place now)
    replacing-renames more name now room =
        let shows = renaming-shows (dropped_view V r) s more name now (dropping-stays-sound V r sound seat) dropped-placed room in
        record {
          tree =
              shows.tree
              ∙ ap (λ T. moved T (renaming_of V s name) s.n (node_of (dropped_view V r) s.g) s.g.home.place now) (tree-dropped V sound r seat)
              ∙ ap (λ z. moved (with_node (tree_of V) r.n None) (renaming_of V s name) s.n z s.g.home.place now) dropped-node;
          inodes = shows.inodes;
          hung = shows.hung;
        }

    -- and in another directory its place with it
    pub replacing-moves : (name : List ℕ) (now : Time) → r.g.home.name ≡ name → s.d ≢ r.d → s.n ≢ r.d
        → Shows (moved_view (dropped_view V r) s (goal_of r) name now) (moved (with_node (tree_of V) r.n None) (move_of V s (goal_of r) name) s.n (node_of V s.g) (seat_place r) now)
    replacing-moves name now named apart other =
        let shows = (moving-shows (dropped_view V r) s (goal_of r) name now (dropping-stays-sound V r sound seat) dropped-placed (dropped-goal name named) apart other).1 in
        record {
          tree =
              shows.tree
              ∙ ap (λ T. moved T (move_of V s (goal_of r) name) s.n (node_of (dropped_view V r) s.g) (seat_place r) now) (tree-dropped V sound r seat)
              ∙ ap (λ z. moved (with_node (tree_of V) r.n None) (move_of V s (goal_of r) name) s.n z (seat_place r) now) dropped-node;
          inodes = shows.inodes;
          hung = shows.hung;
        }

    -- it leaves room for the second entry of a node of its directory
    pub dropped-room : (name : List ℕ) → r.g.home.name ≡ name → s.d ≡ r.d → s.h ≡ r.h → (IsBlockFor (tag_of name) s.at.j → ⊥) → IsSecondRoom (dropped_view V r) s name (Some (name_position r))
    dropped-room name named in_d head needed = by r.more refl seat.placed.more
      where
        of : (p : Position) → IsPosition V r.h p → IsBlockFor (tag_of r.g.home.name) p.j → IsOwn r.d (seat_place r) (places r.more) r.d (place_at p) → IsSecondRoom (dropped_view V r) s name (Some p)
        of p at block own = (
          subst (λ h. IsPosition (dropped_view V r) h p) (sym head) (dropped-position r.d r.h p seat.placed.is at),
          subst (λ n. IsBlockFor (tag_of n) p.j) named block,
          needed,
          inl (ap (λ d. (entry_at (dropped_view V r) d (place_at p)).number) in_d ∙ dropped-empty (place_at p) own),
        )

        by : (o : Option Position) → r.more ≡ o → IsSecondAt V r o → IsSecondRoom (dropped_view V r) s name (Some (position_or r.at o))
        by None is block = of r.at seat.placed.at block (refl, inl refl)
        by (Some p) is more = of p more.0 (second-block V sound r seat.placed p is).0 (refl, inr (ap places is))

-- ── in a block that the directory gets ──

-- a directory that has the places of the block gets no more of them
grown-again : (place places : ℕ) → grown place (grown place places) ≡ grown place places
grown-again place places = by (nat_lt place places) refl
  where
    by : (t : Bool) → nat_lt place places ≡ t
        → cond (nat_lt place (cond t places (512 * (place / 512 + 1)))) (cond t places (512 * (place / 512 + 1))) (512 * (place / 512 + 1)) ≡ cond t places (512 * (place / 512 + 1))
    by true is = ap (λ t. cond t places (512 * (place / 512 + 1))) is
    by false is = ap (λ t. cond t (512 * (place / 512 + 1)) (512 * (place / 512 + 1))) (lt-ltb place (512 * (place / 512 + 1)) (omega arith))

body-again : (place : ℕ) (b : Body) → grown_body place (grown_body place b) ≡ grown_body place b
body-again place (directory places) = ap directory (grown-again place places)
body-again place (file bytes) = refl
body-again place (link text) = refl

pub node-again : (place : ℕ) (now : Time) (o : Option Node) → option_map (opened place now) (option_map (widened place) o) ≡ option_map (opened place now) o
node-again place now None = refl
node-again place now (Some x) = ap (λ (b : Body). Some (record { attributes = with_times x.attributes (time_of_names x.attributes now); home = x.home; body = b })) (body-again place x.body)

-- so that growing first and then moving a node there is one change
module _ (T : Tree) (d e place : ℕ) (now : Time) (two : d ≢ e) where
  abbrev wide : Slot
  wide = record { generation = (T.at e).generation; node = option_map (widened place) (T.at e).node }

  abbrev opened_slot : Slot → Slot
  opened_slot s = record { generation = s.generation; node = option_map (opened place now) s.node }

  abbrev touched_slot : Slot → Slot
  touched_slot s = record { generation = s.generation; node = option_map (touched now) s.node }

  -- the directory of the name that is taken is not the one that grows
  source-slot : touched_slot ((widen T e place).at d) ≡ touched_slot (T.at d)
  source-slot = ap (λ t. touched_slot (cond t wide (T.at d))) (ne_eqb d e two)

  goal-slot : opened_slot ((touch (widen T e place) d now).at e) ≡ opened_slot ((touch T d now).at e)
  goal-slot =
      ap (λ t. opened_slot (cond t (touched_slot ((widen T e place).at d)) ((widen T e place).at e))) (ne_eqb e d (λ same. two (sym same)))
      ∙ ap (λ t. opened_slot (cond t wide (T.at e))) (eq-eqb e e refl)
      ∙ ap (λ (o : Option Node). record { generation = (T.at e).generation; node = o }) (node-again place now (T.at e).node)
      ∙ sym (ap (λ t. opened_slot (cond t (touched_slot (T.at d)) (T.at e))) (ne_eqb e d (λ same. two (sym same))))

  names-widened : touch_place (touch (widen T e place) d now) e place now ≡ touch_place (touch T d now) e place now
  names-widened = λ z. record { numbers = T.numbers; blocks = T.blocks; at = λ i. by (eqb i e) (eqb i d) (T.at i) z }
    where
      by : (t u : Bool) (x : Slot) → cond t (opened_slot ((touch (widen T e place) d now).at e)) (cond u (touched_slot ((widen T e place).at d)) (cond t wide x))
          ≡ cond t (opened_slot ((touch T d now).at e)) (cond u (touched_slot (T.at d)) x)
      by true u x = goal-slot
      by false true x = source-slot
      by false false x = refl

  -- the tree of a move into a directory that has grown first
  pub moved-widened : (m : Move) (n : ℕ) (z : Node) → m.d ≡ d → m.e ≡ e → moved (widen T e place) m n z place now ≡ moved T m n z place now
  moved-widened m n z source goal = ap (λ X. with_node X n (Some (rehung (new_home m z place) now z))) names
    where
      choose : (U : Tree) → cond (eqb m.d m.e) (touch_place U m.d place now) (touch_place (touch U m.d now) m.e place now) ≡ touch_place (touch U d now) e place now
      choose U =
          ap (λ b. cond b (touch_place U m.d place now) (touch_place (touch U m.d now) m.e place now)) (ne_eqb m.d m.e (λ same. two (sym source ∙ same ∙ goal)))
          ∙ ap (λ d. touch_place (touch U d now) m.e place now) source
          ∙ ap (λ e. touch_place (touch U d now) e place now) goal

      names : cond (eqb m.d m.e) (touch_place (widen T e place) m.d place now) (touch_place (touch (widen T e place) m.d now) m.e place now) ≡ cond (eqb m.d m.e) (touch_place T m.d place now) (touch_place (touch T m.d now) m.e place now)
      names = choose (widen T e place) ∙ names-widened ∙ sym (choose T)

-- so is growing first and then giving a node of it another name
module _ (T : Tree) (d p q : ℕ) (x : Node) (now : Time) (is : (T.at d).node ≡ Some x) (low : (places : ℕ) → x.body ≡ directory places → q < places) where
  body-within : (b : Body) → x.body ≡ b → grown_body q (grown_body p b) ≡ grown_body p b
  body-within (file bytes) is = refl
  body-within (link text) is = refl
  body-within (directory places) is = ap directory (ap (λ t. cond t (grown p places) (512 * (q / 512 + 1))) (lt-ltb q (grown p places) inside))
    where
      inside : q < grown p places
      inside = let less = low places is in let more = (grown_has p places).1 in omega (arith, less, more)

  node-within : option_map (opened q now) (option_map (widened p) (T.at d).node) ≡ option_map (opened p now) (T.at d).node
  node-within =
      ap (λ o. option_map (opened q now) (option_map (widened p) o)) is
      ∙ ap (λ (b : Body). Some (record { attributes = with_times x.attributes (time_of_names x.attributes now); home = x.home; body = b })) (body-within x.body refl)
      ∙ sym (ap (option_map (opened p now)) is)

  abbrev first : Slot
  first = record { generation = (T.at d).generation; node = option_map (widened p) (T.at d).node }

  abbrev again : Slot → Slot
  again s = record { generation = s.generation; node = option_map (opened q now) s.node }

  names-within : touch_place (widen T d p) d q now ≡ touch_place T d p now
  names-within = λ z. record { numbers = T.numbers; blocks = T.blocks; at = λ i. by (eqb i d) (T.at i) z }
    where
      here : again ((widen T d p).at d) ≡ record { generation = (T.at d).generation; node = option_map (opened p now) (T.at d).node }
      here =
          ap (λ t. again (cond t first (T.at d))) (eq-eqb d d refl)
          ∙ ap (λ (o : Option Node). record { generation = (T.at d).generation; node = o }) node-within

      by : (t : Bool) (s : Slot) → cond t (again ((widen T d p).at d)) (cond t first s) ≡ cond t (record { generation = (T.at d).generation; node = option_map (opened p now) (T.at d).node }) s
      by true s = here
      by false s = refl

  pub renamed-widened : (m : Move) (n : ℕ) (z : Node) → m.d ≡ d → m.e ≡ d → z.home.place ≡ q → moved (widen T d p) m n z q now ≡ moved T m n z p now
  renamed-widened m n z source goal place =
      own (widen T d p) q
      ∙ ap (λ X. with_node X n (Some (rehung (record { directory = m.e; place = z.home.place; name = m.name }) now z))) names-within
      ∙ sym (own T p)
    where
      own : (U : Tree) (l : ℕ) → moved U m n z l now ≡ with_node (touch_place U d l now) n (Some (rehung (record { directory = m.e; place = z.home.place; name = m.name }) now z))
      own U l =
          ap (λ b. with_node (cond b (touch_place U m.d l now) (touch_place (touch U m.d now) m.e l now)) n (Some (rehung (record { directory = m.e; place = cond b z.home.place l; name = m.name }) now z))) (eq-eqb m.d m.e (source ∙ sym goal))
          ∙ ap (λ d. with_node (touch_place U d l now) n (Some (rehung (record { directory = m.e; place = z.home.place; name = m.name }) now z))) source

module _ (V W : View) (d : ℕ) (h k : Held) (j : ℕ) (sound : IsSoundView V) (growth : IsGrowth V W d h k j) where
  -- a place of the block may be taken at once, where nothing is
  pub further-free : (b q : ℕ) → q < 512 → (entry_at V d (512 * j + q)).number ≡ 0 → MayTakePlace (tree_of V) b d (Some (512 * j + q))
  further-free b q low none = (λ _. no_node_at V sound d (512 * j + q) h growth.step.is none, let f = growth.few in omega (arith, f, low))

  -- the entries are those of before
  entries-grown : entry_at W ≡ entry_at V
  entries-grown = entries-step V W d h k sound growth.step

  -- the directory keeps its positions, and each other too
  pub grown-own-position : (p : Position) → IsPosition V h p → IsPosition W k p
  grown-own-position p at =
      let own = position-at V h p at in
      record {
        is = directory-frame V W k h p.j (growth.kept p.j (λ e. at.some (sym own.0 ∙ e))) ∙ at.is;
        some = at.some;
        low = at.low;
      }

  pub grown-position : (i : ℕ) (g : Held) (p : Position) → i ≢ d → V.inode i ≡ used g → IsPosition V g p → IsPosition W g p
  grown-position i g p other is at = record { is = directory-frame V W g g p.j (block-kept V W d h k sound growth.step i g other is p.j) ∙ at.is; some = at.some; low = at.low }

  module _ (s : Seat) (placed : IsPlaced V s) (other : s.n ≢ d) where
    -- a node is the same
    pub grown-node : node_of W s.g ≡ node_of V s.g
    grown-node = let e : Some (node_of W s.g) ≡ Some (node_of V s.g) = both in cc
      where
        both : Some (node_of W s.g) ≡ Some (node_of V s.g)
        both =
            sym (inode-node W s.n s.g (growth.step.others s.n other ∙ placed.node))
            ∙ ap (λ (T : Tree). (T.at s.n).node) (tree-grown V W d h k j sound growth 0 (omega arith))
            ∙ ap (λ (s : Slot). s.node) (at_other (tree_of V) d s.n (record { generation = ((tree_of V).at d).generation; node = option_map (widened (512 * j + 0)) ((tree_of V).at d).node }) other)
            ∙ inode-node V s.n s.g placed.node

    -- and hangs where it did, in another directory or in this one
    pub grown-placed : s.d ≢ d → IsPlaced W s
    grown-placed two = record {
      is = growth.step.others s.d two ∙ placed.is;
      kind = placed.kind;
      some = placed.some;
      node = growth.step.others s.n other ∙ placed.node;
      directory = placed.directory;
      place = placed.place;
      at = grown-position s.d s.h s.at two placed.is placed.at;
      more = by s.more placed.more;
    }
      where
        by : (o : Option Position) → IsSecondAt V s o → IsSecondAt W s o
        by None block = block
        by (Some p) more = (grown-position s.d s.h p two placed.is more.0, more.1, ap (λ E. (E s.d (place_at p)).number) entries-grown ∙ more.2)

    abbrev pub grown_seat : Seat
    grown_seat = record { d = s.d; h = k; at = s.at; more = s.more; n = s.n; g = s.g }

    pub grown-own-placed : s.d ≡ d → IsPlaced W grown_seat
    grown-own-placed same = record {
      is = ap W.inode same ∙ growth.step.new;
      kind = growth.still;
      some = placed.some;
      node = growth.step.others s.n other ∙ placed.node;
      directory = placed.directory;
      place = placed.place;
      at = own s.at placed.at;
      more = by s.more placed.more;
    }
      where
        head : s.h ≡ h
        head = let e : used s.h ≡ used h = sym placed.is ∙ ap V.inode same ∙ growth.step.is in cc

        own : (p : Position) → IsPosition V s.h p → IsPosition W k p
        own p at = grown-own-position p (subst (λ h. IsPosition V h p) head at)

        by : (o : Option Position) → IsSecondAt V s o → IsSecondAt W grown_seat o
        by None block = block
        by (Some p) more = (own p more.0, more.1, ap (λ E. (E s.d (place_at p)).number) entries-grown ∙ more.2)

    -- a node goes to a directory that grows first
    pub further-moves : (t : Goal) (name : List ℕ) (now : Time) → s.d ≢ d → t.e ≡ d → t.at.j ≡ j → IsGoal W t name
        → Shows (moved_view W s t name now) (moved (tree_of V) (move_of V s t name) s.n (node_of V s.g) (goal_place t) now)
    further-moves t name now two goal_is block goal =
        let shows = (moving-shows W s t name now (growing-stays-sound V W d h k j sound growth) (grown-placed two) goal (λ e. two (e ∙ goal_is)) (λ e. other (e ∙ goal_is))).1 in
        record {
          tree =
              shows.tree
              ∙ ap (λ T. moved T (move_of W s t name) s.n (node_of W s.g) (goal_place t) now)
              (tree-grown V W d h k j sound growth t.at.q goal.at.low ∙ ap (λ j. widen (tree_of V) d (512 * j + t.at.q)) (sym block) ∙ ap (λ d. widen (tree_of V) d (goal_place t)) (sym goal_is))
              ∙ moved-widened (tree_of V) s.d t.e (goal_place t) now (λ e. two (e ∙ goal_is)) (move_of W s t name) s.n (node_of W s.g) refl refl
              ∙ ap (λ z. moved (tree_of V) (move_of V s t name) s.n z (goal_place t) now) grown-node;
          inodes = shows.inodes;
          hung = shows.hung;
        }

    -- a node gets another name in its directory, which grows first for its second entry
    pub further-renames : (p : Position) (name : List ℕ) (now : Time) → s.d ≡ d → p.j ≡ j → IsSecondRoom W grown_seat name (Some p)
        → Shows (renamed_view W grown_seat (Some p) name now) (moved (tree_of V) (renaming_of V s name) s.n (node_of V s.g) (place_at p) now)
    further-renames p name now same block room =
        let shows = renaming-shows W grown_seat (Some p) name now (growing-stays-sound V W d h k j sound growth) (grown-own-placed same) room in
        record {
          tree =
              shows.tree
              ∙ ap (λ T. moved T (renaming_of W grown_seat name) s.n (node_of W s.g) s.g.home.place now)
              (tree-grown V W d h k j sound growth p.q room.0.low ∙ ap (λ j. widen (tree_of V) d (512 * j + p.q)) (sym block) ∙ ap (λ d. widen (tree_of V) d (place_at p)) (sym same))
              ∙ renamed-widened (tree_of V) s.d (place_at p) s.g.home.place (node_of V s.h) now (inode-node V s.d s.h placed.is) within (renaming_of W grown_seat name) s.n (node_of W s.g) refl refl refl
              ∙ ap (λ z. moved (tree_of V) (renaming_of V s name) s.n z (place_at p) now) grown-node;
          inodes = shows.inodes;
          hung = shows.hung;
        }
      where
        within : (places : ℕ) → body_of V s.h.kind s.h ≡ directory places → s.g.home.place < places
        within places is =
            let e : directory (s.h.size / 8) ≡ directory places = sym (ap (λ kind. body_of V kind s.h) placed.kind) ∙ is in
            let q : s.h.size / 8 ≡ places = cc in
            subst (λ n. s.g.home.place < n) q (subst (λ p. p < s.h.size / 8) (sym placed.place) (position-inside V s.d s.h s.at (sound.inodes s.d s.h placed.is) placed.kind placed.at))
