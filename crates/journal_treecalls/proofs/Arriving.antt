-- A node goes where it was decided: the tree then, and the disk.
use Rattle.std.proofs.Common.{◌≡◌, ◌≢◌, ℕ, ◌+◌, ◌*◌, ◌/◌, ◌%◌, ◌<◌, ◌≤◌, max, Bool, true, false, cond, List, [], Option, Some, None, refl, sym, ap, subst, ◌⊎◌, inl, inr, ◌∙◌, arith}
use Rattle.std.proofs.lemmas.Bool.{cases_lt, eq-eqb, ne_eqb, lt-ltb, le-ltb}
use Rattle.journal_tree.specs.declared.time.Time.{Time}
use Rattle.journal_tree.specs.declared.reply.Kind.TheVariants.{Directory}
use Rattle.journal_tree.specs.declared.reply.Told.{Told}
use Rattle.journal_tree.specs.Times.{IsTime, time_of_names}
use Rattle.journal_tree.specs.Trees.{Tree, with_node}
use Rattle.journal_tree.specs.Changes.{with_times, touched, opened, grown_body}
use Rattle.journal_tree.specs.Calls.{told, kind_of, size_of}
use Rattle.journal_tree.specs.Renames.{moved, both_changed, both_unchanged}
use Rattle.journal_tree.specs.Op.{MayTakePlace}
use Rattle.journal_treestore.specs.declared.entry.Entry.{Entry}
use Rattle.journal_treestore.specs.Entries.{tag_of, no_entry}
use Rattle.journal_treestore.specs.Levels.{IsBlockFor}
use Rattle.journal_treestore.specs.Positions.{Position, IsPosition, with_put, with_puts}
use Rattle.journal_treestore.specs.declared.inode.Head.{Head}
use Rattle.journal_treestore.specs.Inodes.{name_from}
use Rattle.journal_treestore.specs.Views.{Held, View, zero_block, with_inode, held_of, body_of, node_of, tree_of, directory_block, entry_in, entry_by, entry_of, entry_at}
use Rattle.journal_treestore.specs.Views.Seen.{free, used}
use Rattle.journal_treestore.specs.Sound.{IsSoundInode, IsSoundView}
use Rattle.journal_treestore.specs.Steps.{with_moment, Seat, seat_place, IsPlaced, IsSeat, IsGrowth, IsSameForm, Shows}
use Rattle.journal_treestore.specs.Moves.{dropped_view, rehomed, IsSecondRoom, Goal, goal_place, IsGoal, renamed_view, moved_view, renaming_of, move_of}
use Rattle.journal_treestore.proofs.Viewing.{inode-node}
use Rattle.journal_treestore.proofs.Changing.{one_inode, position-at}
use Rattle.journal_treestore.proofs.Planting.{position-inside}
use Rattle.journal_treestore.proofs.Placed.{not_d, some-position}
use Rattle.journal_treestore.proofs.Renaming.{renaming-shows}
use Rattle.journal_treestore.proofs.Moving.{moving-shows}
use Rattle.journal_treestore.proofs.Stepping.{entries-step}
use Rattle.journal_treestore.proofs.Following.{position_or as store_position, goal_of, dropped-room, replacing-renames, replacing-moves, further-free, further-moves, further-renames}
use Rattle.journal_treecalls.specs.declared.node.Record.{Record}
use Rattle.journal_treecalls.specs.declared.search.Hit.{Hit}
use Rattle.journal_treecalls.specs.declared.growth.Growth.{Growth}
use Rattle.journal_treecalls.specs.declared.room.FreePlace.{FreePlace}
use Rattle.journal_treecalls.specs.declared.room.NewPlace.{NewPlace}
use Rattle.journal_treecalls.specs.declared.room.NewPlace.TheVariants.{Here, Further}
use Rattle.journal_treecalls.specs.declared.renaming.Side.{Side}
use Rattle.journal_treecalls.specs.declared.renaming.Way.{Way}
use Rattle.journal_treecalls.specs.declared.renaming.Destination.{Destination}
use Rattle.journal_treecalls.specs.declared.renaming.Destination.TheVariants.{Own, OwnOver, Onto, Into}
use Rattle.journal_treecalls.specs.Targets.{held, told_of, IsHit}
use Rattle.journal_treecalls.specs.Seats.{home_position, second_position, seat_of}
use Rattle.journal_treecalls.specs.Names.{moved as moved_head}
use Rattle.journal_treecalls.specs.Rooms.{HasPlaceOf, HasGrowth, grown_head, with_growth, further_number, here_number}
use Rattle.journal_treecalls.specs.Sizes.{changed_told}
use Rattle.journal_treecalls.specs.Renamings.{IsSide, AreSides, HasNode, move_in, node_in, NeedsSecond, found_place, handed, place_at, without, IsApart, IsReplaced, IsSecondPlace, IsDestination, both_same}
use Rattle.journal_treecalls.specs.Renamings.IsSecondPlace.{as_before, at_free}
use Rattle.journal_treecalls.specs.Moves.{changed_both, named_entry, with_first, heads_of, position_or, position_over, free_position, with_new_name, without_node, without_over, with_move, AreTimes}
use Rattle.journal_treecalls.proofs.Cases.{told-is}
use Rattle.journal_treecalls.proofs.Searching.{own, entry-of-block}
use Rattle.journal_treecalls.proofs.Seating.{found-is, hit-names, seat-is}
use Rattle.journal_treecalls.proofs.Growths.{growth-step, growth-position}
use Rattle.journal_treecalls.proofs.Reordering.{inode-twice, inode-around, puts-inode, named-inode, far-position, far-positions, puts-first, named-first}

-- What a move shows: the place that it takes may be taken, the disk has the tree, and what is told
-- is so
pub record Arrives (V W : View) (w : Way) (hit : Hit) (to : Destination) (name new_name : List ℕ) (now : Time) : Type 0 where
  pub may : MayTakePlace (tree_of V) w.source.number w.goal.number (handed hit to)
  pub shows : Shows W (moved (without (tree_of V) to) (move_in V w new_name) hit.number (node_in V hit name) (place_at hit to) now)
  pub form : IsSameForm V W
  pub tells : changed_both w (heads_of w hit to now) ≡ both_changed (move_in V w new_name) (place_at hit to) now

-- ── what is told of a directory ──

module _ (V : View) (sound : IsSoundView V) (s : Side) (is : IsSide V s) (now : Time) where
  inode : IsSoundInode V s.number (held s.inode)
  inode = sound.inodes s.number (held s.inode) is.is

  pub side-told : told s.number (node_of V (held s.inode)) ≡ told_of s.number s.inode.head
  side-told = told-is V s.number (held s.inode) inode

  pub side-touched : told s.number (touched now (node_of V (held s.inode))) ≡ told_of s.number (moved_head s.inode.head now)
  side-touched = λ i. record {
    number = s.number;
    kind = (side-told i).kind;
    size = (side-told i).size;
    attributes = with_times s.inode.head.attributes (time_of_names s.inode.head.attributes now);
  }

  same-kind : (place : ℕ) → kind_of (grown_body place (body_of V s.inode.head.kind (held s.inode))) ≡ kind_of (body_of V s.inode.head.kind (held s.inode))
  same-kind place = ap (λ k. kind_of (grown_body place (body_of V k (held s.inode)))) is.kind ∙ sym (ap (λ k. kind_of (body_of V k (held s.inode))) is.kind)

  -- a name is put at a place that it has
  pub side-opened : (place : ℕ) → place < s.inode.head.size / 8 → told s.number (opened place now (node_of V (held s.inode))) ≡ told_of s.number (moved_head s.inode.head now)
  side-opened place low = λ i. record {
    number = s.number;
    kind = (same-kind place ∙ ap (λ (t : Told). t.kind) side-told) i;
    size = (same-size ∙ ap (λ (t : Told). t.size) side-told) i;
    attributes = with_times s.inode.head.attributes (time_of_names s.inode.head.attributes now);
  }
    where
      same-size : size_of (grown_body place (body_of V s.inode.head.kind (held s.inode))) ≡ size_of (body_of V s.inode.head.kind (held s.inode))
      same-size =
          ap (λ k. size_of (grown_body place (body_of V k (held s.inode)))) is.kind
          ∙ ap (λ b. 8 * cond b (s.inode.head.size / 8) (512 * (place / 512 + 1))) (lt-ltb place (s.inode.head.size / 8) low)
          ∙ sym (ap (λ k. size_of (body_of V k (held s.inode))) is.kind)

  -- and in a block that it gets
  pub side-grown : (g : Growth) → told s.number (opened (512 * g.j) now (node_of V (held s.inode))) ≡ told_of s.number (moved_head (grown_head s.inode.head g) now)
  side-grown g = λ i. record {
    number = s.number;
    kind = (same-kind (512 * g.j) ∙ ap (λ (t : Told). t.kind) side-told) i;
    size = grown-size i;
    attributes = with_times s.inode.head.attributes (time_of_names s.inode.head.attributes now);
  }
    where
      grown-size : size_of (grown_body (512 * g.j) (body_of V s.inode.head.kind (held s.inode))) ≡ max s.inode.head.size (4096 * (g.j + 1))
      grown-size =
          ap (λ k. size_of (grown_body (512 * g.j) (body_of V k (held s.inode)))) is.kind
          ∙ by (cases_lt (512 * g.j) (s.inode.head.size / 8))
        where
          by : (512 * g.j < s.inode.head.size / 8) ⊎ (s.inode.head.size / 8 ≤ 512 * g.j) → size_of (grown_body (512 * g.j) (body_of V Directory (held s.inode))) ≡ max s.inode.head.size (4096 * (g.j + 1))
          by (inl inside) =
              ap (λ b. 8 * cond b (s.inode.head.size / 8) (512 * (512 * g.j / 512 + 1))) (lt-ltb (512 * g.j) (s.inode.head.size / 8) inside)
              ∙ (let w = inode.whole is.kind in let e = w.1 in let q : 8 * (s.inode.head.size / 8) ≡ max s.inode.head.size (4096 * (g.j + 1)) = omega (arith, e, inside) in q)
          by (inr after) =
              ap (λ b. 8 * cond b (s.inode.head.size / 8) (512 * (512 * g.j / 512 + 1))) (le-ltb (512 * g.j) (s.inode.head.size / 8) after)
              ∙ (let w = inode.whole is.kind in let e = w.1 in let q : 8 * (512 * (512 * g.j / 512 + 1)) ≡ max s.inode.head.size (4096 * (g.j + 1)) = omega (arith, e, after) in q)

  pub side-time : IsTime s.inode.head.attributes.ctime
  side-time = (sound.fit.nodes s.number (node_of V (held s.inode)) (inode-node V s.number (held s.inode) is.is)).ctime

-- both directories are told as they are
pub same-tells : (V : View) → IsSoundView V → (w : Way) → AreSides V w → (now : Time) (new_name : List ℕ) → both_same w ≡ both_unchanged (move_in V w new_name)
same-tells V sound w sides now new_name = λ i. record {
  source = record { before = sym (side-told V sound w.source sides.source now) i; after = sym (side-told V sound w.source sides.source now) i };
  goal = record { before = sym (side-told V sound w.goal sides.goal now) i; after = sym (side-told V sound w.goal sides.goal now) i };
}

-- ── a place that is free ──

module _ (V : View) (sound : IsSoundView V) (s : Side) (is : IsSide V s) where
  module _ (tag : ℕ) (p : FreePlace) (has : HasPlaceOf V s.inode.head tag p) where
    pub free-is : IsPosition V (held s.inode) (record { j = p.j; q = p.at; b = p.block })
    free-is = record {
      is = own V s.number s.inode [] sound is.is is.kind p.j ∙ sym has.is.block;
      some = λ z. has.is.there (sym has.is.block ∙ z);
      low = has.is.low;
    }

    pub free-empty : (entry_at V s.number (512 * p.j + p.at)).number ≡ 0
    free-empty = ap (λ (e : Entry). e.number) (entry-of-block V s.number s.inode [] sound is.is is.kind p.j p.at has.is.there has.is.low) ∙ has.is.empty

  -- the directory has none in a block that it has not
  pub hole-empty : (tag : ℕ) (g : Growth) → HasGrowth V s.inode.head tag g → (q : ℕ) → q < 512 → (entry_at V s.number (512 * g.j + q)).number ≡ 0
  hole-empty tag g has q low = ap (λ (e : Entry). e.number) (
      ap (λ y. entry_of V y (512 * g.j + q)) is.is
      ∙ ap (λ k. entry_by V k (held s.inode) (512 * g.j + q)) is.kind
      ∙ ap (λ l. entry_in V (directory_block V (held s.inode) l) ((512 * g.j + q) % 512)) (let e : (512 * g.j + q) / 512 ≡ g.j = omega (arith, low) in e)
      ∙ ap (λ b. entry_in V b ((512 * g.j + q) % 512)) (own V s.number s.inode [] sound is.is is.kind g.j ∙ has.block.none))

-- ── each destination ──

module _ (V : View) (sound : IsSoundView V) (w : Way) (hit : Hit) (name new_name : List ℕ) (now : Time) (node : HasNode V w name hit) where
  abbrev s : Seat
  s = seat_of V w.source.number w.source.inode hit name

  placed : IsPlaced V s
  placed = seat-is V w.source.number w.source.inode name hit sound node.sides.source.is node.sides.source.kind node.found

  abbrev entry : Entry
  entry = named_entry hit.number new_name

  source-told : told_of w.source.number w.source.inode.head ≡ told w.source.number (node_of V (held w.source.inode))
  source-told = sym (side-told V sound w.source node.sides.source now)

  source-touched : told_of w.source.number (moved_head w.source.inode.head now) ≡ told w.source.number (touched now (node_of V (held w.source.inode)))
  source-touched = sym (side-touched V sound w.source node.sides.source now)

  goal-told : told_of w.goal.number w.goal.inode.head ≡ told w.goal.number (node_of V (held w.goal.inode))
  goal-told = sym (side-told V sound w.goal node.sides.goal now)

  -- ── within one directory ──

  module _ (one : w.source.number ≡ w.goal.number) where
    same-inode : held w.source.inode ≡ held w.goal.inode
    same-inode = one_inode V w.source.number w.goal.number (held w.source.inode) (held w.goal.inode) node.sides.source.is node.sides.goal.is one

    one-tells : (place : ℕ) (source goal : Head) → told w.source.number (opened place now (node_of V (held w.source.inode))) ≡ told_of w.source.number source → told w.goal.number (opened place now (node_of V (held w.goal.inode))) ≡ told_of w.goal.number goal
        → record { source = changed_told w.source.number w.source.inode.head source; goal = changed_told w.goal.number w.goal.inode.head goal } ≡ both_changed (move_in V w new_name) place now
    one-tells place source goal first second = λ i. record {
      source = record {
        before = source-told i;
        after = (sym first ∙ sym (ap (λ b. told w.source.number (cond b (opened place now (node_of V (held w.source.inode))) (touched now (node_of V (held w.source.inode))))) (eq-eqb w.source.number w.goal.number one))) i;
      };
      goal = record { before = goal-told i; after = sym second i };
    }

    -- its own place is one of the directory
    inside : hit.head.place < w.source.inode.head.size / 8
    inside = subst (λ p. p < w.source.inode.head.size / 8) (sym placed.place) (position-inside V w.source.number (held w.source.inode) (home_position V w.source.inode.head hit) (sound.inodes w.source.number (held w.source.inode) node.sides.source.is) node.sides.source.kind placed.at)

    inside-goal : hit.head.place < w.goal.inode.head.size / 8
    inside-goal = subst (λ (h : Held). hit.head.place < h.size / 8) same-inode inside

    own-tells : record { source = changed_told w.source.number w.source.inode.head (moved_head w.source.inode.head now); goal = changed_told w.goal.number w.goal.inode.head (moved_head w.goal.inode.head now) }
        ≡ both_changed (move_in V w new_name) hit.head.place now
    own-tells = one-tells hit.head.place (moved_head w.source.inode.head now) (moved_head w.goal.inode.head now)
        (side-opened V sound w.source node.sides.source now hit.head.place inside) (side-opened V sound w.goal node.sides.goal now hit.head.place inside-goal)

    own-may : MayTakePlace (tree_of V) w.source.number w.goal.number (Some hit.head.place)
    own-may = (
      (λ two. absurd (two one)),
      let low = (position-at V (held w.source.inode) (home_position V w.source.inode.head hit) placed.at).1 in omega (arith, low),
    )

    -- the tree is that of a move to the same directory
    one-tree : (T : Tree) (place : ℕ) → moved T (renaming_of V s new_name) hit.number (node_in V hit name) place now ≡ moved T (move_in V w new_name) hit.number (node_in V hit name) place now
    one-tree T place = ap (λ e. moved T (record { d = w.source.number; x = node_of V (held w.source.inode); e = e; y = node_of V (held w.goal.inode); name = new_name }) hit.number (node_in V hit name) place now) one

    own-alone : NeedsSecond (tag_of new_name) hit false → Arrives V (renamed_view V s None new_name now) w hit (Own None) name new_name now
    own-alone block =
        let shows = renaming-shows V s None new_name now sound placed block in
        record {
          may = own-may;
          shows = record { tree = shows.tree ∙ one-tree (tree_of V) hit.head.place; inodes = shows.inodes; hung = shows.hung };
          form = record { numbers = refl; first_data = refl; data_blocks = refl };
          tells = own-tells;
        }

    -- with a second entry
    module _ (needs : NeedsSecond (tag_of new_name) hit true) where
      abbrev IsRoom : NewPlace → Type 0
      IsRoom (Here p) = IsSecondRoom V s new_name (Some (record { j = p.j; q = p.at; b = p.block }))
      IsRoom (Further g) = HasGrowth V w.source.inode.head (tag_of new_name) g

      room-is : (p : NewPlace) → IsSecondPlace V w.source.inode.head (tag_of new_name) hit p → IsRoom p
      room-is _ (as_before block) = (
        found-is V w.source.number w.source.inode name hit sound node.sides.source.is node.sides.source.kind node.found,
        block,
        needs,
        inr (hit-names V w.source.number w.source.inode name hit sound node.sides.source.is node.sides.source.kind node.found),
      )
      room-is (Further g) (at_free _ has) = has
      room-is (Here p) (at_free _ has) = (
        free-is V sound w.source node.sides.source (tag_of new_name) p has,
        has.block_for,
        needs,
        inl (free-empty V sound w.source node.sides.source (tag_of new_name) p has),
      )

      own-here : (p : FreePlace) → IsSecondRoom V s new_name (Some (record { j = p.j; q = p.at; b = p.block }))
          → Arrives V (renamed_view V s (Some (record { j = p.j; q = p.at; b = p.block })) new_name now) w hit (Own (Some (Here p))) name new_name now
      own-here p room =
          let shows = renaming-shows V s (Some (record { j = p.j; q = p.at; b = p.block })) new_name now sound placed room in
          record {
            may = own-may;
            shows = record { tree = shows.tree ∙ one-tree (tree_of V) hit.head.place; inodes = shows.inodes; hung = shows.hung };
            form = record { numbers = refl; first_data = refl; data_blocks = refl };
            tells = own-tells;
          }

      -- in a block that the directory gets
      module _ (g : Growth) (has : HasGrowth V w.source.inode.head (tag_of new_name) g) where
        abbrev K : Held
        K = held_of (grown_head w.source.inode.head g) (name_from w.source.inode.bytes)

        abbrev W : View
        W = with_inode (with_growth V w.source.number g zero_block) w.source.number (used (held_of (grown_head w.source.inode.head g) (name_from w.source.inode.bytes)))

        abbrev p : Position
        p = record { j = g.j; q = 0; b = further_number g }

        growth : IsGrowth V W w.source.number (held w.source.inode) K g.j
        growth = growth-step V w.source.number w.source.inode (tag_of new_name) g sound node.sides.source.is node.sides.source.kind has

        grown-room : IsSecondRoom W (record { d = w.source.number; h = K; at = home_position V w.source.inode.head hit; more = second_position hit; n = hit.number; g = held_of hit.head name }) new_name (Some p)
        grown-room = (
          growth-position V w.source.number w.source.inode (tag_of new_name) g sound node.sides.source.is node.sides.source.kind has 0 (omega arith),
          has.block.block_for,
          needs,
          inl (ap (λ E. (E w.source.number (512 * g.j + 0)).number) (entries-step V W w.source.number (held w.source.inode) K sound growth.step)
              ∙ hole-empty V sound w.source node.sides.source (tag_of new_name) g has 0 (omega arith)),
        )

        grown-view : with_move V w hit (Own (Some (Further g))) new_name now ≡ renamed_view W (record { d = w.source.number; h = K; at = home_position V w.source.inode.head hit; more = second_position hit; n = hit.number; g = held_of hit.head name }) (Some p) new_name now
        grown-view =
            ap (λ U. with_inode (with_inode U w.source.number (used (with_moment K now))) hit.number (used (rehomed (held_of hit.head name) (record { directory = hit.head.directory; place = hit.head.place; name = new_name }) now)))
            (named-first V w.source.number w.source.inode (tag_of new_name) g sound node.sides.source.is node.sides.source.kind has (home_position V w.source.inode.head hit) (second_position hit) entry
            (far-position V w.source.number w.source.inode (tag_of new_name) g sound node.sides.source.is node.sides.source.kind has w.source.number (held w.source.inode) (home_position V w.source.inode.head hit) node.sides.source.is placed.at)
            (far-positions V w.source.number w.source.inode (tag_of new_name) g sound node.sides.source.is node.sides.source.kind has w.source.number (held w.source.inode) (second_position hit) node.sides.source.is (some-position V sound s placed)))
            ∙ ap (λ U. with_inode U hit.number (used (rehomed (held_of hit.head name) (record { directory = hit.head.directory; place = hit.head.place; name = new_name }) now)))
            (sym (
            ap (λ U. with_inode U w.source.number (used (with_moment K now))) (named-inode (with_growth V w.source.number g zero_block) w.source.number (used K) (home_position V w.source.inode.head hit) (second_position hit) (Some p) entry)
            ∙ inode-twice (with_new_name (with_growth V w.source.number g zero_block) (home_position V w.source.inode.head hit) (second_position hit) (Some p) entry) w.source.number (used K) (used (with_moment K now))))

        own-further : Arrives V (renamed_view W (record { d = w.source.number; h = K; at = home_position V w.source.inode.head hit; more = second_position hit; n = hit.number; g = held_of hit.head name }) (Some p) new_name now) w hit (Own (Some (Further g))) name new_name now
        own-further =
            let shows = further-renames V W w.source.number (held w.source.inode) K g.j sound growth s placed (not_d V sound s placed) p new_name now refl refl grown-room in
            record {
              may = ((λ two. absurd (two one)), let low = has.block.few in omega (arith, low));
              shows = record {
                tree = shows.tree ∙ one-tree (tree_of V) (512 * g.j + 0) ∙ ap (λ l. moved (tree_of V) (move_in V w new_name) hit.number (node_in V hit name) l now) (let e : 512 * g.j + 0 ≡ 512 * g.j = omega arith in e);
                inodes = shows.inodes;
                hung = shows.hung;
              };
              form = record { numbers = growth.step.form.numbers; first_data = growth.step.form.first_data; data_blocks = growth.step.form.data_blocks };
              tells = one-tells (512 * g.j) (moved_head (grown_head w.source.inode.head g) now) (moved_head (grown_head w.goal.inode.head g) now) (side-grown V sound w.source node.sides.source now g) (side-grown V sound w.goal node.sides.goal now g);
            }

  -- ── in another directory ──

  apart-tells : w.source.number ≢ w.goal.number → (place : ℕ) (head : Head) → told w.goal.number (opened place now (node_of V (held w.goal.inode))) ≡ told_of w.goal.number head
      → record { source = changed_told w.source.number w.source.inode.head (moved_head w.source.inode.head now); goal = changed_told w.goal.number w.goal.inode.head head } ≡ both_changed (move_in V w new_name) place now
  apart-tells apart place head is = λ i. record {
    source = record {
      before = source-told i;
      after = (source-touched ∙ sym (ap (λ b. told w.source.number (cond b (opened place now (node_of V (held w.source.inode))) (touched now (node_of V (held w.source.inode))))) (ne_eqb w.source.number w.goal.number apart))) i;
    };
    goal = record { before = goal-told i; after = sym is i };
  }

  -- at a place that it has
  module _ (apart : IsApart w hit) (p : FreePlace) (has : HasPlaceOf V w.goal.inode.head (tag_of new_name) p) where
    abbrev t : Goal
    t = record { e = w.goal.number; h = held w.goal.inode; at = record { j = p.j; q = p.at; b = p.block }; more = None }

    t_is : IsGoal V t new_name
    t_is = record {
      is = node.sides.goal.is;
      kind = node.sides.goal.kind;
      at = free-is V sound w.goal node.sides.goal (tag_of new_name) p has;
      empty = free-empty V sound w.goal node.sides.goal (tag_of new_name) p has;
      more = has.block_for;
    }

    here-arrives : Arrives V (moved_view V s t new_name now) w hit (Into (Here p)) name new_name now
    here-arrives =
        let shown = moving-shows V s t new_name now sound placed t_is apart.apart apart.other in
        record {
          may = shown.0;
          shows = shown.1;
          form = record { numbers = refl; first_data = refl; data_blocks = refl };
          tells = apart-tells apart.apart (here_number p) (moved_head w.goal.inode.head now) (
              side-opened V sound w.goal node.sides.goal now (here_number p) (position-inside V w.goal.number (held w.goal.inode) (record { j = p.j; q = p.at; b = p.block }) (sound.inodes w.goal.number (held w.goal.inode) node.sides.goal.is) node.sides.goal.kind
              (free-is V sound w.goal node.sides.goal (tag_of new_name) p has)));
        }

  -- at the first place of a block that it gets
  module _ (apart : IsApart w hit) (g : Growth) (has : HasGrowth V w.goal.inode.head (tag_of new_name) g) where
    abbrev K2 : Held
    K2 = held_of (grown_head w.goal.inode.head g) (name_from w.goal.inode.bytes)

    abbrev W2 : View
    W2 = with_inode (with_growth V w.goal.number g zero_block) w.goal.number (used (held_of (grown_head w.goal.inode.head g) (name_from w.goal.inode.bytes)))

    abbrev t2 : Goal
    t2 = record { e = w.goal.number; h = held_of (grown_head w.goal.inode.head g) (name_from w.goal.inode.bytes); at = record { j = g.j; q = 0; b = further_number g }; more = None }

    growth2 : IsGrowth V W2 w.goal.number (held w.goal.inode) K2 g.j
    growth2 = growth-step V w.goal.number w.goal.inode (tag_of new_name) g sound node.sides.goal.is node.sides.goal.kind has

    t2_is : IsGoal W2 t2 new_name
    t2_is = record {
      is = growth2.step.new;
      kind = node.sides.goal.kind;
      at = growth-position V w.goal.number w.goal.inode (tag_of new_name) g sound node.sides.goal.is node.sides.goal.kind has 0 (omega arith);
      empty = ap (λ E. (E w.goal.number (512 * g.j + 0)).number) (entries-step V W2 w.goal.number (held w.goal.inode) K2 sound growth2.step)
          ∙ hole-empty V sound w.goal node.sides.goal (tag_of new_name) g has 0 (omega arith);
      more = has.block.block_for;
    }

    first_is : 512 * g.j ≡ 512 * g.j + 0
    first_is = omega arith

    further-view : with_move V w hit (Into (Further g)) new_name now ≡ moved_view W2 s t2 new_name now
    further-view =
        ap (λ U. with_inode (with_inode (with_inode U w.source.number (used (with_moment (held w.source.inode) now))) w.goal.number (used (with_moment K2 now))) hit.number (used (rehomed (held_of hit.head name) (record { directory = w.goal.number; place = 512 * g.j; name = new_name }) now)))
        (puts-first V w.goal.number w.goal.inode (tag_of new_name) g sound node.sides.goal.is node.sides.goal.kind has (home_position V w.source.inode.head hit) (second_position hit) no_entry entry
        (far-position V w.goal.number w.goal.inode (tag_of new_name) g sound node.sides.goal.is node.sides.goal.kind has w.source.number (held w.source.inode) (home_position V w.source.inode.head hit) node.sides.source.is placed.at)
        (far-positions V w.goal.number w.goal.inode (tag_of new_name) g sound node.sides.goal.is node.sides.goal.kind has w.source.number (held w.source.inode) (second_position hit) node.sides.source.is (some-position V sound s placed)))
        ∙ (λ i. with_inode (
        sym (
        ap (λ U. with_inode (with_inode U w.source.number (used (with_moment (held w.source.inode) now))) w.goal.number (used (with_moment K2 now)))
        (ap (λ U. with_puts U (record { j = g.j; q = 0; b = further_number g }) None entry) (puts-inode (with_growth V w.goal.number g zero_block) w.goal.number (used K2) (home_position V w.source.inode.head hit) (second_position hit) no_entry)
        ∙ puts-inode (with_puts (with_growth V w.goal.number g zero_block) (home_position V w.source.inode.head hit) (second_position hit) no_entry) w.goal.number (used K2) (record { j = g.j; q = 0; b = further_number g }) None entry)
        ∙ inode-around (with_puts (with_puts (with_growth V w.goal.number g zero_block) (home_position V w.source.inode.head hit) (second_position hit) no_entry) (record { j = g.j; q = 0; b = further_number g }) None entry) w.source.number w.goal.number (used K2)
        (used (with_moment (held w.source.inode) now)) (used (with_moment K2 now))) i)
        hit.number (used (rehomed (held_of hit.head name) (record { directory = w.goal.number; place = first_is i; name = new_name }) now)))

    further-arrives : Arrives V (moved_view W2 s t2 new_name now) w hit (Into (Further g)) name new_name now
    further-arrives =
        let shows = further-moves V W2 w.goal.number (held w.goal.inode) K2 g.j sound growth2 s placed apart.other t2 new_name now apart.apart refl refl t2_is in
        record {
          may = subst (λ p. MayTakePlace (tree_of V) w.source.number w.goal.number (Some p)) (sym first_is)
              (further-free V W2 w.goal.number (held w.goal.inode) K2 g.j sound growth2 w.source.number 0 (omega arith) (hole-empty V sound w.goal node.sides.goal (tag_of new_name) g has 0 (omega arith)));
          shows = record {
            tree = shows.tree ∙ ap (λ p. moved (tree_of V) (move_in V w new_name) hit.number (node_in V hit name) p now) (sym first_is);
            inodes = shows.inodes;
            hung = shows.hung;
          };
          form = record { numbers = growth2.step.form.numbers; first_data = growth2.step.form.first_data; data_blocks = growth2.step.form.data_blocks };
          tells = apart-tells apart.apart (512 * g.j) (moved_head (grown_head w.goal.inode.head g) now) (side-grown V sound w.goal node.sides.goal now g);
        }

  -- ── over a node ──

  module _ (over : Hit) (replaced : IsReplaced V w hit new_name over) where
    abbrev r : Seat
    r = seat_of V w.goal.number w.goal.inode over new_name

    over_placed : IsPlaced V r
    over_placed = seat-is V w.goal.number w.goal.inode new_name over sound node.sides.goal.is node.sides.goal.kind replaced.found

    r_is : IsSeat V r
    r_is = record { placed = over_placed; bare = replaced.bare }

    two : hit.number ≢ over.number
    two e = replaced.other (sym e)

    module _ (one : w.source.number ≡ w.goal.number) where
      own-over-view : (more : Option Position)
          → with_inode (with_inode (with_inode (with_new_name (without_over V w over) (home_position V w.source.inode.head hit) (second_position hit) more entry) over.number (free over.head.generation))
          w.source.number (used (with_moment (held w.source.inode) now))) hit.number (used (rehomed (held_of hit.head name) (record { directory = hit.head.directory; place = hit.head.place; name = new_name }) now))
          ≡ renamed_view (dropped_view V r) s more new_name now
      own-over-view more = ap (λ U. with_inode (with_inode U w.source.number (used (with_moment (held w.source.inode) now))) hit.number (used (rehomed (held_of hit.head name) (record { directory = hit.head.directory; place = hit.head.place; name = new_name }) now)))
          (sym (named-inode (without_over V w over) over.number (free over.head.generation) (home_position V w.source.inode.head hit) (second_position hit) more entry))

      same-position : (p : Position) (o : Option Position) → store_position p o ≡ position_or p o
      same-position p None = refl
      same-position p (Some q) = refl

      over-room : (needs : Bool) → NeedsSecond (tag_of new_name) hit needs → IsSecondRoom (dropped_view V r) s new_name (position_over V w over needs)
      over-room false block = block
      over-room true needs = subst (λ p. IsSecondRoom (dropped_view V r) s new_name (Some p)) (same-position (home_position V w.goal.inode.head over) (second_position over))
          (dropped-room V sound r r_is s placed two new_name refl one (same-inode one) needs)

      own-over-arrives : (needs : Bool) → NeedsSecond (tag_of new_name) hit needs → Arrives V (renamed_view (dropped_view V r) s (position_over V w over needs) new_name now) w hit (OwnOver over needs) name new_name now
      own-over-arrives needs second =
          let shows = replacing-renames V sound r r_is s placed two (position_over V w over needs) new_name now (over-room needs second) in
          record {
            may = tt;
            shows = record { tree = shows.tree ∙ one-tree one (with_node (tree_of V) over.number None) hit.head.place; inodes = shows.inodes; hung = shows.hung };
            form = record { numbers = refl; first_data = refl; data_blocks = refl };
            tells = own-tells one;
          }

    module _ (apart : IsApart w hit) where
      place_is : over.head.place ≡ seat_place r
      place_is = over_placed.place

      onto-is : with_move V w hit (Onto over) new_name now ≡ moved_view (dropped_view V r) s (goal_of r) new_name now
      onto-is =
          (λ i. with_inode (with_inode (with_inode (
          sym (
          ap (λ U. with_puts U (home_position V w.goal.inode.head over) (second_position over) entry) (puts-inode (without_over V w over) over.number (free over.head.generation) (home_position V w.source.inode.head hit) (second_position hit) no_entry)
          ∙ puts-inode (with_puts (without_over V w over) (home_position V w.source.inode.head hit) (second_position hit) no_entry) over.number (free over.head.generation) (home_position V w.goal.inode.head over) (second_position over) entry) i)
          w.source.number (used (with_moment (held w.source.inode) now))) w.goal.number (used (with_moment (held w.goal.inode) now)))
          hit.number (used (rehomed (held_of hit.head name) (record { directory = w.goal.number; place = place_is i; name = new_name }) now)))

      onto-arrives : Arrives V (moved_view (dropped_view V r) s (goal_of r) new_name now) w hit (Onto over) name new_name now
      onto-arrives =
          let shows = replacing-moves V sound r r_is s placed two new_name now refl apart.apart apart.other in
          record {
            may = tt;
            shows = record {
              tree = shows.tree ∙ ap (λ p. moved (with_node (tree_of V) over.number None) (move_in V w new_name) hit.number (node_in V hit name) p now) (sym place_is);
              inodes = shows.inodes;
              hung = shows.hung;
            };
            form = record { numbers = refl; first_data = refl; data_blocks = refl };
            tells = apart-tells apart.apart over.head.place (moved_head w.goal.inode.head now) (
                side-opened V sound w.goal node.sides.goal now over.head.place (subst (λ p. p < w.goal.inode.head.size / 8) (sym place_is)
                (position-inside V w.goal.number (held w.goal.inode) (home_position V w.goal.inode.head over) (sound.inodes w.goal.number (held w.goal.inode) node.sides.goal.is) node.sides.goal.kind over_placed.at)));
          }

  -- ── wherever it goes ──

  module _ (W : View) where
    pub arrives : (to : Destination) → IsDestination V w hit new_name to → W ≡ with_move V w hit to new_name now → Arrives V W w hit to name new_name now
    arrives (Own None) is goes = subst (λ W. Arrives V W w hit (Own None) name new_name now) (sym goes) (own-alone is.0 is.1)
    arrives (Own (Some (Here p))) is goes = subst (λ W. Arrives V W w hit (Own (Some (Here p))) name new_name now) (sym goes) (own-here is.0 is.1.0 p (room-is is.0 is.1.0 (Here p) is.1.1))
    arrives (Own (Some (Further g))) is goes = subst (λ W. Arrives V W w hit (Own (Some (Further g))) name new_name now) (sym (goes ∙ grown-view is.0 is.1.0 g (room-is is.0 is.1.0 (Further g) is.1.1)))
        (own-further is.0 is.1.0 g (room-is is.0 is.1.0 (Further g) is.1.1))
    arrives (OwnOver over needs) is goes = subst (λ W. Arrives V W w hit (OwnOver over needs) name new_name now) (sym (goes ∙ own-over-view over is.1.1 is.0 (position_over V w over needs))) (own-over-arrives over is.1.1 is.0 needs is.1.0)
    arrives (Onto over) is goes = subst (λ W. Arrives V W w hit (Onto over) name new_name now) (sym (goes ∙ onto-is over is.1 is.0)) (onto-arrives over is.1 is.0)
    arrives (Into (Here p)) is goes = subst (λ W. Arrives V W w hit (Into (Here p)) name new_name now) (sym goes) (here-arrives is.0 p is.1)
    arrives (Into (Further g)) is goes = subst (λ W. Arrives V W w hit (Into (Further g)) name new_name now) (sym (goes ∙ further-view is.0 g is.1)) (further-arrives is.0 g is.1)

  -- a sound disk has times
  pub times-are : AreTimes w hit
  times-are = (
    side-time V sound w.source node.sides.source now,
    (side-time V sound w.goal node.sides.goal now, (sound.fit.nodes hit.number (node_of V (held_of hit.head name)) (inode-node V hit.number (held_of hit.head name) node.found.is.inside.is.inode)).ctime),
  )
