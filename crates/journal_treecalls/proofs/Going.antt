-- The writes of RENAME, put together.
use Rattle.std.proofs.Common.{◌≡◌, ℕ, ◌*◌, ◌/◌, ◌%◌, ◌≤◌, arith, Bool, true, false, cond, List, [], ◌∷◌, length, Option, Some, None, refl, sym, ap, subst, ◌∙◌}
use Rattle.std.specs.Prelude.{option_map}
use Rattle.journal_tree.specs.declared.time.Time.{Time}
use Rattle.journal_tree.specs.declared.reply.Renamed.{Renamed}
use Rattle.journal_tree.specs.Times.{IsTime}
use Rattle.journal_treestore.specs.declared.entry.Entry.{Entry}
use Rattle.journal_treestore.specs.declared.inode.Head.{Head}
use Rattle.journal_treestore.specs.Entries.{with_entry, no_entry}
use Rattle.journal_treestore.specs.Positions.{Position, with_put, with_puts}
use Rattle.journal_treestore.specs.Views.{View, zero_block, with_inode}
use Rattle.journal_treestore.specs.Views.Seen.{free}
use Rattle.journal_treestore.specs.Moves.{without_second}
use Rattle.journal_treecalls.specs.declared.search.Hit.{Hit}
use Rattle.journal_treecalls.specs.declared.seats.BlockNumbers.{BlockNumbers}
use Rattle.journal_treecalls.specs.declared.seats.EntryPlace.{EntryPlace}
use Rattle.journal_treecalls.specs.declared.seats.EntryPlaces.{EntryPlaces}
use Rattle.journal_treecalls.specs.declared.growth.Growth.{Growth}
use Rattle.journal_treecalls.specs.declared.room.FreePlace.{FreePlace}
use Rattle.journal_treecalls.specs.declared.room.NewPlace.TheVariants.{Here, Further}
use Rattle.journal_treecalls.specs.declared.renaming.Way.{Way}
use Rattle.journal_treecalls.specs.declared.renaming.Destination.TheVariants.{Own, OwnOver, Onto, Into}
use Rattle.journal_treecalls.specs.declared.changes.PlacedEntry.{PlacedEntry}
use Rattle.journal_treecalls.specs.declared.moving.Moved.{Moved}
use Rattle.journal_treecalls.specs.Disks.{Write, inode_seen, written, Learns}
use Rattle.journal_treecalls.specs.Disks.Write.{inode_write}
use Rattle.journal_treecalls.specs.Names.{moved}
use Rattle.journal_treecalls.specs.Seats.{HasBlocks, is_at_home, places_of, second_place, position_of, home_position, second_position}
use Rattle.journal_treecalls.specs.Reaches.{reach_count}
use Rattle.journal_treecalls.specs.Overlays.{LaysBlocks, laying_at}
use Rattle.journal_treecalls.specs.Rooms.{grown_head, here_number, with_growth}
use Rattle.journal_treecalls.specs.Changes.{with_changes, block_count, PutsChanges}
use Rattle.journal_treecalls.specs.Moves.{rehomed_head, IsMovedHeads, changed_both, with_two, with_three, PutsTwo, PutsThree, named_entry, placed, placed_if, entry_place, name_in, second_over, AreEntriesOf, own_place, with_first, PutsGrowth, heads_of, source_position, goal_position, position_or, free_position, position_over, with_new_name, without_node, without_over, with_move, AreTimes, MovesTo}
use Rattle.journal_treecalls.proofs.Putting.{over-blocks, onto-blocks}

-- ── where the entries of a node lie ──

second-is : (hit : Hit) → option_map position_of (second_place hit) ≡ second_position hit
second-is hit = by (is_at_home hit)
  where
    by : (t : Bool) → option_map position_of (cond t None (Some (record { j = hit.j; block = hit.block; at = hit.at }))) ≡ cond t None (Some (record { j = hit.j; q = hit.at; b = hit.block }))
    by true = refl
    by false = refl

pub entries-are : (V : View) (h : Head) (hit : Hit) (numbers : BlockNumbers) (p : EntryPlaces) → HasBlocks V h numbers → p ≡ places_of numbers hit → AreEntriesOf V h hit p
entries-are V h hit numbers p has is = record {
  home = ap (λ (p : EntryPlaces). position_of p.home) is ∙ (λ z. record { j = hit.head.place / 512; q = hit.head.place % 512; b = has (hit.head.place / 512) z });
  second = ap (λ (p : EntryPlaces). p.second) is;
}

module _ (V : View) (h : Head) (hit : Hit) (p : EntryPlaces) (are : AreEntriesOf V h hit p) where
  seconds-are : option_map position_of p.second ≡ second_position hit
  seconds-are = ap (option_map position_of) are.second ∙ second-is hit

-- ── several entries at once ──

named-changes : (V : View) (home : EntryPlace) (old new : Option EntryPlace) (e : Entry)
    → with_changes V (placed_if old no_entry ∷ Some (placed home e) ∷ placed_if new e ∷ []) ≡ with_new_name V (position_of home) (option_map position_of old) (option_map position_of new) e
named-changes V home None None e = refl
named-changes V home None (Some q) e = refl
named-changes V home (Some p) None e = refl
named-changes V home (Some p) (Some q) e = refl

grown-changes : (V : View) (home : EntryPlace) (old : Option EntryPlace) (e : Entry)
    → with_changes V (placed_if old no_entry ∷ Some (placed home e) ∷ []) ≡ with_new_name V (position_of home) (option_map position_of old) None e
grown-changes V home None e = refl
grown-changes V home (Some p) e = refl

gone-changes : (V : View) (home : EntryPlace) (old : Option EntryPlace) → with_changes V (Some (placed home no_entry) ∷ placed_if old no_entry ∷ []) ≡ with_puts V (position_of home) (option_map position_of old) no_entry
gone-changes V home None = refl
gone-changes V home (Some p) = refl

here-changes : (V : View) (home : EntryPlace) (old : Option EntryPlace) (p : FreePlace) (e : Entry)
    → with_changes V (Some (placed home no_entry) ∷ placed_if old no_entry ∷ placed_if (entry_place (Some p)) e ∷ []) ≡ with_put (with_puts V (position_of home) (option_map position_of old) no_entry) p.block p.at e
here-changes V home None p e = refl
here-changes V home (Some q) p e = refl

over-changes : (V : View) (other : EntryPlace) (more : Option EntryPlace) (home : EntryPlace) (old new : Option EntryPlace) (e : Entry)
    → with_changes V (Some (placed other no_entry) ∷ placed_if more no_entry ∷ placed_if old no_entry ∷ Some (placed home e) ∷ placed_if new e ∷ [])
    ≡ with_new_name (with_puts V (position_of other) (option_map position_of more) no_entry) (position_of home) (option_map position_of old) (option_map position_of new) e
over-changes V other None home None None e = refl
over-changes V other None home None (Some q) e = refl
over-changes V other None home (Some p) None e = refl
over-changes V other None home (Some p) (Some q) e = refl
over-changes V other (Some m) home None None e = refl
over-changes V other (Some m) home None (Some q) e = refl
over-changes V other (Some m) home (Some p) None e = refl
over-changes V other (Some m) home (Some p) (Some q) e = refl

onto-changes : (V : View) (other : EntryPlace) (more : Option EntryPlace) (home : EntryPlace) (old : Option EntryPlace) (e : Entry)
    → with_changes V (Some (placed other no_entry) ∷ placed_if more no_entry ∷ Some (placed home no_entry) ∷ placed_if old no_entry ∷ Some (placed other e) ∷ placed_if more e ∷ [])
    ≡ with_puts (with_puts (with_puts V (position_of other) (option_map position_of more) no_entry) (position_of home) (option_map position_of old) no_entry) (position_of other) (option_map position_of more) e
onto-changes V other None home None e = refl
onto-changes V other None home (Some p) e = refl
onto-changes V other (Some m) home None e = refl
onto-changes V other (Some m) home (Some p) e = refl

-- a block that a directory gets has the entry
pub first-put : (old new : View → Type 0) (before after : List Write) (d : ℕ) (g : Growth) (e : Entry) (zeros block bytes : List ℕ) → zeros ≡ zero_block → block ≡ with_entry zeros 0 e → bytes ≡ block
    → LaysBlocks old new before after d (laying_at g.change bytes) (reach_count g.change.reach) → PutsGrowth old new before after d g e
first-put old new before after d g e zeros block bytes none put same k = record {
  same = k.same;
  view = λ V. k.is V ∙ ap (with_growth (written before V) d g) (same ∙ put ∙ ap (λ v. with_entry v 0 e) none);
}

-- how many blocks are written over a node
pub over-few : (ws : List Write) (other : EntryPlaces) (needs : Bool) (none e : Entry) (a b c d f : Option PlacedEntry) → a ≡ Some (placed other.home none) → b ≡ placed_if other.second none → f ≡ placed_if (second_over other needs) e
    → length ws ≤ block_count (a ∷ b ∷ c ∷ d ∷ f ∷ []) → length ws ≤ 4
over-few ws other needs none e a b c d f a_is b_is f_is few =
    let same : block_count (a ∷ b ∷ c ∷ d ∷ f ∷ []) ≡ block_count (Some (placed other.home none) ∷ placed_if other.second none ∷ c ∷ d ∷ placed_if (second_over other needs) e ∷ []) = (λ i. block_count (a_is i ∷ b_is i ∷ c ∷ d ∷ f_is i ∷ [])) in
    let four = over-blocks other.home other.second needs none e c d in
    omega (arith, few, same, four)

pub onto-few : (ws : List Write) (other : EntryPlaces) (none e : Entry) (a b c d f g : Option PlacedEntry) → a ≡ Some (placed other.home none) → b ≡ placed_if other.second none → f ≡ Some (placed other.home e) → g ≡ placed_if other.second e
    → length ws ≤ block_count (a ∷ b ∷ c ∷ d ∷ f ∷ g ∷ []) → length ws ≤ 4
onto-few ws other none e a b c d f g a_is b_is f_is g_is few =
    let same : block_count (a ∷ b ∷ c ∷ d ∷ f ∷ g ∷ []) ≡ block_count (Some (placed other.home none) ∷ placed_if other.second none ∷ c ∷ d ∷ Some (placed other.home e) ∷ placed_if other.second e ∷ []) = (λ i. block_count (a_is i ∷ b_is i ∷ c ∷ d ∷ f_is i ∷ g_is i ∷ [])) in
    let four = onto-blocks other.home other.second none e c d in
    omega (arith, few, same, four)

-- ── the inodes ──

-- They are those after the move
module _ (w : Way) (hit : Hit) (d place : ℕ) (now : Time) (heads : Moved) (is : IsMovedHeads w hit d place now heads) where
  heads-are : AreTimes w hit → heads ≡ record { source = moved w.source.inode.head now; goal = moved w.goal.inode.head now; node = rehomed_head hit.head d place now }
  heads-are times = λ i. record { source = is.source times.0 i; goal = is.goal times.1.0 i; node = is.node times.1.1 i }

-- ── within one directory ──

free-is : (second : Option FreePlace) → option_map position_of (entry_place second) ≡ free_position second
free-is None = refl
free-is (Some p) = refl

own-move : (V : View) (w : Way) (hit : Hit) (second : Option FreePlace) (name : List ℕ) (now : Time) → with_move V w hit (Own (own_place second)) name now
    ≡ with_two (with_new_name V (source_position V w hit) (second_position hit) (free_position second) (named_entry hit.number name)) w hit.number
    (record { source = moved w.source.inode.head now; goal = moved w.goal.inode.head now; node = rehomed_head hit.head hit.head.directory hit.head.place now }) name
own-move V w hit None name now = refl
own-move V w hit (Some p) name now = refl

own-heads : (w : Way) (hit : Hit) (second : Option FreePlace) (now : Time) → heads_of w hit (Own (own_place second)) now
    ≡ record { source = moved w.source.inode.head now; goal = moved w.goal.inode.head now; node = rehomed_head hit.head hit.head.directory hit.head.place now }
own-heads w hit None now = refl
own-heads w hit (Some p) now = refl

module _ (first read put last : View → Type 0) (w : Way) (hit : Hit) (name : List ℕ) (now : Time) (e : Entry) (entry_is : e ≡ named_entry hit.number name) (old : EntryPlaces)
    (l : Learns first read (λ V. AreEntriesOf V w.source.inode.head hit old)) where
  -- the tag of the entry, the second entry that goes, and the one that comes
  module _ (places : List Write) (done : List Write) (reply : Renamed) where
    pub own-named : (second : Option FreePlace) (a b c : Option PlacedEntry) (heads : Moved) → a ≡ placed_if old.second no_entry → b ≡ Some (placed old.home e) → c ≡ placed_if (entry_place second) e
        → PutsChanges read put places (a ∷ b ∷ c ∷ []) → IsMovedHeads w hit hit.head.directory hit.head.place now heads → PutsTwo put last places done w hit.number heads name reply
        → MovesTo first last done w hit (Own (own_place second)) name now reply
    own-named second a b c heads a_is b_is c_is puts is two = record {
      same = λ V m. l.before V (puts.same V (two.same V m));
      view = λ times V m.
          two.view V
          ∙ (λ i. with_two (entries V (two.same V m) i) w hit.number (heads-are w hit hit.head.directory hit.head.place now heads is times i) name)
          ∙ sym (own-move V w hit second name now);
      told = λ times. two.told ∙ ap (changed_both w) (heads-are w hit hit.head.directory hit.head.place now heads is times ∙ sym (own-heads w hit second now));
    }
      where
        entries : (V : View) → put V → written places V ≡ with_new_name V (source_position V w hit) (second_position hit) (free_position second) (named_entry hit.number name)
        entries V m =
            let are = l.now V (puts.same V m) in
            puts.view V m
            ∙ (λ i. with_changes V (a_is i ∷ b_is i ∷ c_is i ∷ []))
            ∙ named-changes V old.home old.second (entry_place second) e
            ∙ (λ i. with_new_name V (are.home i) (seconds-are V w.source.inode.head hit old are i) (free-is second i) (entry_is i))

    -- in a block that the directory gets
    pub own-grown : (grown : View → Type 0) (g : Growth) (a b : Option PlacedEntry) (owned : List Write) (heads : Moved) (source goal before after : Head) → a ≡ placed_if old.second no_entry → b ≡ Some (placed old.home e)
        → PutsChanges read put places (a ∷ b ∷ []) → PutsGrowth put grown places owned w.source.number g e → IsMovedHeads w hit hit.head.directory hit.head.place now heads
        → source ≡ grown_head w.source.inode.head g → goal ≡ grown_head w.goal.inode.head g → (IsTime source.attributes.ctime → before ≡ moved source now) → (IsTime goal.attributes.ctime → after ≡ moved goal now)
        → PutsTwo grown last owned done w hit.number (record { source = before; goal = after; node = heads.node }) name reply
        → MovesTo first last done w hit (Own (Some (Further g))) name now reply
    own-grown grown g a b owned heads source goal before after a_is b_is puts growth is source_is goal_is before_is after_is two = record {
      same = λ V m. l.before V (puts.same V (growth.same V (two.same V m)));
      view = λ times V m.
          two.view V
          ∙ (λ i. with_two ((growth.view V ∙ (λ j. with_first (entries V (growth.same V (two.same V m)) j) w.source.number g (entry_is j))) i) w hit.number (heads-grown times i) name);
      told = λ times. two.told ∙ ap (changed_both w) (heads-grown times);
    }
      where
        entries : (V : View) → put V → written places V ≡ with_new_name V (source_position V w hit) (second_position hit) None (named_entry hit.number name)
        entries V m =
            let are = l.now V (puts.same V m) in
            puts.view V m
            ∙ (λ i. with_changes V (a_is i ∷ b_is i ∷ []))
            ∙ grown-changes V old.home old.second e
            ∙ (λ i. with_new_name V (are.home i) (seconds-are V w.source.inode.head hit old are i) None (entry_is i))

        heads-grown : AreTimes w hit → record { source = before; goal = after; node = heads.node } ≡ heads_of w hit (Own (Some (Further g))) now
        heads-grown times = λ i. record {
          source = (before_is (subst (λ (h : Head). IsTime h.attributes.ctime) (sym source_is) times.0) ∙ ap (λ (h : Head). moved h now) source_is) i;
          goal = (after_is (subst (λ (h : Head). IsTime h.attributes.ctime) (sym goal_is) times.1.0) ∙ ap (λ (h : Head). moved h now) goal_is) i;
          node = is.node times.1.1 i;
        }

    -- ── to another directory ──

    -- at a place that it has
    pub into-here : (p : FreePlace) (place : ℕ) (a b c : Option PlacedEntry) (heads : Moved) → place ≡ here_number p → a ≡ Some (placed old.home no_entry) → b ≡ placed_if old.second no_entry → c ≡ placed_if (entry_place (Some p)) e
        → PutsChanges read put places (a ∷ b ∷ c ∷ []) → IsMovedHeads w hit w.goal.number place now heads → PutsThree put last places done w hit.number heads name reply
        → MovesTo first last done w hit (Into (Here p)) name now reply
    into-here p place a b c heads place_is a_is b_is c_is puts is three = record {
      same = λ V m. l.before V (puts.same V (three.same V m));
      view = λ times V m.
          three.view V
          ∙ (λ i. with_three (entries V (three.same V m) i) w hit.number (heads-here times i) name);
      told = λ times. three.told ∙ ap (changed_both w) (heads-here times);
    }
      where
        entries : (V : View) → put V → written places V ≡ with_put (without_node V w hit) p.block p.at (named_entry hit.number name)
        entries V m =
            let are = l.now V (puts.same V m) in
            puts.view V m
            ∙ (λ i. with_changes V (a_is i ∷ b_is i ∷ c_is i ∷ []))
            ∙ here-changes V old.home old.second p e
            ∙ (λ i. with_put (with_puts V (are.home i) (seconds-are V w.source.inode.head hit old are i) no_entry) p.block p.at (entry_is i))

        heads-here : AreTimes w hit → heads ≡ heads_of w hit (Into (Here p)) now
        heads-here times = heads-are w hit w.goal.number place now heads is times ∙ (λ i. record { source = moved w.source.inode.head now; goal = moved w.goal.inode.head now; node = rehomed_head hit.head w.goal.number (place_is i) now })

    -- at the first place of a block that it gets
    pub into-further : (grown : View → Type 0) (g : Growth) (place : ℕ) (a b : Option PlacedEntry) (owned : List Write) (heads : Moved) (goal after : Head) → place ≡ 512 * g.j → a ≡ Some (placed old.home no_entry) → b ≡ placed_if old.second no_entry
        → PutsChanges read put places (a ∷ b ∷ []) → PutsGrowth put grown places owned w.goal.number g e → IsMovedHeads w hit w.goal.number place now heads
        → goal ≡ grown_head w.goal.inode.head g → (IsTime goal.attributes.ctime → after ≡ moved goal now)
        → PutsThree grown last owned done w hit.number (record { source = heads.source; goal = after; node = heads.node }) name reply
        → MovesTo first last done w hit (Into (Further g)) name now reply
    into-further grown g place a b owned heads goal after place_is a_is b_is puts growth is goal_is after_is three = record {
      same = λ V m. l.before V (puts.same V (growth.same V (three.same V m)));
      view = λ times V m.
          three.view V
          ∙ (λ i. with_three ((growth.view V ∙ (λ j. with_first (entries V (growth.same V (three.same V m)) j) w.goal.number g (entry_is j))) i) w hit.number (heads-further times i) name);
      told = λ times. three.told ∙ ap (changed_both w) (heads-further times);
    }
      where
        entries : (V : View) → put V → written places V ≡ without_node V w hit
        entries V m =
            let are = l.now V (puts.same V m) in
            puts.view V m
            ∙ (λ i. with_changes V (a_is i ∷ b_is i ∷ []))
            ∙ gone-changes V old.home old.second
            ∙ (λ i. with_puts V (are.home i) (seconds-are V w.source.inode.head hit old are i) no_entry)

        heads-further : AreTimes w hit → record { source = heads.source; goal = after; node = heads.node } ≡ heads_of w hit (Into (Further g)) now
        heads-further times = λ i. record {
          source = is.source times.0 i;
          goal = (after_is (subst (λ (h : Head). IsTime h.attributes.ctime) (sym goal_is) times.1.0) ∙ ap (λ (h : Head). moved h now) goal_is) i;
          node = (is.node times.1.1 ∙ ap (λ p. rehomed_head hit.head w.goal.number p now) place_is) i;
        }

    -- ── over a node ──

    module _ (more freed : View → Type 0) (over : Hit) (other : EntryPlaces) (k : Learns read more (λ V. AreEntriesOf V w.goal.inode.head over other))
        (less : List Write) (bytes : List ℕ) (same : (V : View) → freed V → put V) (freed_is : less ≡ inode_write over.number bytes ∷ places) (free_is : inode_seen bytes ≡ free over.head.generation) where
      freed-view : (U : View) (V : View) → written places V ≡ U → written less V ≡ with_inode U over.number (free over.head.generation)
      freed-view U V is = ap (λ ws. written ws V) freed_is ∙ (λ i. with_inode (is i) over.number (free_is i))

      over-is : (V : View) (needs : Bool) → AreEntriesOf V w.goal.inode.head over other → option_map position_of (second_over other needs) ≡ position_over V w over needs
      over-is V false are = refl
      over-is V true are = ap Some (at other.second ∙ (λ i. position_or (are.home i) (seconds-are V w.goal.inode.head over other are i)))
        where
          at : (o : Option EntryPlace) → position_of (name_in other.home o) ≡ position_or (position_of other.home) (option_map position_of o)
          at None = refl
          at (Some p) = refl

      -- of its directory
      pub own-over : (needs : Bool) (a b c d f : Option PlacedEntry) (heads : Moved) → a ≡ Some (placed other.home no_entry) → b ≡ placed_if other.second no_entry → c ≡ placed_if old.second no_entry → d ≡ Some (placed old.home e)
          → f ≡ placed_if (second_over other needs) e → PutsChanges more put places (a ∷ b ∷ c ∷ d ∷ f ∷ []) → IsMovedHeads w hit hit.head.directory hit.head.place now heads
          → PutsTwo freed last less done w hit.number heads name reply → MovesTo first last done w hit (OwnOver over needs) name now reply
      own-over needs a b c d f heads a_is b_is c_is d_is f_is puts is two = record {
        same = λ V m. l.before V (k.before V (puts.same V (same V (two.same V m))));
        view = λ times V m.
            two.view V
            ∙ (λ i. with_two (freed-view _ V (entries V (same V (two.same V m))) i) w hit.number (heads-are w hit hit.head.directory hit.head.place now heads is times i) name);
        told = λ times. two.told ∙ ap (changed_both w) (heads-are w hit hit.head.directory hit.head.place now heads is times);
      }
        where
          entries : (V : View) → put V → written places V ≡ with_new_name (without_over V w over) (source_position V w hit) (second_position hit) (position_over V w over needs) (named_entry hit.number name)
          entries V m =
              let are = l.now V (k.before V (puts.same V m)) in
              let its = k.now V (puts.same V m) in
              puts.view V m
              ∙ (λ i. with_changes V (a_is i ∷ b_is i ∷ c_is i ∷ d_is i ∷ f_is i ∷ []))
              ∙ over-changes V other.home other.second old.home old.second (second_over other needs) e
              ∙ (λ i. with_new_name (with_puts V (its.home i) (seconds-are V w.goal.inode.head over other its i) no_entry) (are.home i) (seconds-are V w.source.inode.head hit old are i) (over-is V needs its i) (entry_is i))

      -- of another directory
      pub onto-over : (a b c d f g : Option PlacedEntry) (heads : Moved) → a ≡ Some (placed other.home no_entry) → b ≡ placed_if other.second no_entry → c ≡ Some (placed old.home no_entry) → d ≡ placed_if old.second no_entry
          → f ≡ Some (placed other.home e) → g ≡ placed_if other.second e → PutsChanges more put places (a ∷ b ∷ c ∷ d ∷ f ∷ g ∷ []) → IsMovedHeads w hit w.goal.number over.head.place now heads
          → PutsThree freed last less done w hit.number heads name reply → MovesTo first last done w hit (Onto over) name now reply
      onto-over a b c d f g heads a_is b_is c_is d_is f_is g_is puts is three = record {
        same = λ V m. l.before V (k.before V (puts.same V (same V (three.same V m))));
        view = λ times V m.
            three.view V
            ∙ (λ i. with_three (freed-view _ V (entries V (same V (three.same V m))) i) w hit.number (heads-are w hit w.goal.number over.head.place now heads is times i) name);
        told = λ times. three.told ∙ ap (changed_both w) (heads-are w hit w.goal.number over.head.place now heads is times);
      }
        where
          entries : (V : View) → put V → written places V ≡ with_puts (with_puts (without_over V w over) (source_position V w hit) (second_position hit) no_entry) (goal_position V w over) (second_position over) (named_entry hit.number name)
          entries V m =
              let are = l.now V (k.before V (puts.same V m)) in
              let its = k.now V (puts.same V m) in
              puts.view V m
              ∙ (λ i. with_changes V (a_is i ∷ b_is i ∷ c_is i ∷ d_is i ∷ f_is i ∷ g_is i ∷ []))
              ∙ onto-changes V other.home other.second old.home old.second e
              ∙ (λ i. with_puts (with_puts (with_puts V (its.home i) (seconds-are V w.goal.inode.head over other its i) no_entry) (are.home i) (seconds-are V w.source.inode.head hit old are i) no_entry) (its.home i) (seconds-are V w.goal.inode.head over other its i) (entry_is i))
