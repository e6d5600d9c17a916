-- What RENAME comes to, from what was read.
use Rattle.std.proofs.Common.{◌≡◌, ◌≢◌, ℕ, ◌/◌, ◌<◌, ◌≤◌, arith, Bool, true, false, not, cond, List, Option, Some, None, Ok, Err, refl, sym, ap, subst, ◌⊎◌, inl, inr, ◌∙◌}
use Rattle.std.specs.Prelude.{Result, Decides, IsTrue, ◌↔◌, is_some, is_none, ◌&&◌, ◌||◌}
use Rattle.std.proofs.lemmas.Bool.{cases_lt, eqb-true, eqb-false, eq-eqb, ne_eqb, lt-ltb, or_cases, false≢true}
use Rattle.journal_tree.specs.declared.time.Time.{Time}
use Rattle.journal_tree.specs.declared.reply.Kind.{Kind}
use Rattle.journal_tree.specs.declared.reply.Kind.TheVariants.{Directory, File, Link}
use Rattle.journal_tree.specs.declared.reply.Renamed.{Renamed}
use Rattle.journal_tree.specs.declared.caller.Caller.{Caller}
use Rattle.journal_tree.specs.declared.status.Status.{Status}
use Rattle.journal_tree.specs.declared.status.Status.TheVariants.{Exists, Invalid, NoAccess, NoEntry, NoSpace}
use Rattle.journal_tree.specs.Trees.{Node, places_of, is_directory, with_node, find, find_any}
use Rattle.journal_tree.specs.Rule.{stem_of, stems, IsBelow}
use Rattle.journal_tree.specs.Rule.IsBelow.{itself}
use Rattle.journal_tree.specs.Rights.{may_write, may_rename, may_take}
use Rattle.journal_tree.specs.Calls.{Outcome, refused, allowed, on_found}
use Rattle.journal_tree.specs.Renames.{both_unchanged, may_move, is_large, new_place, may_replace, move_to, move_new, move_over, move_node}
use Rattle.journal_tree.specs.Walks.{meets}
use Rattle.journal_tree.proofs.Walk.{walk-decides, no-walk-needed}
use Rattle.journal_treestore.specs.declared.inode.Head.{Head}
use Rattle.journal_treestore.specs.Entries.{tag_of, no_entry}
use Rattle.journal_treestore.specs.Levels.{IsBlockFor}
use Rattle.journal_treestore.specs.Levels.IsBlockFor.{any_name}
use Rattle.journal_treestore.specs.Positions.{place_at}
use Rattle.journal_treestore.specs.Views.{Held, View, held_of, body_of, node_of, tree_of, entry_of, entry_by}
use Rattle.journal_treestore.specs.Views.Seen.{used}
use Rattle.journal_treestore.specs.Sound.{IsSoundView}
use Rattle.journal_treestore.specs.Steps.{IsPlaced}
use Rattle.journal_treestore.proofs.Leveling.{block-low}
use Rattle.journal_treestore.proofs.Changing.{one_inode}
use Rattle.journal_treestore.proofs.Planting.{position-inside}
use Rattle.journal_treestore.proofs.Placed.{no_root}
use Rattle.journal_treecalls.specs.declared.search.Hit.{Hit}
use Rattle.journal_treecalls.specs.declared.room.FreePlace.{FreePlace}
use Rattle.journal_treecalls.specs.declared.room.NewPlace.{NewPlace}
use Rattle.journal_treecalls.specs.declared.room.NewPlace.TheVariants.{Here, Further}
use Rattle.journal_treecalls.specs.declared.renaming.Way.{Way}
use Rattle.journal_treecalls.specs.declared.renaming.Destination.TheVariants.{Own, OwnOver, Onto, Into}
use Rattle.journal_treecalls.specs.declared.renaming.Decision.{Decision}
use Rattle.journal_treecalls.specs.declared.renaming.Decision.TheVariants.{Stays, Goes}
use Rattle.journal_treecalls.specs.Targets.{held, IsHit, Hits}
use Rattle.journal_treecalls.specs.Names.{is_directory_kind}
use Rattle.journal_treecalls.specs.Directories.{IsEntryOf}
use Rattle.journal_treecalls.specs.Rooms.{HasPlaceFor, place_number}
use Rattle.journal_treecalls.specs.Seats.{home_position, seat_of}
use Rattle.journal_treecalls.specs.Renamings.{is_within, home_block, HasNode, move_in, node_in, may_go, TellsAbove, TellsBelowGoal, IsBareIf, MayReplace, NeedsSecond, found_place, own_number, handed, IsReplaced, IsSecondFor, IsDecided, DecidesOwn, DecidesNew, DecidesOver, DecidesHit, DecidesName}
use Rattle.journal_treecalls.specs.Renamings.IsSecondPlace.{as_before, at_free}
use Rattle.journal_treecalls.specs.Renamings.IsBareIf.{bare, plain, full}
use Rattle.journal_treecalls.specs.Renamings.MayReplace.{of_file, of_directory}
use Rattle.journal_treecalls.proofs.ByName.{at-none, at-some}
use Rattle.journal_treecalls.proofs.Searching.{hit-found, hit-missed}
use Rattle.journal_treecalls.proofs.Emptying.{own-blocks, nothing-hangs, all-bare, all-blank, one-hangs}
use Rattle.journal_treecalls.proofs.Upward.{stem-of}
use Rattle.journal_treecalls.proofs.Seating.{seat-is}

-- ── what may be replaced ──

pub bare-if : (V : View) (over : Head) → over.kind ≡ Directory → (o : Option ℕ) → IsEntryOf V over o → (b : Bool) → is_some o ≡ not b → IsBareIf V over b
bare-if V over kind None none true is = bare kind none
bare-if V over kind None none false is = absurd (cc (is))
bare-if V over kind (Some m) entry true is = absurd (cc (is))
bare-if V over kind (Some m) entry false is = full m kind entry

pub directory-kind : (k : Kind) (b : Bool) → b ≡ is_directory_kind k → b ≡ true → k ≡ Directory
directory-kind Directory b is true_is = refl
directory-kind File b is true_is = absurd (cc (sym is ∙ true_is))
directory-kind Link b is true_is = absurd (cc (sym is ∙ true_is))

pub replaces-file : (V : View) (node over : Head) (b : Bool) → is_directory_kind node.kind ≡ false → b ≡ is_directory_kind over.kind → MayReplace V node over (not b)
replaces-file V node over b kind is = subst (λ b. MayReplace V node over (not b)) (sym is) (of_file kind)

kind-is : (V : View) (x : Held) (k : Kind) → is_directory (body_of V k x) ≡ is_directory_kind k
kind-is V x Directory = refl
kind-is V x File = refl
kind-is V x Link = refl

no-one : (o : Option ℕ) (b : Bool) → is_some o ≡ b → is_none o ≡ not b
no-one None b is = ap not is
no-one (Some m) b is = ap not is

module _ (V : View) (sound : IsSoundView V) (node over : Head) (j : ℕ) (new_name : List ℕ) (at : V.inode j ≡ used (held_of over new_name)) where
  bare-is : (b : Bool) → IsBareIf V over b → (is_directory (body_of V over.kind (held_of over new_name)) && is_none (find_any (tree_of V) j)) ≡ b
  bare-is _ (bare kind none) =
      ap (λ k. is_directory (body_of V k (held_of over new_name)) && is_none (find_any (tree_of V) j)) kind
      ∙ no-one (find_any (tree_of V) j) false (nothing-hangs V sound j (held_of over new_name) at (all-bare V sound j (held_of over new_name) at kind over refl (own-blocks V over new_name) none))
  bare-is _ (plain kind) = ap (λ b. b && is_none (find_any (tree_of V) j)) (kind-is V (held_of over new_name) over.kind ∙ kind)
  bare-is _ (full m kind entry) =
      ap (λ k. is_directory (body_of V k (held_of over new_name)) && is_none (find_any (tree_of V) j)) kind
      ∙ no-one (find_any (tree_of V) j) true (one-hangs V sound j (held_of over new_name) at kind over refl (own-blocks V over new_name) m entry)

  -- by the definition
  pub replaces-is : (name : List ℕ) (b : Bool) → MayReplace V node over b → may_replace (tree_of V) (node_of V (held_of node name)) j (node_of V (held_of over new_name)) ≡ b
  replaces-is name _ (of_file kind) =
      ap (λ b. cond b (is_directory (body_of V over.kind (held_of over new_name)) && is_none (find_any (tree_of V) j)) (not (is_directory (body_of V over.kind (held_of over new_name))))) (kind-is V (held_of node name) node.kind ∙ kind)
      ∙ ap not (kind-is V (held_of over new_name) over.kind)
  replaces-is name _ (of_directory b kind is) =
      ap (λ k. cond (is_directory (body_of V k (held_of node name))) (is_directory (body_of V over.kind (held_of over new_name)) && is_none (find_any (tree_of V) j)) (not (is_directory (body_of V over.kind (held_of over new_name))))) kind
      ∙ bare-is b is

  -- and nothing is at its places
  file-blank : (k : Kind) → not (is_directory_kind k) ≡ true → (place : ℕ) → entry_by V k (held_of over new_name) place ≡ no_entry
  file-blank Directory is place = absurd (cc (is))
  file-blank File is place = refl
  file-blank Link is place = refl

  bare-blank : (b : Bool) → IsBareIf V over b → b ≡ true → (place : ℕ) → entry_of V (used (held_of over new_name)) place ≡ no_entry
  bare-blank _ (bare kind none) is place = all-blank V sound j (held_of over new_name) at kind over refl (own-blocks V over new_name) none place
  bare-blank _ (plain kind) is place = absurd (cc (is))
  bare-blank _ (full m kind entry) is place = absurd (cc (is))

  pub replaced-blank : (b : Bool) → MayReplace V node over b → b ≡ true → (place : ℕ) → entry_of V (used (held_of over new_name)) place ≡ no_entry
  replaced-blank _ (of_file kind) is place = file-blank over.kind is place
  replaced-blank _ (of_directory b kind may) is place = bare-blank b may is place

-- ── what lies below ──

no-places : (V : View) (k : Kind) (x : Held) → is_directory_kind k ≡ false → places_of (body_of V k x) ≡ None
no-places V Directory x is = absurd (cc (is))
no-places V File x is = refl
no-places V Link x is = refl

-- what keeps its directory, and what is none
pub nothing-below : (V : View) (w : Way) (hit : Hit) → IsSoundView V → (is_within w || not (is_directory_kind hit.head.kind)) ≡ true → TellsBelowGoal V w hit false
nothing-below V w hit sound is = λ name node. (
  λ e. absurd (cc (e)),
  λ below. absurd (
      no-walk-needed V.numbers (stems (tree_of V)) hit.number w.goal.number (stem_of (node_of V (held_of hit.head name))) (stem_of (node_of V (held w.goal.inode))) (w.goal.inode.head.size / 8) sound.tree
      (stem-of V hit.number (held_of hit.head name) node.found.is.inside.is.inode)
      (no_root V sound (seat_of V w.source.number w.source.inode hit name) (placed name node))
      (stem-of V w.goal.number (held w.goal.inode) node.sides.goal.is)
      (ap (λ k. places_of (body_of V k (held w.goal.inode))) node.sides.goal.kind)
      (by name node (or_cases (is_within w) (not (is_directory_kind hit.head.kind)) is)) below),
)
  where
    placed : (name : List ℕ) (node : HasNode V w name hit) → IsPlaced V (seat_of V w.source.number w.source.inode hit name)
    placed name node = seat-is V w.source.number w.source.inode name hit sound node.sides.source.is node.sides.source.kind node.found

    by : (name : List ℕ) (node : HasNode V w name hit) → (is_within w ≡ true) ⊎ (not (is_directory_kind hit.head.kind) ≡ true) → (places_of (body_of V hit.head.kind (held_of hit.head name)) ≡ None) ⊎ (hit.head.directory ≡ w.goal.number)
    by name node (inl one) = inr ((placed name node).directory ∙ eqb-true w.source.number w.goal.number one)
    by name node (inr other) = inl (no-places V hit.head.kind (held_of hit.head name) (not_directory (is_directory_kind hit.head.kind) other))
      where
        not_directory : (b : Bool) → not b ≡ true → b ≡ false
        not_directory true e = absurd (cc (e))
        not_directory false e = refl

-- where it was looked for
pub looked-below : (V : View) (w : Way) (hit : Hit) (b : Bool) → TellsAbove V hit.number w.goal.number b → TellsBelowGoal V w hit b
looked-below V w hit b tells = λ name node. tells (held_of hit.head name) node.found.is.inside.is.inode

-- ── whether a name needs a second entry ──

pub needs-is : (tag : ℕ) (hit : Hit) (b : Bool) → IsTrue b ↔ IsBlockFor tag (home_block hit) → NeedsSecond tag hit (not b)
needs-is tag hit true both = both.0 refl
needs-is tag hit false both = λ block. false≢true (both.1 block)

pub needs-as : (tag : ℕ) (hit : Hit) (a b : Bool) (new_name : List ℕ) → NeedsSecond tag hit a → a ≡ b → tag_of new_name ≡ tag → NeedsSecond (tag_of new_name) hit b
needs-as tag hit a b new_name needs same is = subst (λ t. NeedsSecond t hit b) (sym is) (subst (NeedsSecond tag hit) same needs)

pub block-as : (tag j : ℕ) (b : Bool) (new_name : List ℕ) → IsTrue b ↔ IsBlockFor tag j → b ≡ true → tag_of new_name ≡ tag → IsBlockFor (tag_of new_name) j
block-as tag j b new_name both holds is = subst (λ t. IsBlockFor t j) (sym is) (both.0 holds)

block-inside : (tag j : ℕ) (b : Bool) → IsTrue b ↔ IsBlockFor tag j → b ≡ true → j < 388
block-inside tag j b both holds = block-low tag j (both.0 holds)

pub place-inside : (tag : ℕ) (hit : Hit) (b : Bool) (p : FreePlace) → IsTrue b ↔ IsBlockFor tag hit.j → b ≡ true → p ≡ found_place hit → hit.at < 512 → (p.at < 512) × (p.j < 388)
place-inside tag hit b p both holds is low = subst (λ (p : FreePlace). (p.at < 512) × (p.j < 388)) (sym is) (low, block-inside tag hit.j b both holds)

-- ── what the cases come to ──

-- cases that come to the same
pub decided-as : (V : View) (w : Way) (name new_name : List ℕ) (case other : Option ℕ → Time → Outcome Renamed) → ((place : Option ℕ) (now : Time) → case place now ≡ other place now)
    → (d : Result Decision Status) → IsDecided V w name new_name other d → IsDecided V w name new_name case d
decided-as V w name new_name case other same (Err status) is = λ now. same None now ∙ is now
decided-as V w name new_name case other same (Ok Stays) is = λ now. same None now ∙ is now
decided-as V w name new_name case other same (Ok (Goes hit to)) is = (is.0, (is.1.0, λ now. same (handed hit to) now ∙ is.1.1 now))

-- what lies below is told, though nobody looked
module _ (V : View) (sound : IsSoundView V) (n e : ℕ) (g : Held) (at : V.inode n ≡ used g) where
  abbrev pub is_below : Bool
  is_below = meets (stems (tree_of V)) n V.numbers e

  pub is_below-tells : Decides is_below (IsBelow (stems (tree_of V)) n e)
  is_below-tells = walk-decides V.numbers (stems (tree_of V)) n e (stem_of (node_of V g)) sound.tree (stem-of V n g at)

module _ (V : View) (w : Way) (hit : Hit) where
  told-as : (name : List ℕ) (below b : Bool) → HasNode V w name hit → TellsBelowGoal V w hit below → below ≡ b → Decides b (IsBelow (stems (tree_of V)) hit.number w.goal.number)
  told-as name below b node tells is = subst (λ b. Decides b (IsBelow (stems (tree_of V)) hit.number w.goal.number)) is (tells name node)

  -- what is not below the node is not it
  apart : (name : List ℕ) (below : Bool) → HasNode V w name hit → TellsBelowGoal V w hit below → below ≡ false → hit.number ≢ w.goal.number
  apart name below node tells is e = false≢true ((told-as name below false node tells is).1 (subst (IsBelow (stems (tree_of V)) hit.number) e itself))

  -- ── the new name is not there, in its directory ──

  module _ (sound : IsSoundView V) (new_name : List ℕ) (within : is_within w ≡ true) where
    -- the node's own place, large or not
    keeps : (now : Time) (z : Node) (b : Bool) → move_to (move_in V w new_name) (cond b (Some z.home.place) (Some z.home.place)) now (tree_of V) (tree_of V) hit.number z ≡ move_to (move_in V w new_name) (Some z.home.place) now (tree_of V) (tree_of V) hit.number z
    keeps now z true = refl
    keeps now z false = refl

    goes-own : (place : Option NewPlace) → own_number hit place ≡ hit.head.place → IsSecondFor V w.source.inode.head (tag_of new_name) hit place → DecidesOwn V w hit new_name (Ok (Goes hit (Own place)))
    goes-own place own second = λ name node. (
      node,
      (
        (eqb-true w.source.number w.goal.number within, second),
        λ now.
            ap (λ p. move_to (move_in V w new_name) (new_place (move_in V w new_name) (node_in V hit name) (Some p)) now (tree_of V) (tree_of V) hit.number (node_in V hit name)) own
            ∙ keeps now (node_in V hit name) (is_within w && not (is_large (node_of V (held w.goal.inode)).body))
            ∙ ap (λ p. move_to (move_in V w new_name) (Some p) now (tree_of V) (tree_of V) hit.number (node_in V hit name)) (sym own),
      ),
    )

    pub own-alone : NeedsSecond (tag_of new_name) hit false → DecidesOwn V w hit new_name (Ok (Goes hit (Own None)))
    own-alone block = goes-own None refl block

    module _ (needs : NeedsSecond (tag_of new_name) hit true) where
      -- a directory with levels is large
      large : (name : List ℕ) → HasNode V w name hit → is_large (node_of V (held w.goal.inode)).body ≡ true
      large name node =
          ap (λ k. is_large (body_of V k (held w.goal.inode))) node.sides.goal.kind
          ∙ lt-ltb 24576 (w.goal.inode.head.size / 8) (let far = after in let p = place in omega (arith, far, p))
        where
          placed : IsPlaced V (seat_of V w.source.number w.source.inode hit name)
          placed = seat-is V w.source.number w.source.inode name hit sound node.sides.source.is node.sides.source.kind node.found

          same : held w.source.inode ≡ held w.goal.inode
          same = one_inode V w.source.number w.goal.number (held w.source.inode) (held w.goal.inode) node.sides.source.is node.sides.goal.is (eqb-true w.source.number w.goal.number within)

          place : hit.head.place < w.goal.inode.head.size / 8
          place = subst (λ p. p < w.goal.inode.head.size / 8) (sym placed.place) (subst (λ (h : Held). place_at (home_position V w.source.inode.head hit) < h.size / 8) same
              (position-inside V w.source.number (held w.source.inode) (home_position V w.source.inode.head hit) (sound.inodes w.source.number (held w.source.inode) node.sides.source.is) node.sides.source.kind placed.at))

          after : 48 ≤ hit.head.place / 512
          after = by (cases_lt (hit.head.place / 512) 48)
            where
              by : (hit.head.place / 512 < 48) ⊎ (48 ≤ hit.head.place / 512) → 48 ≤ hit.head.place / 512
              by (inl low) = absurd (needs (any_name low))
              by (inr high) = high

      -- so that no place but the one that is handed out counts
      handed-out : (name : List ℕ) (node : HasNode V w name hit) (place : Option ℕ) → new_place (move_in V w new_name) (node_in V hit name) place ≡ place
      handed-out name node place =
          ap (λ b. cond (is_within w && not b) (Some hit.head.place) place) (large name node)
          ∙ ap (λ b. cond (b && false) (Some hit.head.place) place) within

      pub own-full : DecidesOwn V w hit new_name (Err NoSpace)
      own-full = λ name node now. ap (λ p. move_to (move_in V w new_name) p now (tree_of V) (tree_of V) hit.number (node_in V hit name)) (handed-out name node None)

      pub own-before : IsBlockFor (tag_of new_name) hit.j → DecidesOwn V w hit new_name (Ok (Goes hit (Own (Some (Here (found_place hit))))))
      own-before block = goes-own (Some (Here (found_place hit))) refl (needs, as_before block)

      pub own-second : (place : NewPlace) → HasPlaceFor V w.source.inode.head (tag_of new_name) place → DecidesOwn V w hit new_name (Ok (Goes hit (Own (Some place))))
      own-second (Here p) has = goes-own (Some (Here p)) refl (needs, at_free (Here p) has)
      own-second (Further g) has = λ name node. (
        node,
        (
          (eqb-true w.source.number w.goal.number within, (needs, at_free (Further g) has)),
          λ now. ap (λ p. move_to (move_in V w new_name) p now (tree_of V) (tree_of V) hit.number (node_in V hit name)) (handed-out name node (Some (place_number (Further g)))),
        ),
      )

  -- ── the new name is not there ──

  module _ (new_name : List ℕ) (below : Bool) (tells : TellsBelowGoal V w hit below) where
    pub new-invalid : below ≡ true → DecidesNew V w hit new_name (Err Invalid)
    new-invalid is = λ name node. record { below = true; tells = told-as name below true node tells is; is = λ now. refl }

    module _ (is : below ≡ false) where
      pub new-own : (d : Result Decision Status) → DecidesOwn V w hit new_name d → DecidesNew V w hit new_name d
      new-own d own = λ name node. record { below = false; tells = told-as name below false node tells is; is = own name node }

      module _ (other : is_within w ≡ false) where
        elsewhere : (name : List ℕ) (place : Option ℕ) → new_place (move_in V w new_name) (node_in V hit name) place ≡ place
        elsewhere name place = ap (λ b. cond (b && not (is_large (node_of V (held w.goal.inode)).body)) (Some hit.head.place) place) other

        pub new-full : DecidesNew V w hit new_name (Err NoSpace)
        new-full = λ name node. record {
          below = false;
          tells = told-as name below false node tells is;
          is = λ now. ap (λ p. move_to (move_in V w new_name) p now (tree_of V) (tree_of V) hit.number (node_in V hit name)) (elsewhere name None);
        }

        pub new-into : (place : NewPlace) → HasPlaceFor V w.goal.inode.head (tag_of new_name) place → DecidesNew V w hit new_name (Ok (Goes hit (Into place)))
        new-into place has = λ name node. record {
          below = false;
          tells = told-as name below false node tells is;
          is = (
            node,
            (
              (record { apart = eqb-false w.source.number w.goal.number other; other = apart name below node tells is }, has),
              λ now. ap (λ p. move_to (move_in V w new_name) p now (tree_of V) (tree_of V) hit.number (node_in V hit name)) (elsewhere name (Some (place_number place))),
            ),
          );
        }

  -- ── the new name is there ──

  module _ (c : Caller) (new_name : List ℕ) (over : Hit) where
    -- from there on the cases are these, where it is another node
    abbrev over_rest : List ℕ → Bool → Bool → Bool → ℕ → Time → Outcome Renamed
    over_rest name below may can place now =
        cond below (refused Invalid (tree_of V))
        (cond may
        (cond (not can) (refused Exists (tree_of V)) (move_to (move_in V w new_name) (Some place) now (tree_of V) (with_node (tree_of V) over.number None) hit.number (node_in V hit name)))
        (refused NoAccess (tree_of V)))

    abbrev may : Bool
    may = may_take c w.goal.inode.head.attributes over.head.attributes

    abbrev can : List ℕ → Bool
    can name = may_replace (tree_of V) (node_in V hit name) over.number (node_in V over new_name)

    abbrev place_for : Bool → ℕ
    place_for b = cond b hit.head.place over.head.place

    other-goes : (name : List ℕ) (below : Bool) (now : Time) → over.number ≢ hit.number
        → move_over c below now (tree_of V) (move_in V w new_name) hit.number (node_in V hit name) over.number (node_in V over new_name) ≡ over_rest name below may (can name) (place_for (is_within w)) now
    other-goes name below now other =
        ap (λ b. cond b (Ok (both_unchanged (move_in V w new_name)), tree_of V) (over_rest name below may (can name) (place_for (is_within w)) now)) (ne_eqb over.number hit.number other)

    pub over-stays : IsSoundView V → over.number ≡ hit.number → DecidesOver V c w hit new_name over (Ok Stays)
    over-stays sound same = λ name node found.
        let at : V.inode hit.number ≡ used (held_of hit.head name) = node.found.is.inside.is.inode in
        let below : Bool = is_below V sound hit.number w.goal.number (held_of hit.head name) at in
        record {
          below = below;
          tells = is_below-tells V sound hit.number w.goal.number (held_of hit.head name) at;
          is = λ now. ap (λ b. cond b (Ok (both_unchanged (move_in V w new_name)), tree_of V) (over_rest name below may (can name) (place_for (is_within w)) now)) (eq-eqb over.number hit.number same);
        }

    module _ (other : over.number ≢ hit.number) (below : Bool) (tells : TellsBelowGoal V w hit below) where
      pub over-invalid : below ≡ true → DecidesOver V c w hit new_name over (Err Invalid)
      over-invalid is = λ name node found. record { below = true; tells = told-as name below true node tells is; is = λ now. other-goes name true now other }

      module _ (is : below ≡ false) where
        pub over-refused : may ≡ false → DecidesOver V c w hit new_name over (Err NoAccess)
        over-refused not_his = λ name node found. record {
          below = false;
          tells = told-as name below false node tells is;
          is = λ now. other-goes name false now other ∙ ap (λ b. over_rest name false b (can name) (place_for (is_within w)) now) not_his;
        }

        module _ (yes : may ≡ true) (sound : IsSoundView V) (replaces : Bool) (is_replaced : MayReplace V hit.head over.head replaces) where
          to-can : (name : List ℕ) (now : Time) (b : Bool) → V.inode over.number ≡ used (held_of over.head new_name) → replaces ≡ b
              → move_over c false now (tree_of V) (move_in V w new_name) hit.number (node_in V hit name) over.number (node_in V over new_name) ≡ over_rest name false true b (place_for (is_within w)) now
          to-can name now b at can_is =
              other-goes name false now other
              ∙ ap (λ b. over_rest name false b (can name) (place_for (is_within w)) now) yes
              ∙ ap (λ b. over_rest name false true b (place_for (is_within w)) now) (replaces-is V sound hit.head over.head over.number new_name at name replaces is_replaced ∙ can_is)

          pub over-exists : replaces ≡ false → DecidesOver V c w hit new_name over (Err Exists)
          over-exists cannot = λ name node found. record {
            below = false;
            tells = told-as name below false node tells is;
            is = λ now. to-can name now false found.is.inside.is.inode cannot;
          }

          module _ (on : replaces ≡ true) where
            replaced : IsHit V w.goal.inode.head new_name over → IsReplaced V w hit new_name over
            replaced found = record { found = found; other = other; bare = replaced-blank V sound hit.head over.head over.number new_name found.is.inside.is.inode replaces is_replaced on }

            pub over-goes : (needs : Bool) → NeedsSecond (tag_of new_name) hit needs → (b : Bool) → is_within w ≡ b → DecidesOver V c w hit new_name over (Ok (Goes hit (cond b (OwnOver over needs) (Onto over))))
            over-goes needs second true within = λ name node found. record {
              below = false;
              tells = told-as name below false node tells is;
              is = (
                node,
                (
                  (eqb-true w.source.number w.goal.number within, (second, replaced found)),
                  λ now. to-can name now true found.is.inside.is.inode on ∙ ap (λ b. over_rest name false true true (place_for b) now) within,
                ),
              );
            }
            over-goes needs second false within = λ name node found. record {
              below = false;
              tells = told-as name below false node tells is;
              is = (
                node,
                (
                  (record { apart = eqb-false w.source.number w.goal.number within; other = apart name below node tells is }, replaced found),
                  λ now. to-can name now true found.is.inside.is.inode on ∙ ap (λ b. over_rest name false true true (place_for b) now) within,
                ),
              );
            }

  -- ── the old name is there ──

  module _ (c : Caller) (new_name : List ℕ) (sound : IsSoundView V) where
    may-is : (name : List ℕ) → may_move c (move_in V w new_name) (node_in V hit name) ≡ may_go c w hit.head
    may-is name = ap (λ b. may_rename c w.source.inode.head.attributes && may_take c w.source.inode.head.attributes hit.head.attributes && may_rename c w.goal.inode.head.attributes
        && (is_within w || not b || may_write c hit.head.attributes)) (kind-is V (held_of hit.head name) hit.head.kind)

    -- what is answered where the new name is not there, and where it is
    abbrev none : List ℕ → Bool → Option ℕ → Time → Outcome Renamed
    none name below place now = move_new below place now (tree_of V) (move_in V w new_name) hit.number (node_in V hit name)

    abbrev some : List ℕ → Bool → Option ℕ → Time → ℕ → Node → Outcome Renamed
    some name below place now = move_over c below now (tree_of V) (move_in V w new_name) hit.number (node_in V hit name)

    abbrev sought : List ℕ → Bool → Option ℕ → Time → Outcome Renamed
    sought name below place now = on_found (tree_of V) (find (tree_of V) w.goal.number new_name) (none name below place now) (some name below place now)

    pub hit-refused : may_go c w hit.head ≡ false → DecidesHit V c w hit new_name (Err NoAccess)
    hit-refused not_his = λ name node.
        let at : V.inode hit.number ≡ used (held_of hit.head name) = node.found.is.inside.is.inode in
        let below : Bool = is_below V sound hit.number w.goal.number (held_of hit.head name) at in
        record {
          below = below;
          tells = is_below-tells V sound hit.number w.goal.number (held_of hit.head name) at;
          is = λ now. ap (λ b. allowed (tree_of V) b (sought name below None now)) (may-is name ∙ not_his);
        }

    module _ (yes : may_go c w hit.head ≡ true) (d : Result Decision Status) where
      pub hit-new : Hits V w.goal.inode.head new_name None → DecidesNew V w hit new_name d → DecidesHit V c w hit new_name d
      hit-new missed new = λ name node. let inner = new name node in record {
        below = inner.below;
        tells = inner.tells;
        is = decided-as V w name new_name (λ place now. move_node c inner.below place now (tree_of V) (move_in V w new_name) hit.number (node_in V hit name)) (none name inner.below)
            (λ place now.
            ap (λ b. allowed (tree_of V) b (sought name inner.below place now)) (may-is name ∙ yes)
            ∙ at-none V (find (tree_of V) w.goal.number new_name) (none name inner.below place now) (some name inner.below place now)
            (hit-missed V w.goal.number w.goal.inode new_name sound node.sides.goal.is node.sides.goal.kind missed))
            d inner.is;
      }

      pub hit-over : (over : Hit) → Hits V w.goal.inode.head new_name (Some over) → DecidesOver V c w hit new_name over d → DecidesHit V c w hit new_name d
      hit-over over found there = λ name node. let inner = there name node found in record {
        below = inner.below;
        tells = inner.tells;
        is = decided-as V w name new_name (λ place now. move_node c inner.below place now (tree_of V) (move_in V w new_name) hit.number (node_in V hit name))
            (λ place now. some name inner.below place now over.number (node_in V over new_name))
            (λ place now.
            ap (λ b. allowed (tree_of V) b (sought name inner.below place now)) (may-is name ∙ yes)
            ∙ at-some V (find (tree_of V) w.goal.number new_name) over.number (held_of over.head new_name) (none name inner.below place now) (some name inner.below place now)
            (hit-found V w.goal.number w.goal.inode new_name sound node.sides.goal.is node.sides.goal.kind over found) found.is.inside.is.inode)
            d inner.is;
      }

-- ── whether it is there ──

module _ (V : View) (c : Caller) (w : Way) (name new_name : List ℕ) (sound : IsSoundView V) where
  pub name-missed : Hits V w.source.inode.head name None → DecidesName V c w name new_name (Err NoEntry)
  name-missed missed = λ sides.
      let none : find (tree_of V) w.source.number name ≡ None = hit-missed V w.source.number w.source.inode name sound sides.source.is sides.source.kind missed in
      record {
        below = false;
        tells = λ n is. absurd (cc (sym none ∙ is));
        is = λ now. at-none V (find (tree_of V) w.source.number name) (refused NoEntry (tree_of V)) (move_node c false None now (tree_of V) (move_in V w new_name)) none;
      }

  pub name-found : (hit : Hit) (d : Result Decision Status) → Hits V w.source.inode.head name (Some hit) → DecidesHit V c w hit new_name d → DecidesName V c w name new_name d
  name-found hit d found decides = λ sides.
      let inner = decides name (record { sides = sides; found = found }) in
      let there : find (tree_of V) w.source.number name ≡ Some hit.number = hit-found V w.source.number w.source.inode name sound sides.source.is sides.source.kind hit found in
      record {
        below = inner.below;
        tells = λ n is. let e : Some hit.number ≡ Some n = sym there ∙ is in let same : hit.number ≡ n = cc in subst (λ n. Decides inner.below (IsBelow (stems (tree_of V)) n w.goal.number)) same inner.tells;
        is = decided-as V w name new_name (λ place now. on_found (tree_of V) (find (tree_of V) w.source.number name) (refused NoEntry (tree_of V)) (move_node c inner.below place now (tree_of V) (move_in V w new_name)))
            (λ place now. move_node c inner.below place now (tree_of V) (move_in V w new_name) hit.number (node_in V hit name))
            (λ place now. at-some V (find (tree_of V) w.source.number name) hit.number (held_of hit.head name) (refused NoEntry (tree_of V)) (move_node c inner.below place now (tree_of V) (move_in V w new_name)) there found.is.inside.is.inode)
            d inner.is;
      }
