-- RENAME is one step or a refusal, and its reply is true.
use Rattle.std.proofs.Common.{◌≡◌, ◌≢◌, ℕ, ◌<◌, ◌==◌, Bool, true, false, not, ◌&&◌, ◌||◌, List, Option, Some, None, Ok, refl, sym, ap, subst, ◌⊎◌, inl, inr, ◌∙◌}
use Rattle.std.specs.Prelude.{is_some, is_none, if◌then◌else◌}
use Rattle.std.proofs.lemmas.Bool.{eqb-true, eqb-false, and_parts, or_cases, not-true, not-false, true≢false}
use Rattle.journal_tree.specs.declared.limits.TheConstants.{MOST_PLACES}
use Rattle.journal_tree.specs.declared.time.Time.{Time}
use Rattle.journal_tree.specs.declared.reply.Handle.{Handle}
use Rattle.journal_tree.specs.declared.reply.Renamed.{Renamed}
use Rattle.journal_tree.specs.declared.status.Status.TheVariants.{NoEntry, Exists, Invalid, NoSpace}
use Rattle.journal_tree.specs.Trees.{Node, Slot, Tree, places_of, is_directory, with_node, find, find_any, find_place}
use Rattle.journal_tree.specs.declared.caller.Caller.{Caller}
use Rattle.journal_tree.specs.Rights.{may_write, may_rename, may_take}
use Rattle.journal_tree.specs.Rule.{stem_of, stems, IsBelow, HasTree}
use Rattle.journal_tree.specs.Rule.IsBelow.{itself}
use Rattle.journal_tree.specs.Calls.{target, name_kind}
use Rattle.journal_tree.specs.declared.name.NameKind.TheVariants.{Name}
use Rattle.journal_tree.specs.Names.{may_remove}
use Rattle.journal_tree.specs.Renames.{Move, with_ctime, without_verifier, moved, both_changed, both_unchanged, new_home, may_move, is_large, new_place, place_over, may_replace, move_to, move_new, move_over, move_node, rename_case}
use Rattle.journal_tree.specs.Op.{MayTakePlace, TellsBelow}
use Rattle.journal_tree.specs.Fit.{HasFit}
use Rattle.journal_tree.specs.Laws.{IsTrueChange, IsRenamed}
use Rattle.journal_tree.proofs.Finding.{find-none, find_place-none}
use Rattle.journal_tree.proofs.Walk.{no-walk-needed}
use Rattle.journal_tree.proofs.Changing.{stem_from_node, node_from_stem, HasTree-cut, SameHomes, way_back, IsFreeHome, at_other, slot_cases, one, same_generation}
use Rattle.journal_tree.proofs.Hanging.{low, not_root, leaf, empty, not_itself, one_name}
use Rattle.journal_tree.proofs.Steps.{Known, IsReplaced, IsWithout, IsMoved, IsRight, right_no, right_yes, right_if, right_allowed, right_target, right_searched, right_name, right_search}
use Rattle.journal_tree.proofs.Steps.Step.{stays, moves}
use Rattle.journal_tree.proofs.Moving.{home-place, moved-source, moved-goal, moved-whole}
use Rattle.journal_tree.proofs.Calls.{true-of}

-- The reply of a RENAME that is done, and that it is whole
pub record IsTrueRenamed (T : Tree) (d : ℕ) (name : List ℕ) (e : ℕ) (new_name : List ℕ) (r : Renamed) (T2 : Tree) : Type 0 where
  pub source : IsTrueChange T T2 d r.source
  pub goal : IsTrueChange T T2 e r.goal
  pub whole : (n : ℕ) × (find T d name ≡ Some n) × IsRenamed T T2 d name e new_name n

-- ── the place ──

-- it is handed out, or it is the node's own
place-is : (m : Move) (z : Node) (place : Option ℕ) (p : ℕ) → new_place m z place ≡ Some p → (place ≡ Some p) ⊎ ((m.d ≡ m.e) × (z.home.place ≡ p))
place-is m z place p is = by (m.d == m.e && not (is_large m.y.body)) refl is
  where
    by : (b : Bool) → (m.d == m.e && not (is_large m.y.body)) ≡ b → (if b then Some z.home.place else place) ≡ Some p → (place ≡ Some p) ⊎ ((m.d ≡ m.e) × (z.home.place ≡ p))
    by true own is = let q : z.home.place ≡ p = cc in inr (eqb-true m.d m.e (and_parts (m.d == m.e) (not (is_large m.y.body)) own).0, q)
    by false other is = inl is

-- or that of the replaced
place-over-is : (m : Move) (z v : Node) (p : ℕ) → Some (place_over m z v) ≡ Some p → ((m.d ≡ m.e) × (z.home.place ≡ p)) ⊎ ((m.d ≢ m.e) × (v.home.place ≡ p))
place-over-is m z v p is = by (m.d == m.e) refl is
  where
    by : (b : Bool) → (m.d == m.e) ≡ b → Some (if b then z.home.place else v.home.place) ≡ Some p → ((m.d ≡ m.e) × (z.home.place ≡ p)) ⊎ ((m.d ≢ m.e) × (v.home.place ≡ p))
    by true same is = let q : z.home.place ≡ p = cc in inl (eqb-true m.d m.e same, q)
    by false two is = let q : v.home.place ≡ p = cc in inr (eqb-false m.d m.e two, q)

-- two nodes at one place of a directory are one
one_place : (T : Tree) (i j : ℕ) (x y : Node) → HasTree T → (T.at i).node ≡ Some x → (T.at j).node ≡ Some y → x.home.directory ≡ y.home.directory → x.home.place ≡ y.home.place → i ≡ j
one_place T i j x y tree is at directory place = tree.places i j (stem_of x) (stem_of y) (stem_from_node T i x is) (stem_from_node T j y at) directory place

-- ── the tree without what is replaced ──

-- nothing hangs in what may be replaced
replaced-empty : (T : Tree) (z : Node) (j : ℕ) (v : Node) → HasTree T → (T.at j).node ≡ Some v → may_replace T z j v ≡ true → (i : ℕ) (x : Node) → (T.at i).node ≡ Some x → x.home.directory ≡ j → ⊥
replaced-empty T z j v tree at may = by (is_directory z.body) may
  where
    none_is : (o : Option ℕ) → is_none o ≡ true → is_some o ≡ false
    none_is None e = refl
    none_is (Some i) e = absurd (true≢false (sym e))

    by : (b : Bool) → (if b then is_directory v.body && is_none (find_any T j) else not (is_directory v.body)) ≡ true → (i : ℕ) (x : Node) → (T.at i).node ≡ Some x → x.home.directory ≡ j → ⊥
    by true may = empty T j tree (none_is (find_any T j) (and_parts (is_directory v.body) (is_none (find_any T j)) may).1)
    by false may = leaf T j v tree at (not-true (is_directory v.body) may)

-- where no node but those of T is, the ways up are those of T
way-kept : (T W : Tree) (n e : ℕ) → ((i : ℕ) (x : Node) → (W.at i).node ≡ Some x → (T.at i).node ≡ Some x) → IsBelow (stems W) n e → IsBelow (stems T) n e
way-kept T W n e kept way = way_back (stems W) (stems T) n e same way
  where
    same : SameHomes (stems W) (stems T)
    same = record { old = λ i s is. (let x = node_from_stem W i s is in (stem_of x.0, stem_from_node T i x.0 (kept i x.0 x.1), ap (λ s. s.home) x.2)) }

module _ (c : Caller) (T : Tree) (tree : HasTree T) (m : Move) where
  -- nothing is taken away
  whole-without : IsWithout c T m T
  whole-without = record { tree = tree; generation = λ i. refl; kept = λ i x is. is; left = λ i x is. inl is }

  -- or a node in which nothing hangs is
  cut-without : (j : ℕ) (v : Node) → (T.at m.e).node ≡ Some m.y → find T m.e m.name ≡ Some j → (T.at j).node ≡ Some v → v.home.directory ≡ m.e → may_take c m.y.attributes v.attributes ≡ true
      → ((i : ℕ) (x : Node) → (T.at i).node ≡ Some x → x.home.directory ≡ j → ⊥) → IsWithout c T m (with_node T j None)
  cut-without j v goal found at home sticky none = record {
    tree = HasTree-cut T j tree (not_root T j m.e m.y v tree at home goal) none;
    generation = λ i. same_generation T j i None;
    kept = λ i x is. kept i x is (slot_cases T j (record { generation = (T.at j).generation; node = None }) i);
    left = λ i x is. left i x is (slot_cases T j (record { generation = (T.at j).generation; node = None }) i);
  }
    where
      kept : (i : ℕ) (x : Node) → ((with_node T j None).at i).node ≡ Some x → ((i ≡ j) × ((with_node T j None).at i ≡ record { generation = (T.at j).generation; node = None })) ⊎ ((i ≢ j) × ((with_node T j None).at i ≡ T.at i)) → (T.at i).node ≡ Some x
      kept i x is (inl r) = absurd (cc (sym (ap (λ (s : Slot). s.node) r.1) ∙ is))
      kept i x is (inr r) = sym (ap (λ (s : Slot). s.node) r.1) ∙ is

      left : (i : ℕ) (x : Node) → (T.at i).node ≡ Some x → ((i ≡ j) × ((with_node T j None).at i ≡ record { generation = (T.at j).generation; node = None })) ⊎ ((i ≢ j) × ((with_node T j None).at i ≡ T.at i))
          → (((with_node T j None).at i).node ≡ Some x) ⊎ IsReplaced c T m i x
      left i x is (inl r) =
          let q = one (T.at j).node v x at (ap (λ (i : ℕ). (T.at i).node) (sym r.0) ∙ is) in
          inr (record {
            found = found ∙ ap Some (sym r.0);
            home = ap (λ (x : Node). x.home.directory) (sym q) ∙ home;
            sticky = subst (λ (x : Node). may_take c m.y.attributes x.attributes ≡ true) q sticky;
          })
      left i x is (inr r) = inl (ap (λ (s : Slot). s.node) r.1 ∙ is)

-- ── the call ──

module _ (R : Known) (c : Caller) (now : Time) (T : Tree) (tree : HasTree T) (m : Move) (name : List ℕ) where
  -- the two directories, the node, and the reply
  record IsMovable (n : ℕ) (z : Node) (below : Bool) (place : Option ℕ) : Type 0 where
    source : (T.at m.d).node ≡ Some m.x
    goal : (T.at m.e).node ≡ Some m.y
    source_kind : is_directory m.x.body ≡ true
    kind : is_directory m.y.body ≡ true
    new_name : name_kind m.name ≡ Name
    found : find T m.d name ≡ Some n
    at : (T.at n).node ≡ Some z
    home : z.home.directory ≡ m.d
    named : z.home.name ≡ name
    take : MayTakePlace T m.d m.e place
    tells : TellsBelow T m.d name m.e below
    source_rights : may_rename c m.x.attributes ≡ true
    source_sticky : may_take c m.x.attributes z.attributes ≡ true
    parent_rights : (m.d ≡ m.e) ⊎ (is_directory z.body ≡ false) ⊎ (may_write c z.attributes ≡ true)
    goal_rights : may_rename c m.y.attributes ≡ true

  -- the rights of the caller
  record IsAllowed (z : Node) : Type 0 where
    source : may_rename c m.x.attributes ≡ true
    sticky : may_take c m.x.attributes z.attributes ≡ true
    goal : may_rename c m.y.attributes ≡ true
    parent : (m.d ≡ m.e) ⊎ (is_directory z.body ≡ false) ⊎ (may_write c z.attributes ≡ true)

  allowed-is : (z : Node) → may_move c m z ≡ true → IsAllowed z
  allowed-is z may =
      let both = and_parts (may_remove c m.x z && may_rename c m.y.attributes) (m.d == m.e || not (is_directory z.body) || may_write c z.attributes) may in
      let each = and_parts (may_remove c m.x z) (may_rename c m.y.attributes) both.0 in
      let source = and_parts (may_rename c m.x.attributes) (may_take c m.x.attributes z.attributes) each.0 in
      record { source = source.0; sticky = source.1; goal = each.1; parent = outer (or_cases (m.d == m.e || not (is_directory z.body)) (may_write c z.attributes) both.1) }
    where
      inner : ((m.d == m.e) ≡ true) ⊎ (not (is_directory z.body) ≡ true) → (m.d ≡ m.e) ⊎ (is_directory z.body ≡ false) ⊎ (may_write c z.attributes ≡ true)
      inner (inl same) = inl (eqb-true m.d m.e same)
      inner (inr a_file) = inr (inl (not-true (is_directory z.body) a_file))

      outer : ((m.d == m.e || not (is_directory z.body)) ≡ true) ⊎ (may_write c z.attributes ≡ true) → (m.d ≡ m.e) ⊎ (is_directory z.body ≡ false) ⊎ (may_write c z.attributes ≡ true)
      outer (inl first) = inner (or_cases (m.d == m.e) (not (is_directory z.body)) first)
      outer (inr may) = inr (inr may)

  to-right : (o : Option ℕ) (W : Tree) (n : ℕ) (z : Node) (below : Bool) (place : Option ℕ) → IsMovable n z below place → ((p : ℕ) → o ≡ Some p → IsMoved c T m n z p W)
      → IsRight R c now T (IsTrueRenamed T m.d name m.e m.name) (move_to m o now T W n z)
  to-right None W n z below place may give = right_no R c now T (IsTrueRenamed T m.d name m.e m.name) NoSpace
  to-right (Some p) W n z below place may give = right_yes R c now T (IsTrueRenamed T m.d name m.e m.name) (both_changed m p now) (moved W m n z p now) (moves m n z p W (give p refl)) (record {
    source = record { before = true-of T m.d m.x may.source; after = true-of (moved W m n z p now) m.d _ (moved-source c T m n z p W now (give p refl)) };
    goal = record { before = true-of T m.e m.y may.goal; after = true-of (moved W m n z p now) m.e _ (moved-goal c T m n z p W now (give p refl)) };
    whole = (n, may.found, moved-whole c T m n z p W now (give p refl) tree name may.named);
  })

  -- the node hangs in its directory, and so it has not that below it
  not_in : (n : ℕ) (z : Node) (below : Bool) (place : Option ℕ) → IsMovable n z below place → n ≢ m.d
  not_in n z below place may q = by (places_of m.x.body) refl may.source_kind
    where
      by : (o : Option ℕ) → places_of m.x.body ≡ o → is_some o ≡ true → ⊥
      by None is kind = true≢false (sym kind)
      by (Some places) is kind =
          no-walk-needed T.numbers (stems T) n m.d (stem_of z) (stem_of m.x) places tree (stem_from_node T n z may.at) (not_root T n m.d m.x z tree may.at may.home may.source) (stem_from_node T m.d m.x may.source) is
          (inr may.home) (subst (IsBelow (stems T) n) q itself)

  -- what all moves have
  to-moved : (W : Tree) (n : ℕ) (z : Node) (below : Bool) (place : Option ℕ) (p : ℕ) → IsMovable n z below place → below ≡ false → IsWithout c T m W → (W.at m.d).node ≡ Some m.x → (W.at m.e).node ≡ Some m.y → (W.at n).node ≡ Some z
      → IsFreeHome W n (new_home m z p) → (HasFit T → p < MOST_PLACES) → IsMoved c T m n z p W
  to-moved W n z below place p may apart without source goal at free within = record {
    without = without;
    source = source;
    goal = goal;
    kind = may.kind;
    at = at;
    home = may.home;
    below_root = not_root T n m.d m.x z tree may.at may.home may.source;
    below_source = not_in n z below place may;
    apart = λ way. true≢false (sym ((may.tells n may.found).1 (way-kept T W n m.e without.kept way)) ∙ apart);
    free = free;
    name = may.new_name;
    within = within;
    source_rights = may.source_rights;
    source_sticky = may.source_sticky;
    parent_rights = may.parent_rights;
    goal_rights = may.goal_rights;
  }

  new-right : (n : ℕ) (z : Node) (below : Bool) (place : Option ℕ) → IsMovable n z below place → find T m.e m.name ≡ None → IsRight R c now T (IsTrueRenamed T m.d name m.e m.name) (move_new below place now T m n z)
  new-right n z below place may none =
      right_if R c now T (IsTrueRenamed T m.d name m.e m.name) below _ _ (λ _. right_no R c now T (IsTrueRenamed T m.d name m.e m.name) Invalid) (λ apart.
      to-right (new_place m z place) T n z below place may (λ p is. give p apart (place-is m z place p is)))
    where
      taken : (p : ℕ) → place ≡ Some p → (m.d ≢ m.e → find_place T m.e p ≡ None) × (p < MOST_PLACES)
      taken p is = subst (MayTakePlace T m.d m.e) is may.take

      give : (p : ℕ) → below ≡ false → (place ≡ Some p) ⊎ ((m.d ≡ m.e) × (z.home.place ≡ p)) → IsMoved c T m n z p T
      give p apart way = to-moved T n z below place p may apart (whole-without c T tree m) may.source may.goal may.at (record {
        name = λ i x far at directory named. find-none T m.e m.name i x none (low T i x tree at) at directory named;
        place = λ i x far at directory placed. here i x far at directory placed (home-place m z p) way;
      }) (λ fit. within fit way)
        where
          here : (i : ℕ) (x : Node) → i ≢ n → (T.at i).node ≡ Some x → x.home.directory ≡ m.e → x.home.place ≡ (new_home m z p).place
              → ((m.d ≡ m.e) × ((new_home m z p).place ≡ z.home.place)) ⊎ ((m.d ≢ m.e) × ((new_home m z p).place ≡ p)) → (place ≡ Some p) ⊎ ((m.d ≡ m.e) × (z.home.place ≡ p)) → ⊥
          here i x far at directory placed (inl own) _ = far (one_place T i n x z tree at may.at (directory ∙ sym own.0 ∙ sym may.home) (placed ∙ own.1))
          here i x far at directory placed (inr other) (inl is) = find_place-none T m.e p i x ((taken p is).0 other.0) (low T i x tree at) at directory (placed ∙ other.1)
          here i x far at directory placed (inr other) (inr own) = absurd (other.0 own.0)

          within : HasFit T → (place ≡ Some p) ⊎ ((m.d ≡ m.e) × (z.home.place ≡ p)) → p < MOST_PLACES
          within fit (inl is) = (taken p is).1
          within fit (inr own) = subst (λ (p : ℕ). p < MOST_PLACES) own.1 (fit.nodes n z may.at).place

  over-right : (n : ℕ) (z : Node) (below : Bool) (place : Option ℕ) → IsMovable n z below place → (j : ℕ) (v : Node) → find T m.e m.name ≡ Some j → (T.at j).node ≡ Some v → v.home.directory ≡ m.e → v.home.name ≡ m.name
      → IsRight R c now T (IsTrueRenamed T m.d name m.e m.name) (move_over c below now T m n z j v)
  over-right n z below place may j v found_j at_j in_e named_j =
      right_if R c now T (IsTrueRenamed T m.d name m.e m.name) (j == n) _ _ (λ same. unchanged (eqb-true j n same)) (λ two.
      right_if R c now T (IsTrueRenamed T m.d name m.e m.name) below _ _ (λ _. right_no R c now T (IsTrueRenamed T m.d name m.e m.name) Invalid) (λ apart.
      right_allowed R c now T (IsTrueRenamed T m.d name m.e m.name) (may_take c m.y.attributes v.attributes) _ (λ sticky.
      right_if R c now T (IsTrueRenamed T m.d name m.e m.name) (not (may_replace T z j v)) _ _ (λ _. right_no R c now T (IsTrueRenamed T m.d name m.e m.name) Exists) (λ fits.
      to-right (Some (place_over m z v)) (with_node T j None) n z below place may (λ p is.
      give p apart (eqb-false j n two) sticky (replaced-empty T z j v tree at_j (not-false (may_replace T z j v) fits)) (place-over-is m z v p is))))))
    where
      -- the new name is the node's own
      unchanged : j ≡ n → IsRight R c now T (IsTrueRenamed T m.d name m.e m.name) (Ok (both_unchanged m), T)
      unchanged same =
          let q = one (T.at n).node v z (ap (λ (i : ℕ). (T.at i).node) (sym same) ∙ at_j) may.at in
          right_yes R c now T (IsTrueRenamed T m.d name m.e m.name) (both_unchanged m) T stays (record {
            source = record { before = true-of T m.d m.x may.source; after = true-of T m.d m.x may.source };
            goal = record { before = true-of T m.e m.y may.goal; after = true-of T m.e m.y may.goal };
            whole = (
              n,
              may.found,
              record {
                stands = found_j ∙ ap Some same;
                gone = inr (sym may.home ∙ ap (λ (x : Node). x.home.directory) (sym q) ∙ in_e, sym may.named ∙ ap (λ (x : Node). x.home.name) (sym q) ∙ named_j);
                same = λ x y both. (let e = one (T.at n).node x y both.before both.after in (sym (ap (λ (x : Node). x.body) e), subst (λ (y : Node). with_ctime x.attributes y.attributes.ctime ≡ without_verifier y.attributes) e refl));
                others = λ k y far at. (y, at, refl);
                stay = λ k x far at. inr (x, at);
              },
            );
          })

      give : (p : ℕ) → below ≡ false → j ≢ n → may_take c m.y.attributes v.attributes ≡ true → ((i : ℕ) (x : Node) → (T.at i).node ≡ Some x → x.home.directory ≡ j → ⊥)
          → ((m.d ≡ m.e) × (z.home.place ≡ p)) ⊎ ((m.d ≢ m.e) × (v.home.place ≡ p)) → IsMoved c T m n z p (with_node T j None)
      give p apart two sticky none way = to-moved (with_node T j None) n z below place p may apart without (kept_at m.d m.x (λ q. none n z may.at (may.home ∙ q)) may.source)
          (kept_at m.e m.y (not_itself T j m.e m.y v may.goal at_j in_e none) may.goal) (kept_at n z (λ q. two (sym q)) may.at) (record {
            name = λ i x far at directory named. gone i x at (one_name T i j x v tree (without.kept i x at) at_j (directory ∙ sym in_e) (named ∙ sym named_j));
            place = λ i x far at directory placed. here i x far at directory placed (home-place m z p) way;
          }) (λ fit. within fit way)
        where
          without : IsWithout c T m (with_node T j None)
          without = cut-without c T tree m j v may.goal found_j at_j in_e sticky none

          kept_at : (i : ℕ) (x : Node) → i ≢ j → (T.at i).node ≡ Some x → ((with_node T j None).at i).node ≡ Some x
          kept_at i x far is = ap (λ (s : Slot). s.node) (at_other T j i _ far) ∙ is

          gone : (i : ℕ) (x : Node) → ((with_node T j None).at i).node ≡ Some x → i ≡ j → ⊥
          gone i x at q = by (slot_cases T j (record { generation = (T.at j).generation; node = None }) i)
            where
              by : ((i ≡ j) × ((with_node T j None).at i ≡ record { generation = (T.at j).generation; node = None })) ⊎ ((i ≢ j) × ((with_node T j None).at i ≡ T.at i)) → ⊥
              by (inl r) = absurd (cc (sym (ap (λ (s : Slot). s.node) r.1) ∙ at))
              by (inr r) = r.0 q

          here : (i : ℕ) (x : Node) → i ≢ n → ((with_node T j None).at i).node ≡ Some x → x.home.directory ≡ m.e → x.home.place ≡ (new_home m z p).place
              → ((m.d ≡ m.e) × ((new_home m z p).place ≡ z.home.place)) ⊎ ((m.d ≢ m.e) × ((new_home m z p).place ≡ p)) → ((m.d ≡ m.e) × (z.home.place ≡ p)) ⊎ ((m.d ≢ m.e) × (v.home.place ≡ p)) → ⊥
          here i x far at directory placed (inl own) _ = far (one_place T i n x z tree (without.kept i x at) may.at (directory ∙ sym own.0 ∙ sym may.home) (placed ∙ own.1))
          here i x far at directory placed (inr other) (inl own) = absurd (other.0 own.0)
          here i x far at directory placed (inr other) (inr w) = gone i x at (one_place T i j x v tree (without.kept i x at) at_j (directory ∙ sym in_e) (placed ∙ other.1 ∙ sym w.1))

          within : HasFit T → ((m.d ≡ m.e) × (z.home.place ≡ p)) ⊎ ((m.d ≢ m.e) × (v.home.place ≡ p)) → p < MOST_PLACES
          within fit (inl w) = subst (λ (p : ℕ). p < MOST_PLACES) w.1 (fit.nodes n z may.at).place
          within fit (inr w) = subst (λ (p : ℕ). p < MOST_PLACES) w.1 (fit.nodes j v at_j).place

  node-right : (n : ℕ) (z : Node) (below : Bool) (place : Option ℕ) → (IsAllowed z → IsMovable n z below place) → IsRight R c now T (IsTrueRenamed T m.d name m.e m.name) (move_node c below place now T m n z)
  node-right n z below place movable = right_allowed R c now T (IsTrueRenamed T m.d name m.e m.name) (may_move c m z) _ (λ may.
      let all = movable (allowed-is z may) in
      right_search R c now T (IsTrueRenamed T m.d name m.e m.name) m.e m.name _ _ (new-right n z below place all) (λ j v found at home named. over-right n z below place all j v found at home named))

pub rename-right : (R : Known) (c : Caller) (now : Time) (T : Tree) (h : Handle) (name : List ℕ) (k : Handle) (new_name : List ℕ) (below : Bool) (place : Option ℕ) → HasTree T → MayTakePlace T h.number k.number place → TellsBelow T h.number name k.number below
    → IsRight R c now T (IsTrueRenamed T h.number name k.number new_name) (rename_case c below place name new_name now T (target T h) (target T k))
rename-right R c now T h name k new_name below place tree take tells =
    right_target R c now T G h _ (λ x1 is1. right_target R c now T G k _ (λ y1 at1.
    right_searched R c now T G h _ (λ x is source_kind. right_searched R c now T G k _ (λ y at kind.
    right_name R c now T G (name_kind name) Invalid Invalid _ (λ _. right_name R c now T G (name_kind new_name) Invalid Invalid _ (λ is_name.
    right_search R c now T G h.number name _ _ (λ _. right_no R c now T G NoEntry) (λ n z found there home named.
    node-right R c now T tree (record { d = h.number; x = x; e = k.number; y = y; name = new_name }) name n z below place (λ rights. record {
      source = is;
      goal = at;
      source_kind = source_kind;
      kind = kind;
      new_name = is_name;
      found = found;
      at = there;
      home = home;
      named = named;
      take = take;
      tells = tells;
      source_rights = rights.source;
      source_sticky = rights.sticky;
      parent_rights = rights.parent;
      goal_rights = rights.goal;
    }))))))))
  where
    G : Renamed → Tree → Type 0
    G = IsTrueRenamed T h.number name k.number new_name
