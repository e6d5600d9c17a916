-- The node of each number after one was moved.
use Rattle.std.proofs.Common.{◌≡◌, ◌≢◌, ℕ, ◌==◌, Bool, true, false, List, Option, Some, None, refl, sym, ap, subst, arith, ◌⊎◌, inl, inr, ◌∙◌}
use Rattle.std.specs.Prelude.{option_map, is_some, if◌then◌else◌}
use Rattle.std.proofs.lemmas.Bool.{cases_eq, eqb-true, eqb-false, eq-eqb, ne_eqb}
use Rattle.journal_tree.specs.declared.time.Time.{Time}
use Rattle.journal_tree.specs.Trees.{Home, Node, Slot, Tree, places_of, is_directory, find}
use Rattle.journal_tree.specs.Rule.{Stem, Stems, stem_of, stems, HasPlace, IsBelow, IsTree, HasTree}
use Rattle.journal_tree.specs.Rule.IsBelow.{itself}
use Rattle.journal_tree.specs.declared.caller.Caller.{Caller}
use Rattle.journal_tree.specs.Changes.{touched, touch, opened, touch_place}
use Rattle.journal_tree.specs.Renames.{Move, with_ctime, without_verifier, rehung, names_moved, new_home, moved, source_after}
use Rattle.journal_tree.specs.Runs.{IsOneNode}
use Rattle.journal_tree.specs.Laws.{IsRenamed}
use Rattle.journal_tree.proofs.Finding.{find-some}
use Rattle.journal_tree.proofs.Stems.{with_stem, KeepsPlaces, IsTree-hang}
use Rattle.journal_tree.proofs.Changing.{stem_from_node, node_from_stem, stems-with_slot, stems-touch, HasTree-touch, HasTree-place, place-kept, SameHomes, SameHomes-then, SameHomes-equal, SameHomes-place, way_back, free_in, slot_cases, map_cases, one, same_generation}
use Rattle.journal_tree.proofs.Hanging.{one_name, found_by_name}
use Rattle.journal_tree.proofs.Steps.{IsReplaced, IsMoved, own_slot}

-- ── a name goes from one directory to another ──

-- what a number has after it
pub data NamesCase (W V : Tree) (d e place : ℕ) (now : Time) (i : ℕ) : Type 0 where
  in_source : i ≡ d → i ≢ e → (V.at i).node ≡ option_map (touched now) (W.at i).node → NamesCase W V d e place now i
  in_goal : i ≡ e → (V.at i).node ≡ option_map (opened place now) (W.at i).node → NamesCase W V d e place now i
  elsewhere : i ≢ d → i ≢ e → V.at i ≡ W.at i → NamesCase W V d e place now i

pub names_cases : (W : Tree) (d e place : ℕ) (now : Time) (i : ℕ) → NamesCase W (names_moved W d e place now) d e place now i
names_cases W d e place now i = by (d == e) refl
  where
    by : (b : Bool) → (d == e) ≡ b → NamesCase W (if b then touch_place W d place now else touch_place (touch W d now) e place now) d e place now i
    by true same = both (map_cases W d (opened place now) i)
      where
        both : ((i ≡ d) × (((touch_place W d place now).at i).node ≡ option_map (opened place now) (W.at i).node)) ⊎ ((i ≢ d) × ((touch_place W d place now).at i ≡ W.at i))
            → NamesCase W (touch_place W d place now) d e place now i
        both (inl r) = in_goal (r.0 ∙ eqb-true d e same) r.1
        both (inr r) = elsewhere r.0 (λ q. r.0 (q ∙ sym (eqb-true d e same))) r.1
    by false two = goal (map_cases W d (touched now) i) (map_cases (touch W d now) e (opened place now) i)
      where
        goal : ((i ≡ d) × (((touch W d now).at i).node ≡ option_map (touched now) (W.at i).node)) ⊎ ((i ≢ d) × ((touch W d now).at i ≡ W.at i))
            → ((i ≡ e) × (((touch_place (touch W d now) e place now).at i).node ≡ option_map (opened place now) ((touch W d now).at i).node)) ⊎ ((i ≢ e) × ((touch_place (touch W d now) e place now).at i ≡ (touch W d now).at i))
            → NamesCase W (touch_place (touch W d now) e place now) d e place now i
        goal (inl r) (inl s) = absurd (eqb-false d e two (sym r.0 ∙ s.0))
        goal (inl r) (inr s) = in_source r.0 s.0 (ap (λ (s : Slot). s.node) s.1 ∙ r.1)
        goal (inr r) (inl s) = in_goal s.0 (s.1 ∙ ap (λ (s : Slot). option_map (opened place now) s.node) r.1)
        goal (inr r) (inr s) = elsewhere r.0 s.0 (s.1 ∙ r.1)

names-generation : (W : Tree) (d e place : ℕ) (now : Time) (i : ℕ) → ((names_moved W d e place now).at i).generation ≡ (W.at i).generation
names-generation W d e place now i = by (d == e)
  where
    by : (b : Bool) → ((if b then touch_place W d place now else touch_place (touch W d now) e place now).at i).generation ≡ (W.at i).generation
    by true = same_generation W d i _
    by false = same_generation (touch W d now) e i _ ∙ same_generation W d i _

-- a number that has a node keeps one, at its home
names-there : (W : Tree) (d e place : ℕ) (now : Time) (i : ℕ) (x : Node) → (W.at i).node ≡ Some x → (y : Node) × (((names_moved W d e place now).at i).node ≡ Some y) × (y.home ≡ x.home)
names-there W d e place now i x is = by (names_cases W d e place now i)
  where
    by : NamesCase W (names_moved W d e place now) d e place now i → (y : Node) × (((names_moved W d e place now).at i).node ≡ Some y) × (y.home ≡ x.home)
    by (in_source _ _ at) = (touched now x, at ∙ ap (option_map (touched now)) is, refl)
    by (in_goal _ at) = (opened place now x, at ∙ ap (option_map (opened place now)) is, refl)
    by (elsewhere _ _ at) = (x, ap (λ (s : Slot). s.node) at ∙ is, refl)

-- and none gets one
names-back : (W : Tree) (d e place : ℕ) (now : Time) (i : ℕ) (y : Node) → ((names_moved W d e place now).at i).node ≡ Some y → (x : Node) × ((W.at i).node ≡ Some x) × (x.home ≡ y.home)
names-back W d e place now i y is = by (names_cases W d e place now i)
  where
    old : (f : Node → Node) → ((x : Node) → (f x).home ≡ x.home) → (o : Option Node) → (W.at i).node ≡ o → option_map f o ≡ Some y → (x : Node) × ((W.at i).node ≡ Some x) × (x.home ≡ y.home)
    old f same None at q = absurd (cc (q))
    old f same (Some x) at q = let r : f x ≡ y = cc in (x, at, sym (same x) ∙ ap (λ (x : Node). x.home) r)

    by : NamesCase W (names_moved W d e place now) d e place now i → (x : Node) × ((W.at i).node ≡ Some x) × (x.home ≡ y.home)
    by (in_source _ _ at) = old (touched now) (λ x. refl) (W.at i).node refl (sym at ∙ is)
    by (in_goal _ at) = old (opened place now) (λ x. refl) (W.at i).node refl (sym at ∙ is)
    by (elsewhere _ _ at) = (y, sym (ap (λ (s : Slot). s.node) at) ∙ is, refl)

-- the tree keeps the rule, and the goal has the place, and each that it had
record HasGoal (W V : Tree) (e place : ℕ) : Type 0 where
  tree : HasTree V
  has : HasPlace (stems V) e place
  keeps : (p : ℕ) → HasPlace (stems W) e p → HasPlace (stems V) e p
  same : SameHomes (stems V) (stems W)

names-goal : (W : Tree) (d e place : ℕ) (y : Node) (now : Time) → HasTree W → (W.at e).node ≡ Some y → is_directory y.body ≡ true → HasGoal W (names_moved W d e place now) e place
names-goal W d e place y now tree at kind = by (d == e) refl
  where
    within : HasGoal W (touch_place W e place now) e place
    within =
        let opens = HasTree-place W e y place now tree at kind in
        record { tree = opens.0; has = opens.1; keeps = λ p has. place-kept W e y place now p at kind has; same = SameHomes-place W e place now }

    by : (b : Bool) → (d == e) ≡ b → HasGoal W (if b then touch_place W d place now else touch_place (touch W d now) e place now) e place
    by true same = subst (λ (d : ℕ). HasGoal W (touch_place W d place now) e place) (sym (eqb-true d e same)) within
    by false two =
        let z = node_from_stem (touch W d now) e (stem_of y) (ap (λ (S : Stems). S e) (stems-touch W d now) ∙ stem_from_node W e y at) in
        let z_kind : is_directory z.0.body ≡ true = ap (λ (s : Stem). is_some s.places) z.2 ∙ kind in
        let opens = HasTree-place (touch W d now) e z.0 place now (HasTree-touch W d now tree) z.1 z_kind in
        record {
          tree = opens.0;
          has = opens.1;
          keeps = λ p has. place-kept (touch W d now) e z.0 place now p z.1 z_kind (subst (λ (S : Stems). HasPlace S e p) (sym (stems-touch W d now)) has);
          same = SameHomes-then _ _ _ (SameHomes-place (touch W d now) e place now) (SameHomes-equal (stems (touch W d now)) (stems W) (stems-touch W d now));
        }

-- ── the node that is moved ──

abbrev pub moved_node : Move → ℕ → Time → Node → Node
moved_node m place now z = rehung (new_home m z place) now z

-- its own place in its directory, and in another the one of the call
pub home-place : (m : Move) (z : Node) (place : ℕ) → ((m.d ≡ m.e) × ((new_home m z place).place ≡ z.home.place)) ⊎ ((m.d ≢ m.e) × ((new_home m z place).place ≡ place))
home-place m z place = by (m.d == m.e) refl
  where
    by : (b : Bool) → (m.d == m.e) ≡ b → ((m.d ≡ m.e) × ((if b then z.home.place else place) ≡ z.home.place)) ⊎ ((m.d ≢ m.e) × ((if b then z.home.place else place) ≡ place))
    by true same = inl (eqb-true m.d m.e same, refl)
    by false two = inr (eqb-false m.d m.e two, refl)

module _ (c : Caller) (T : Tree) (m : Move) (n : ℕ) (z : Node) (place : ℕ) (W : Tree) (now : Time) (it : IsMoved c T m n z place W) where
  not_goal : n ≢ m.e
  not_goal q = it.apart (subst (IsBelow (stems W) n) q itself)

  -- what a number has after it
  pub moved_cases : (i : ℕ) → ((i ≡ n) × (((moved W m n z place now).at i).node ≡ Some (moved_node m place now z)))
      ⊎ ((i ≢ n) × ((moved W m n z place now).at i ≡ (names_moved W m.d m.e place now).at i))
  moved_cases i = by (slot_cases (names_moved W m.d m.e place now) n s i)
    where
      s : Slot
      s = record { generation = ((names_moved W m.d m.e place now).at n).generation; node = Some (moved_node m place now z) }

      by : ((i ≡ n) × ((moved W m n z place now).at i ≡ s)) ⊎ ((i ≢ n) × ((moved W m n z place now).at i ≡ (names_moved W m.d m.e place now).at i))
          → ((i ≡ n) × (((moved W m n z place now).at i).node ≡ Some (moved_node m place now z)))
          ⊎ ((i ≢ n) × ((moved W m n z place now).at i ≡ (names_moved W m.d m.e place now).at i))
      by (inl r) = inl (r.0, ap (λ (s : Slot). s.node) r.1)
      by (inr r) = inr r

  pub moved-generation : (i : ℕ) → ((moved W m n z place now).at i).generation ≡ (T.at i).generation
  moved-generation i = same_generation (names_moved W m.d m.e place now) n i _ ∙ names-generation W m.d m.e place now i ∙ it.without.generation i

  -- the directories after it
  other_slot : (i : ℕ) → i ≢ n → (moved W m n z place now).at i ≡ (names_moved W m.d m.e place now).at i
  other_slot i far = by (moved_cases i)
    where
      by : ((i ≡ n) × (((moved W m n z place now).at i).node ≡ Some (moved_node m place now z))) ⊎ ((i ≢ n) × ((moved W m n z place now).at i ≡ (names_moved W m.d m.e place now).at i))
          → (moved W m n z place now).at i ≡ (names_moved W m.d m.e place now).at i
      by (inl r) = absurd (far r.0)
      by (inr r) = r.1

  pub moved-source : ((moved W m n z place now).at m.d).node ≡ Some (source_after m place now)
  moved-source = ap (λ (s : Slot). s.node) (other_slot m.d (λ q. it.below_source (sym q))) ∙ by (names_cases W m.d m.e place now m.d)
    where
      choice : Bool → Node
      choice b = if b then opened place now m.x else touched now m.x

      by : NamesCase W (names_moved W m.d m.e place now) m.d m.e place now m.d → ((names_moved W m.d m.e place now).at m.d).node ≡ Some (source_after m place now)
      by (in_source _ two at) = at ∙ ap (option_map (touched now)) it.source ∙ ap (λ (b : Bool). Some (choice b)) (sym (ne_eqb m.d m.e two))
      by (in_goal same at) = at ∙ ap (option_map (opened place now)) it.source ∙ ap (λ (b : Bool). Some (choice b)) (sym (eq-eqb m.d m.e same))
      by (elsewhere far _ _) = absurd (far refl)

  pub moved-goal : ((moved W m n z place now).at m.e).node ≡ Some (opened place now m.y)
  moved-goal = ap (λ (s : Slot). s.node) (other_slot m.e (λ q. not_goal (sym q))) ∙ by (names_cases W m.d m.e place now m.e)
    where
      by : NamesCase W (names_moved W m.d m.e place now) m.d m.e place now m.e → ((names_moved W m.d m.e place now).at m.e).node ≡ Some (opened place now m.y)
      by (in_source _ far _) = absurd (far refl)
      by (in_goal _ at) = at ∙ ap (option_map (opened place now)) it.goal
      by (elsewhere _ far _) = absurd (far refl)

  -- what becomes of the others
  pub others-there : (i : ℕ) (x : Node) → i ≢ n → (W.at i).node ≡ Some x → (y : Node) × (((moved W m n z place now).at i).node ≡ Some y) × (y.home ≡ x.home)
  others-there i x far is =
      let y = names-there W m.d m.e place now i x is in
      (y.0, ap (λ (s : Slot). s.node) (other_slot i far) ∙ y.1, y.2)

  pub others-back : (i : ℕ) (y : Node) → i ≢ n → ((moved W m n z place now).at i).node ≡ Some y → (x : Node) × ((T.at i).node ≡ Some x) × (x.home ≡ y.home)
  others-back i y far is =
      let x = names-back W m.d m.e place now i y (sym (ap (λ (s : Slot). s.node) (other_slot i far)) ∙ is) in
      (x.0, it.without.kept i x.0 x.1, x.2)

  -- none goes but what is replaced
  pub moved-gone : (i : ℕ) (x : Node) → (T.at i).node ≡ Some x → ((moved W m n z place now).at i).node ≡ None → IsReplaced c T m i x
  moved-gone i x is gone = by (it.without.left i x is) (moved_cases i)
    where
      by : ((W.at i).node ≡ Some x) ⊎ IsReplaced c T m i x
          → ((i ≡ n) × (((moved W m n z place now).at i).node ≡ Some (moved_node m place now z))) ⊎ ((i ≢ n) × ((moved W m n z place now).at i ≡ (names_moved W m.d m.e place now).at i))
          → IsReplaced c T m i x
      by (inr replaced) _ = replaced
      by (inl there) (inl r) = absurd (cc (sym r.1 ∙ gone))
      by (inl there) (inr r) = let y = others-there i x r.0 there in absurd (cc (sym y.1 ∙ gone))

  -- ── the rule ──

  own_place : m.d ≡ m.e → HasPlace (stems W) m.e z.home.place
  own_place same =
      subst (λ (e : ℕ). HasPlace (stems W) e z.home.place) (it.home ∙ same) (it.without.tree.hangs n (stem_of z) (stem_from_node W n z it.at) it.below_root)

  pub moved-tree : HasTree (moved W m n z place now)
  moved-tree = subst (IsTree (names_moved W m.d m.e place now).numbers) (sym all) hangs
    where
      V : Tree
      V = names_moved W m.d m.e place now

      v : Stem
      v = record { home = new_home m z place; places = places_of z.body }

      all : stems (moved W m n z place now) ≡ with_stem (stems (names_moved W m.d m.e place now)) n (Some v)
      all = stems-with_slot (names_moved W m.d m.e place now) n _

      g : HasGoal W (names_moved W m.d m.e place now) m.e place
      g = names-goal W m.d m.e place m.y now it.without.tree it.goal it.kind

      has_place : ((m.d ≡ m.e) × ((new_home m z place).place ≡ z.home.place)) ⊎ ((m.d ≢ m.e) × ((new_home m z place).place ≡ place))
          → HasPlace (stems (names_moved W m.d m.e place now)) m.e (new_home m z place).place
      has_place (inl own) = subst (HasPlace (stems (names_moved W m.d m.e place now)) m.e) (sym own.1) (g.keeps z.home.place (own_place own.0))
      has_place (inr other) = subst (HasPlace (stems (names_moved W m.d m.e place now)) m.e) (sym other.1) g.has

      still : NamesCase W (names_moved W m.d m.e place now) m.d m.e place now n → stems (names_moved W m.d m.e place now) n ≡ Some (stem_of z)
      still (in_source q _ _) = absurd (it.below_source q)
      still (in_goal q _) = absurd (not_goal q)
      still (elsewhere _ _ at) = ap (λ (s : Slot). option_map stem_of s.node) at ∙ stem_from_node W n z it.at

      stays : stems (names_moved W m.d m.e place now) n ≡ Some (stem_of z)
      stays = still (names_cases W m.d m.e place now n)

      keeps : KeepsPlaces (stems (names_moved W m.d m.e place now)) n v
      keeps s places at has =
          let q : Some s ≡ Some (stem_of z) = sym at ∙ stays in
          let q2 : s ≡ stem_of z = cc in
          (places, sym (ap (λ (s : Stem). s.places) q2) ∙ has, omega arith)

      frees : ((i : ℕ) (s : Stem) → i ≢ n → stems (names_moved W m.d m.e place now) i ≡ Some s → s.home.directory ≡ m.e → s.home.name ≡ m.name → ⊥)
          × ((i : ℕ) (s : Stem) → i ≢ n → stems (names_moved W m.d m.e place now) i ≡ Some s → s.home.directory ≡ m.e → s.home.place ≡ (new_home m z place).place → ⊥)
      frees = free_in W (stems (names_moved W m.d m.e place now)) n (new_home m z place) g.same it.free

      hangs : IsTree (names_moved W m.d m.e place now).numbers (with_stem (stems (names_moved W m.d m.e place now)) n (Some v))
      hangs = IsTree-hang (names_moved W m.d m.e place now).numbers (stems (names_moved W m.d m.e place now)) n v g.tree (record {
        low = g.tree.bounded n (stem_of z) stays;
        other = it.below_root;
        some = λ q. absurd (cc (sym g.tree.zero ∙ ap (stems (names_moved W m.d m.e place now)) (sym q) ∙ stays));
        kind = keeps;
        directory = has_place (home-place m z place);
        apart = λ way. it.apart (way_back (stems (names_moved W m.d m.e place now)) (stems W) n m.e g.same way);
        name = frees.0;
        place = frees.1;
      })

  -- ── RENAME is whole ──

  pub moved-whole : HasTree T → (name : List ℕ) → z.home.name ≡ name → IsRenamed T (moved W m n z place now) m.d name m.e m.name n
  moved-whole tree name named = record {
    stands = found_by_name (moved W m n z place now) n (moved_node m place now z) moved-tree at_n;
    gone = gone (find (moved W m n z place now) m.d name) refl;
    same = λ x y both. same x y both;
    others = λ i y far at. others-back i y far at;
    stay = λ i x far at. stay i x far (it.without.left i x at);
  }
    where
      at_n : ((moved W m n z place now).at n).node ≡ Some (moved_node m place now z)
      at_n = ap (λ (s : Slot). s.node) (own_slot (names_moved W m.d m.e place now) n _)

      same : (x y : Node) → IsOneNode T (moved W m n z place now) n x y → (y.body ≡ x.body) × (with_ctime x.attributes y.attributes.ctime ≡ without_verifier y.attributes)
      same x y both =
          let was = one (T.at n).node z x (it.without.kept n z it.at) both.before in
          let after = one ((moved W m n z place now).at n).node (moved_node m place now z) y at_n both.after in
          (sym (ap (λ (y : Node). y.body) after) ∙ ap (λ (x : Node). x.body) was, subst (λ (x : Node). with_ctime x.attributes y.attributes.ctime ≡ without_verifier y.attributes) was (subst (λ (y : Node). with_ctime z.attributes y.attributes.ctime ≡ without_verifier y.attributes) after refl))

      stay : (i : ℕ) (x : Node) → i ≢ n → ((W.at i).node ≡ Some x) ⊎ IsReplaced c T m i x → (find T m.e m.name ≡ Some i) ⊎ ((y : Node) × (((moved W m n z place now).at i).node ≡ Some y))
      stay i x far (inl there) = let y = others-there i x far there in inr (y.0, y.1)
      stay i x far (inr replaced) = inl replaced.found

      gone : (o : Option ℕ) → find (moved W m n z place now) m.d name ≡ o → (find (moved W m n z place now) m.d name ≡ None) ⊎ ((m.d ≡ m.e) × (name ≡ m.name))
      gone None at = inl at
      gone (Some k) at = here (cases_eq k n) (find-some (moved W m n z place now) m.d name k at)
        where
          here : (k ≡ n) ⊎ (k ≡ n → ⊥) → (y : Node) × (((moved W m n z place now).at k).node ≡ Some y) × (y.home.directory ≡ m.d) × (y.home.name ≡ name) → (find (moved W m n z place now) m.d name ≡ None) ⊎ ((m.d ≡ m.e) × (name ≡ m.name))
          here (inl same) h =
              let q = one ((moved W m n z place now).at n).node (moved_node m place now z) h.0 at_n (ap (λ (i : ℕ). ((moved W m n z place now).at i).node) (sym same) ∙ h.1) in
              inr (sym h.2 ∙ ap (λ (x : Node). x.home.directory) (sym q), sym h.3 ∙ ap (λ (x : Node). x.home.name) (sym q))
          here (inr far) h =
              let x = others-back k h.0 far h.1 in
              absurd (far (one_name T k n x.0 z tree x.1 (it.without.kept n z it.at) (ap (λ (h : Home). h.directory) x.2 ∙ h.2 ∙ sym it.home) (ap (λ (h : Home). h.name) x.2 ∙ h.3 ∙ sym named)))
