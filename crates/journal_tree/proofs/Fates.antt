-- What becomes of one node, and of one directory's names, by a step.
use Rattle.std.proofs.Common.{◌≡◌, ◌≢◌, ℕ, ◌+◌, ◌<◌, ◌≤◌, true, false, Option, Some, None, refl, sym, ap, subst, arith, ◌⊎◌, inl, inr, ◌∙◌}
use Rattle.std.specs.Prelude.{option_map}
use Rattle.std.proofs.lemmas.Bool.{cases_eq}
use Rattle.journal_tree.specs.declared.time.Time.{Time}
use Rattle.journal_tree.specs.Trees.{Home, Node, Slot, Tree, is_directory, with_slot, with_node, find}
use Rattle.journal_tree.specs.Times.{time_of_change, time_of_names}
use Rattle.journal_tree.specs.declared.caller.Caller.{Caller}
use Rattle.journal_tree.specs.Rights.{may_write, may_rename}
use Rattle.journal_tree.specs.Rule.{stems, IsBelow, HasTree}
use Rattle.journal_tree.specs.Rule.IsBelow.{itself}
use Rattle.journal_tree.specs.Changes.{with_times, touched, opened, touch_place, cut}
use Rattle.journal_tree.specs.Renames.{Move, with_ctime, names_moved, moved}
use Rattle.journal_tree.specs.Runs.{IsOneNode, HasSameNames}
use Rattle.journal_tree.specs.Laws.{IsRightfulMove}
use Rattle.journal_tree.proofs.Finding.{find-some, find-none}
use Rattle.journal_tree.proofs.Changing.{slot_cases, map_cases, one, same_generation}
use Rattle.journal_tree.proofs.Hanging.{low, not_itself, found_by_name}
use Rattle.journal_tree.proofs.Steps.{Known, IsChange, IsReplaced, IsMoved, Step}
use Rattle.journal_tree.proofs.Steps.Step.{stays, sets, plants, cuts, moves}
use Rattle.journal_tree.proofs.Moving.{NamesCase, names_cases, moved_node, moved_cases, moved-generation, moved-tree, others-there, others-back}
use Rattle.journal_tree.proofs.Moving.NamesCase.{in_source, in_goal, elsewhere}
use Rattle.journal_tree.proofs.Keeping.{step-keeps}

-- ── names ──

-- what hangs in a directory of the one tree hangs so in the other
pub record HangsToo (T T2 : Tree) (d : ℕ) : Type 0 where
  pub too : (i : ℕ) (x : Node) → (T.at i).node ≡ Some x → x.home.directory ≡ d → (y : Node) × ((T2.at i).node ≡ Some y) × (y.home ≡ x.home)

pub same-names : (T T2 : Tree) (d : ℕ) → HasTree T → HasTree T2 → HangsToo T T2 d → HangsToo T2 T d → HasSameNames T T2 d
same-names T T2 d tree tree2 there back name = by (find T d name) refl
  where
    none : (o : Option ℕ) → find T d name ≡ None → find T2 d name ≡ o → None ≡ o
    none None is at = refl
    none (Some j) is at =
        let y = find-some T2 d name j at in
        let x = back.too j y.0 y.1 y.2 in
        absurd (find-none T d name j x.0 is (low T j x.0 tree x.1) x.1 (ap (λ (h : Home). h.directory) x.2 ∙ y.2) (ap (λ (h : Home). h.name) x.2 ∙ y.3))

    by : (o : Option ℕ) → find T d name ≡ o → find T d name ≡ find T2 d name
    by None is = is ∙ none (find T2 d name) is refl
    by (Some i) is =
        let x = find-some T d name i is in
        let y = there.too i x.0 x.1 x.2 in
        let at = found_by_name T2 i y.0 tree2 y.1 in
        let directory : y.0.home.directory ≡ d = ap (λ (h : Home). h.directory) y.2 ∙ x.2 in
        let named : y.0.home.name ≡ name = ap (λ (h : Home). h.name) y.2 ∙ x.3 in
        is ∙ sym (ap (λ (d : ℕ). find T2 d name) (sym directory) ∙ ap (find T2 y.0.home.directory) (sym named) ∙ at)

-- ── one step ──

-- What becomes of a node that is there before and after a step
pub data Fate (R : Known) (c : Caller) (now : Time) (T T2 : Tree) (n : ℕ) (x y : Node) : Type 0 where
  same : x ≡ y → HasSameNames T T2 n → Fate R c now T T2 n x y
  set : IsChange R c now x y → HasSameNames T T2 n → Fate R c now T T2 n x y
  names : y.attributes ≡ with_times x.attributes (time_of_names x.attributes now) → y.home ≡ x.home → may_rename c x.attributes ≡ true → Fate R c now T T2 n x y
  hung : y.attributes ≡ with_ctime x.attributes (time_of_change x.attributes.ctime now) → y.body ≡ x.body → IsRightfulMove c T x y → HasSameNames T T2 n → Fate R c now T T2 n x y

module _ (R : Known) (c : Caller) (now : Time) (T : Tree) (tree : HasTree T) where
  -- nodes stay where they hang where one is set
  sets-hang : (m : ℕ) (a b : Node) → (T.at m).node ≡ Some a → b.home ≡ a.home → (d : ℕ) → HangsToo T (with_node T m (Some b)) d × HangsToo (with_node T m (Some b)) T d
  sets-hang m a b is home d = (record { too = there }, record { too = back })
    where
      s : Slot
      s = record { generation = (T.at m).generation; node = Some b }

      there : (i : ℕ) (x : Node) → (T.at i).node ≡ Some x → x.home.directory ≡ d → (y : Node) × (((with_node T m (Some b)).at i).node ≡ Some y) × (y.home ≡ x.home)
      there i x at _ = by (slot_cases T m (record { generation = (T.at m).generation; node = Some b }) i)
        where
          by : ((i ≡ m) × ((with_node T m (Some b)).at i ≡ record { generation = (T.at m).generation; node = Some b })) ⊎ ((i ≢ m) × ((with_node T m (Some b)).at i ≡ T.at i))
              → (y : Node) × (((with_node T m (Some b)).at i).node ≡ Some y) × (y.home ≡ x.home)
          by (inl e) = (b, ap (λ (s : Slot). s.node) e.1, home ∙ ap (λ (x : Node). x.home) (one (T.at m).node a x is (ap (λ (i : ℕ). (T.at i).node) (sym e.0) ∙ at)))
          by (inr e) = (x, ap (λ (s : Slot). s.node) e.1 ∙ at, refl)

      back : (i : ℕ) (y : Node) → ((with_node T m (Some b)).at i).node ≡ Some y → y.home.directory ≡ d → (x : Node) × ((T.at i).node ≡ Some x) × (x.home ≡ y.home)
      back i y at _ = by (slot_cases T m (record { generation = (T.at m).generation; node = Some b }) i)
        where
          by : ((i ≡ m) × ((with_node T m (Some b)).at i ≡ record { generation = (T.at m).generation; node = Some b })) ⊎ ((i ≢ m) × ((with_node T m (Some b)).at i ≡ T.at i))
              → (x : Node) × ((T.at i).node ≡ Some x) × (x.home ≡ y.home)
          by (inl e) = (a, ap (λ (i : ℕ). (T.at i).node) e.0 ∙ is, sym home ∙ ap (λ (x : Node). x.home) (one ((with_node T m (Some b)).at i).node b y (ap (λ (s : Slot). s.node) e.1) at))
          by (inr e) = (y, sym (ap (λ (s : Slot). s.node) e.1) ∙ at, refl)

  -- nor do they move in another directory where a node is planted
  plants-hang : (d : ℕ) (a : Node) (m : ℕ) (b : Node) (place : ℕ) (s : Slot) → (T.at d).node ≡ Some a → (T.at m).node ≡ None → s.node ≡ Some b → b.home.directory ≡ d → (e : ℕ) → e ≢ d
      → HangsToo T (with_slot (touch_place T d place now) m s) e × HangsToo (with_slot (touch_place T d place now) m s) T e
  plants-hang d a m b place s is none new home e other = (record { too = there }, record { too = back })
    where
      f : Node → Node
      f = opened place now

      there : (i : ℕ) (x : Node) → (T.at i).node ≡ Some x → x.home.directory ≡ e → (y : Node) × (((with_slot (touch_place T d place now) m s).at i).node ≡ Some y) × (y.home ≡ x.home)
      there i x at hangs = by (slot_cases (touch_place T d place now) m s i) (map_cases T d (opened place now) i)
        where
          by : ((i ≡ m) × ((with_slot (touch_place T d place now) m s).at i ≡ s)) ⊎ ((i ≢ m) × ((with_slot (touch_place T d place now) m s).at i ≡ (touch_place T d place now).at i))
              → ((i ≡ d) × (((touch_place T d place now).at i).node ≡ option_map (opened place now) (T.at i).node)) ⊎ ((i ≢ d) × ((touch_place T d place now).at i ≡ T.at i))
              → (y : Node) × (((with_slot (touch_place T d place now) m s).at i).node ≡ Some y) × (y.home ≡ x.home)
          by (inl p) _ = absurd (cc (sym none ∙ ap (λ (i : ℕ). (T.at i).node) (sym p.0) ∙ at))
          by (inr p) (inl q) = (opened place now x, ap (λ (s : Slot). s.node) p.1 ∙ q.1 ∙ ap (option_map (opened place now)) at, refl)
          by (inr p) (inr q) = (x, ap (λ (s : Slot). s.node) p.1 ∙ ap (λ (s : Slot). s.node) q.1 ∙ at, refl)

      back : (i : ℕ) (y : Node) → ((with_slot (touch_place T d place now) m s).at i).node ≡ Some y → y.home.directory ≡ e → (x : Node) × ((T.at i).node ≡ Some x) × (x.home ≡ y.home)
      back i y at hangs = by (slot_cases (touch_place T d place now) m s i) (map_cases T d (opened place now) i)
        where
          old : (o : Option Node) → (T.at i).node ≡ o → option_map (opened place now) o ≡ Some y → (x : Node) × ((T.at i).node ≡ Some x) × (x.home ≡ y.home)
          old None there e = absurd (cc (e))
          old (Some x) there e = let q : opened place now x ≡ y = cc in (x, there, ap (λ (x : Node). x.home) q)

          by : ((i ≡ m) × ((with_slot (touch_place T d place now) m s).at i ≡ s)) ⊎ ((i ≢ m) × ((with_slot (touch_place T d place now) m s).at i ≡ (touch_place T d place now).at i))
              → ((i ≡ d) × (((touch_place T d place now).at i).node ≡ option_map (opened place now) (T.at i).node)) ⊎ ((i ≢ d) × ((touch_place T d place now).at i ≡ T.at i))
              → (x : Node) × ((T.at i).node ≡ Some x) × (x.home ≡ y.home)
          by (inl p) _ = absurd (other (sym hangs ∙ ap (λ (x : Node). x.home.directory) (one s.node y b (sym (ap (λ (s : Slot). s.node) p.1) ∙ at) new) ∙ home))
          by (inr p) (inl q) = old (T.at i).node refl (sym q.1 ∙ sym (ap (λ (s : Slot). s.node) p.1) ∙ at)
          by (inr p) (inr q) = (y, sym (ap (λ (s : Slot). s.node) q.1) ∙ sym (ap (λ (s : Slot). s.node) p.1) ∙ at, refl)

  -- nor where one is cut
  cuts-hang : (d m : ℕ) (a b : Node) → (T.at d).node ≡ Some a → (T.at m).node ≡ Some b → b.home.directory ≡ d → (e : ℕ) → e ≢ d
      → HangsToo T (cut T d m now) e × HangsToo (cut T d m now) T e
  cuts-hang d m a b is at_m home e other = (record { too = there }, record { too = back })
    where
      there : (i : ℕ) (x : Node) → (T.at i).node ≡ Some x → x.home.directory ≡ e → (y : Node) × (((cut T d m now).at i).node ≡ Some y) × (y.home ≡ x.home)
      there i x at hangs = by (slot_cases T m (record { generation = (T.at m).generation; node = None }) i) (map_cases (with_node T m None) d (touched now) i)
        where
          by : ((i ≡ m) × ((with_node T m None).at i ≡ record { generation = (T.at m).generation; node = None })) ⊎ ((i ≢ m) × ((with_node T m None).at i ≡ T.at i))
              → ((i ≡ d) × (((cut T d m now).at i).node ≡ option_map (touched now) ((with_node T m None).at i).node)) ⊎ ((i ≢ d) × ((cut T d m now).at i ≡ (with_node T m None).at i))
              → (y : Node) × (((cut T d m now).at i).node ≡ Some y) × (y.home ≡ x.home)
          by (inl p) _ = absurd (other (sym hangs ∙ ap (λ (x : Node). x.home.directory) (one (T.at m).node x b (ap (λ (i : ℕ). (T.at i).node) (sym p.0) ∙ at) at_m) ∙ home))
          by (inr p) (inl q) = (touched now x, q.1 ∙ ap (λ (s : Slot). option_map (touched now) s.node) p.1 ∙ ap (option_map (touched now)) at, refl)
          by (inr p) (inr q) = (x, ap (λ (s : Slot). s.node) q.1 ∙ ap (λ (s : Slot). s.node) p.1 ∙ at, refl)

      back : (i : ℕ) (y : Node) → ((cut T d m now).at i).node ≡ Some y → y.home.directory ≡ e → (x : Node) × ((T.at i).node ≡ Some x) × (x.home ≡ y.home)
      back i y at hangs = by (slot_cases T m (record { generation = (T.at m).generation; node = None }) i) (map_cases (with_node T m None) d (touched now) i)
        where
          old : (o : Option Node) → (T.at i).node ≡ o → option_map (touched now) o ≡ Some y → (x : Node) × ((T.at i).node ≡ Some x) × (x.home ≡ y.home)
          old None there e = absurd (cc (e))
          old (Some x) there e = let q : touched now x ≡ y = cc in (x, there, ap (λ (x : Node). x.home) q)

          by : ((i ≡ m) × ((with_node T m None).at i ≡ record { generation = (T.at m).generation; node = None })) ⊎ ((i ≢ m) × ((with_node T m None).at i ≡ T.at i))
              → ((i ≡ d) × (((cut T d m now).at i).node ≡ option_map (touched now) ((with_node T m None).at i).node)) ⊎ ((i ≢ d) × ((cut T d m now).at i ≡ (with_node T m None).at i))
              → (x : Node) × ((T.at i).node ≡ Some x) × (x.home ≡ y.home)
          by (inl p) (inl q) = absurd (cc (sym (q.1 ∙ ap (λ (s : Slot). option_map (touched now) s.node) p.1) ∙ at))
          by (inl p) (inr q) = absurd (cc (sym (ap (λ (s : Slot). s.node) q.1 ∙ ap (λ (s : Slot). s.node) p.1) ∙ at))
          by (inr p) (inl q) = old (T.at i).node refl (sym (q.1 ∙ ap (λ (s : Slot). option_map (touched now) s.node) p.1) ∙ at)
          by (inr p) (inr q) = (y, sym (ap (λ (s : Slot). s.node) q.1 ∙ ap (λ (s : Slot). s.node) p.1) ∙ at, refl)

  -- nor, in a third directory, where one is moved
  moves-hang : (m : Move) (n : ℕ) (z : Node) (place : ℕ) (W : Tree) → IsMoved c T m n z place W → (f : ℕ) → f ≢ m.d → f ≢ m.e
      → HangsToo T (moved W m n z place now) f × HangsToo (moved W m n z place now) T f
  moves-hang m n z place W it f far_d far_e = (record { too = there }, record { too = back })
    where
      there : (i : ℕ) (x : Node) → (T.at i).node ≡ Some x → x.home.directory ≡ f → (y : Node) × (((moved W m n z place now).at i).node ≡ Some y) × (y.home ≡ x.home)
      there i x at hangs = by (it.without.left i x at) (cases_eq i n)
        where
          by : ((W.at i).node ≡ Some x) ⊎ IsReplaced c T m i x → (i ≡ n) ⊎ (i ≡ n → ⊥) → (y : Node) × (((moved W m n z place now).at i).node ≡ Some y) × (y.home ≡ x.home)
          by (inr replaced) _ = absurd (far_e (sym hangs ∙ replaced.home))
          by (inl is) (inl itself_is) =
              let q = one (W.at n).node z x it.at (ap (λ (i : ℕ). (W.at i).node) (sym itself_is) ∙ is) in
              absurd (far_d (sym hangs ∙ ap (λ (x : Node). x.home.directory) (sym q) ∙ it.home))
          by (inl is) (inr far) = others-there c T m n z place W now it i x far is

      back : (i : ℕ) (y : Node) → ((moved W m n z place now).at i).node ≡ Some y → y.home.directory ≡ f → (x : Node) × ((T.at i).node ≡ Some x) × (x.home ≡ y.home)
      back i y at hangs = by (moved_cases c T m n z place W now it i)
        where
          by : ((i ≡ n) × (((moved W m n z place now).at i).node ≡ Some (moved_node m place now z))) ⊎ ((i ≢ n) × ((moved W m n z place now).at i ≡ (names_moved W m.d m.e place now).at i))
              → (x : Node) × ((T.at i).node ≡ Some x) × (x.home ≡ y.home)
          by (inl r) = absurd (far_e (sym hangs ∙ ap (λ (x : Node). x.home.directory) (one ((moved W m n z place now).at i).node y (moved_node m place now z) at r.1)))
          by (inr r) = others-back c T m n z place W now it i y r.0 at

  pub fate : (T2 : Tree) → Step R c now T T2 → (n : ℕ) (x y : Node) → IsOneNode T T2 n x y → Fate R c now T T2 n x y
  fate _ stays n x y it = same (one (T.at n).node x y it.before it.after) (λ name. refl)
  fate _ (sets m a b is change) n x y it = by (slot_cases T m (record { generation = (T.at m).generation; node = Some b }) n)
    where
      hang : HangsToo T (with_node T m (Some b)) n × HangsToo (with_node T m (Some b)) T n
      hang = sets-hang m a b is change.home n

      same_names : HasSameNames T (with_node T m (Some b)) n
      same_names = same-names T (with_node T m (Some b)) n tree (step-keeps R c now T (with_node T m (Some b)) tree (sets m a b is change)) hang.0 hang.1

      by : ((n ≡ m) × ((with_node T m (Some b)).at n ≡ record { generation = (T.at m).generation; node = Some b })) ⊎ ((n ≢ m) × ((with_node T m (Some b)).at n ≡ T.at n)) → Fate R c now T (with_node T m (Some b)) n x y
      by (inl e) =
          let first = one (T.at m).node a x is (ap (λ (i : ℕ). (T.at i).node) (sym e.0) ∙ it.before) in
          let second = one ((with_node T m (Some b)).at n).node b y (ap (λ (s : Slot). s.node) e.1) it.after in
          set (subst (λ (x : Node). IsChange R c now x y) first (subst (IsChange R c now a) second change)) same_names
      by (inr e) = same (one (T.at n).node x y it.before (sym (ap (λ (s : Slot). s.node) e.1) ∙ it.after)) same_names
  fate _ (plants d a room b p) n x y it = by (cases_eq n d) (slot_cases (touch_place T d b.home.place now) room.number s n) (map_cases T d (opened b.home.place now) n)
    where
      s : Slot
      s = record { generation = ((touch_place T d b.home.place now).at room.number).generation + 1; node = Some b }

      V : Tree
      V = with_slot (touch_place T d b.home.place now) room.number (record { generation = ((touch_place T d b.home.place now).at room.number).generation + 1; node = Some b })

      same_names : n ≢ d → HasSameNames T (with_slot (touch_place T d b.home.place now) room.number (record { generation = ((touch_place T d b.home.place now).at room.number).generation + 1; node = Some b })) n
      same_names other =
          let hang = plants-hang d a room.number b b.home.place (record { generation = ((touch_place T d b.home.place now).at room.number).generation + 1; node = Some b }) p.is p.room.free refl p.directory n other in
          same-names T _ n tree (step-keeps R c now T _ tree (plants d a room b p)) hang.0 hang.1

      by : (n ≡ d) ⊎ (n ≡ d → ⊥)
          → ((n ≡ room.number) × ((with_slot (touch_place T d b.home.place now) room.number s).at n ≡ s)) ⊎ ((n ≢ room.number) × ((with_slot (touch_place T d b.home.place now) room.number s).at n ≡ (touch_place T d b.home.place now).at n))
          → ((n ≡ d) × (((touch_place T d b.home.place now).at n).node ≡ option_map (opened b.home.place now) (T.at n).node)) ⊎ ((n ≢ d) × ((touch_place T d b.home.place now).at n ≡ T.at n))
          → Fate R c now T (with_slot (touch_place T d b.home.place now) room.number s) n x y
      by _ (inl q) _ = absurd (cc (sym p.room.free ∙ ap (λ (i : ℕ). (T.at i).node) (sym q.0) ∙ it.before))
      by (inl e) (inr q) (inr r) = absurd (r.0 e)
      by (inr other) (inr q) (inl r) = absurd (other r.0)
      by (inl e) (inr q) (inl r) =
          let was = one (T.at n).node a x (ap (λ (i : ℕ). (T.at i).node) e ∙ p.is) it.before in
          let after = one _ (opened b.home.place now x) y (ap (λ (s : Slot). s.node) q.1 ∙ r.1 ∙ ap (option_map (opened b.home.place now)) it.before) it.after in
          names (sym (ap (λ (x : Node). x.attributes) after)) (sym (ap (λ (x : Node). x.home) after)) (subst (λ (x : Node). may_rename c x.attributes ≡ true) was p.rights)
      by (inr other) (inr q) (inr r) = same (one (T.at n).node x y it.before (sym (ap (λ (s : Slot). s.node) q.1 ∙ ap (λ (s : Slot). s.node) r.1) ∙ it.after)) (same_names other)
  fate _ (cuts d m a b p) n x y it = by (cases_eq n d) (slot_cases T m (record { generation = (T.at m).generation; node = None }) n) (map_cases (with_node T m None) d (touched now) n)
    where
      same_names : n ≢ d → HasSameNames T (cut T d m now) n
      same_names other =
          let hang = cuts-hang d m a b p.is p.at p.home n other in
          same-names T (cut T d m now) n tree (step-keeps R c now T (cut T d m now) tree (cuts d m a b p)) hang.0 hang.1

      by : (n ≡ d) ⊎ (n ≡ d → ⊥)
          → ((n ≡ m) × ((with_node T m None).at n ≡ record { generation = (T.at m).generation; node = None })) ⊎ ((n ≢ m) × ((with_node T m None).at n ≡ T.at n))
          → ((n ≡ d) × (((cut T d m now).at n).node ≡ option_map (touched now) ((with_node T m None).at n).node)) ⊎ ((n ≢ d) × ((cut T d m now).at n ≡ (with_node T m None).at n))
          → Fate R c now T (cut T d m now) n x y
      by (inl e) (inl q) _ = absurd (not_itself T m d a b p.is p.at p.home p.empty (sym e ∙ q.0))
      by (inl e) (inr q) (inr r) = absurd (r.0 e)
      by (inr other) _ (inl r) = absurd (other r.0)
      by (inl e) (inr q) (inl r) =
          let was = one (T.at n).node a x (ap (λ (i : ℕ). (T.at i).node) e ∙ p.is) it.before in
          let after = one _ (touched now x) y (r.1 ∙ ap (λ (s : Slot). option_map (touched now) s.node) q.1 ∙ ap (option_map (touched now)) it.before) it.after in
          names (sym (ap (λ (x : Node). x.attributes) after)) (sym (ap (λ (x : Node). x.home) after)) (subst (λ (x : Node). may_rename c x.attributes ≡ true) was p.rights)
      by (inr other) (inl q) (inr r) = absurd (cc (sym (ap (λ (s : Slot). s.node) r.1 ∙ ap (λ (s : Slot). s.node) q.1) ∙ it.after))
      by (inr other) (inr q) (inr r) = same (one (T.at n).node x y it.before (sym (ap (λ (s : Slot). s.node) r.1 ∙ ap (λ (s : Slot). s.node) q.1) ∙ it.after)) (same_names other)
  fate _ (moves m n z place W it) k x y one_node = by (moved_cases c T m n z place W now it k)
    where
      same_names : k ≢ m.d → k ≢ m.e → HasSameNames T (moved W m n z place now) k
      same_names far_d far_e =
          let hang = moves-hang m n z place W it k far_d far_e in
          same-names T (moved W m n z place now) k tree (moved-tree c T m n z place W now it) hang.0 hang.1

      parent : (m.d ≡ m.e) ⊎ (is_directory z.body ≡ false) ⊎ (may_write c z.attributes ≡ true) → (m.e ≡ z.home.directory) ⊎ (is_directory z.body ≡ false) ⊎ (may_write c z.attributes ≡ true)
      parent (inl same_directory) = inl (sym same_directory ∙ sym it.home)
      parent (inr may) = inr may

      move : IsRightfulMove c T z (moved_node m place now z)
      move = record {
        taken = record {
          directory = m.x;
          is = ap (λ (d : ℕ). (T.at d).node) it.home ∙ it.without.kept m.d m.x it.source;
          names = it.source_rights;
          sticky = it.source_sticky;
        };
        parent = parent it.parent_rights;
      }

      -- one of the directories, and all others
      named : k ≢ n → (moved W m n z place now).at k ≡ (names_moved W m.d m.e place now).at k → NamesCase W (names_moved W m.d m.e place now) m.d m.e place now k → Fate R c now T (moved W m n z place now) k x y
      named far slot (in_source here _ at) =
          let was = one (T.at k).node m.x x (ap (λ (i : ℕ). (T.at i).node) here ∙ it.without.kept m.d m.x it.source) one_node.before in
          let after = one _ (touched now m.x) y (ap (λ (s : Slot). s.node) slot ∙ at ∙ ap (λ (i : ℕ). option_map (touched now) (W.at i).node) here ∙ ap (option_map (touched now)) it.source) one_node.after in
          names (sym (ap (λ (x : Node). x.attributes) after) ∙ ap (λ (x : Node). (touched now x).attributes) was) (sym (ap (λ (x : Node). x.home) after) ∙ ap (λ (x : Node). x.home) was) (subst (λ (x : Node). may_rename c x.attributes ≡ true) was it.source_rights)
      named far slot (in_goal here at) =
          let was = one (T.at k).node m.y x (ap (λ (i : ℕ). (T.at i).node) here ∙ it.without.kept m.e m.y it.goal) one_node.before in
          let after = one _ (opened place now m.y) y (ap (λ (s : Slot). s.node) slot ∙ at ∙ ap (λ (i : ℕ). option_map (opened place now) (W.at i).node) here ∙ ap (option_map (opened place now)) it.goal) one_node.after in
          names (sym (ap (λ (x : Node). x.attributes) after) ∙ ap (λ (x : Node). (opened place now x).attributes) was) (sym (ap (λ (x : Node). x.home) after) ∙ ap (λ (x : Node). x.home) was) (subst (λ (x : Node). may_rename c x.attributes ≡ true) was it.goal_rights)
      named far slot (elsewhere far_d far_e at) =
          same (one (T.at k).node x y one_node.before (it.without.kept k y (sym (ap (λ (s : Slot). s.node) slot ∙ ap (λ (s : Slot). s.node) at) ∙ one_node.after))) (same_names far_d far_e)

      by : ((k ≡ n) × (((moved W m n z place now).at k).node ≡ Some (moved_node m place now z))) ⊎ ((k ≢ n) × ((moved W m n z place now).at k ≡ (names_moved W m.d m.e place now).at k))
          → Fate R c now T (moved W m n z place now) k x y
      by (inl r) =
          let was = one (T.at k).node z x (ap (λ (i : ℕ). (T.at i).node) r.0 ∙ it.without.kept n z it.at) one_node.before in
          let after = one _ (moved_node m place now z) y r.1 one_node.after in
          hung (sym (ap (λ (x : Node). x.attributes) after) ∙ ap (λ (z : Node). (moved_node m place now z).attributes) was) (sym (ap (λ (x : Node). x.body) after) ∙ ap (λ (z : Node). z.body) was)
          (subst (λ (x : Node). IsRightfulMove c T x y) was (subst (IsRightfulMove c T z) after move)) (same_names (λ q. it.below_source (sym r.0 ∙ q)) (λ q. it.apart (subst (IsBelow (stems W) n) (sym r.0 ∙ q) itself)))
      by (inr r) = named r.0 r.1 (names_cases W m.d m.e place now k)

  -- generations never go back, and a number that has no node gets one under a new one
  pub generations : (T2 : Tree) → Step R c now T T2 → (n : ℕ) → ((T.at n).generation ≤ (T2.at n).generation) × ((y : Node) → (T.at n).node ≡ None → (T2.at n).node ≡ Some y → (T.at n).generation < (T2.at n).generation)
  generations _ stays n = (omega arith, λ y none at. absurd (cc (sym none ∙ at)))
  generations _ (sets m a b is change) n = (let e = same_generation T m n (Some b) in omega (arith, e), λ y none at. by y none at (slot_cases T m (record { generation = (T.at m).generation; node = Some b }) n))
    where
      by : (y : Node) → (T.at n).node ≡ None → ((with_node T m (Some b)).at n).node ≡ Some y
          → ((n ≡ m) × ((with_node T m (Some b)).at n ≡ record { generation = (T.at m).generation; node = Some b })) ⊎ ((n ≢ m) × ((with_node T m (Some b)).at n ≡ T.at n))
          → (T.at n).generation < ((with_node T m (Some b)).at n).generation
      by y none at (inl e) = absurd (cc (sym none ∙ ap (λ (i : ℕ). (T.at i).node) e.0 ∙ is))
      by y none at (inr e) = absurd (cc (sym none ∙ sym (ap (λ (s : Slot). s.node) e.1) ∙ at))
  generations _ (plants d a room b p) n = by (slot_cases (touch_place T d b.home.place now) room.number (record { generation = ((touch_place T d b.home.place now).at room.number).generation + 1; node = Some b }) n) (map_cases T d (opened b.home.place now) n)
    where
      V : Tree
      V = with_slot (touch_place T d b.home.place now) room.number (record { generation = ((touch_place T d b.home.place now).at room.number).generation + 1; node = Some b })

      old : (n : ℕ) → ((touch_place T d b.home.place now).at n).generation ≡ (T.at n).generation
      old n = same_generation T d n _

      gone : (f : Node → Node) (o : Option Node) → o ≡ None → option_map f o ≡ None
      gone f o e = ap (option_map f) e

      by : ((n ≡ room.number) × (V.at n ≡ record { generation = ((touch_place T d b.home.place now).at room.number).generation + 1; node = Some b })) ⊎ ((n ≢ room.number) × (V.at n ≡ (touch_place T d b.home.place now).at n))
          → ((n ≡ d) × (((touch_place T d b.home.place now).at n).node ≡ option_map (opened b.home.place now) (T.at n).node)) ⊎ ((n ≢ d) × ((touch_place T d b.home.place now).at n ≡ T.at n))
          → ((T.at n).generation ≤ (V.at n).generation) × ((y : Node) → (T.at n).node ≡ None → (V.at n).node ≡ Some y → (T.at n).generation < (V.at n).generation)
      by (inl e) _ =
          let g = ap (λ (s : Slot). s.generation) e.1 in
          let o = old room.number in
          let h = ap (λ (i : ℕ). (T.at i).generation) e.0 in
          (omega (arith, g, o, h), λ y none at. omega (arith, g, o, h))
      by (inr e) (inl r) =
          let g = ap (λ (s : Slot). s.generation) e.1 in
          let o = old n in
          (omega (arith, g, o), λ y none at. absurd (cc (sym (ap (λ (s : Slot). s.node) e.1 ∙ r.1 ∙ gone (opened b.home.place now) (T.at n).node none) ∙ at)))
      by (inr e) (inr r) =
          let g = ap (λ (s : Slot). s.generation) e.1 in
          let o = old n in
          (omega (arith, g, o), λ y none at. absurd (cc (sym none ∙ sym (ap (λ (s : Slot). s.node) e.1 ∙ ap (λ (s : Slot). s.node) r.1) ∙ at)))
  generations _ (cuts d m a b p) n = (
    let e = same_generation (with_node T m None) d n (option_map (touched now) ((with_node T m None).at d).node) in let f = same_generation T m n None in omega (arith, e, f),
    λ y none at. by y none at (slot_cases T m (record { generation = (T.at m).generation; node = None }) n) (map_cases (with_node T m None) d (touched now) n),
  )
    where
      gone : (o : Option Node) → o ≡ None → option_map (touched now) o ≡ None
      gone o e = ap (option_map (touched now)) e

      empty : (T.at n).node ≡ None → ((n ≡ m) × ((with_node T m None).at n ≡ record { generation = (T.at m).generation; node = None })) ⊎ ((n ≢ m) × ((with_node T m None).at n ≡ T.at n)) → ((with_node T m None).at n).node ≡ None
      empty none (inl e) = ap (λ (s : Slot). s.node) e.1
      empty none (inr e) = ap (λ (s : Slot). s.node) e.1 ∙ none

      by : (y : Node) → (T.at n).node ≡ None → ((cut T d m now).at n).node ≡ Some y
          → ((n ≡ m) × ((with_node T m None).at n ≡ record { generation = (T.at m).generation; node = None })) ⊎ ((n ≢ m) × ((with_node T m None).at n ≡ T.at n))
          → ((n ≡ d) × (((cut T d m now).at n).node ≡ option_map (touched now) ((with_node T m None).at n).node)) ⊎ ((n ≢ d) × ((cut T d m now).at n ≡ (with_node T m None).at n))
          → (T.at n).generation < ((cut T d m now).at n).generation
      by y none at e (inl r) = absurd (cc (sym (r.1 ∙ gone ((with_node T m None).at n).node (empty none e)) ∙ at))
      by y none at e (inr r) = absurd (cc (sym (ap (λ (s : Slot). s.node) r.1 ∙ empty none e) ∙ at))
  generations _ (moves m n z place W it) k = (
    let g = moved-generation c T m n z place W now it k in omega (arith, g),
    λ y none at. by y none at (moved_cases c T m n z place W now it k),
  )
    where
      by : (y : Node) → (T.at k).node ≡ None → ((moved W m n z place now).at k).node ≡ Some y
          → ((k ≡ n) × (((moved W m n z place now).at k).node ≡ Some (moved_node m place now z))) ⊎ ((k ≢ n) × ((moved W m n z place now).at k ≡ (names_moved W m.d m.e place now).at k))
          → (T.at k).generation < ((moved W m n z place now).at k).generation
      by y none at (inl r) = absurd (cc (sym none ∙ ap (λ (i : ℕ). (T.at i).node) r.0 ∙ it.without.kept n z it.at))
      by y none at (inr r) = let x = others-back c T m n z place W now it k y r.0 at in absurd (cc (sym none ∙ x.1))

  -- a number that has no node gets one with the verifier of the call
  pub gives-verifier : (T2 : Tree) → Step R c now T T2 → (n : ℕ) (y : Node) → (T.at n).node ≡ None → (T2.at n).node ≡ Some y → y.attributes.verifier ≡ R.verifier
  gives-verifier _ stays n y none at = absurd (cc (sym none ∙ at))
  gives-verifier _ (sets m a b is change) n y none at = by (slot_cases T m (record { generation = (T.at m).generation; node = Some b }) n)
    where
      by : ((n ≡ m) × ((with_node T m (Some b)).at n ≡ record { generation = (T.at m).generation; node = Some b })) ⊎ ((n ≢ m) × ((with_node T m (Some b)).at n ≡ T.at n)) → y.attributes.verifier ≡ R.verifier
      by (inl e) = absurd (cc (sym none ∙ ap (λ (i : ℕ). (T.at i).node) e.0 ∙ is))
      by (inr e) = absurd (cc (sym none ∙ sym (ap (λ (s : Slot). s.node) e.1) ∙ at))
  gives-verifier _ (plants d a room b p) n y none at = by (slot_cases (touch_place T d b.home.place now) room.number (record { generation = ((touch_place T d b.home.place now).at room.number).generation + 1; node = Some b }) n) (map_cases T d (opened b.home.place now) n)
    where
      V : Tree
      V = with_slot (touch_place T d b.home.place now) room.number (record { generation = ((touch_place T d b.home.place now).at room.number).generation + 1; node = Some b })

      by : ((n ≡ room.number) × (V.at n ≡ record { generation = ((touch_place T d b.home.place now).at room.number).generation + 1; node = Some b })) ⊎ ((n ≢ room.number) × (V.at n ≡ (touch_place T d b.home.place now).at n))
          → ((n ≡ d) × (((touch_place T d b.home.place now).at n).node ≡ option_map (opened b.home.place now) (T.at n).node)) ⊎ ((n ≢ d) × ((touch_place T d b.home.place now).at n ≡ T.at n))
          → y.attributes.verifier ≡ R.verifier
      by (inl e) _ = let q = one (V.at n).node y b at (ap (λ (s : Slot). s.node) e.1) in ap (λ (x : Node). x.attributes.verifier) q ∙ p.verifier
      by (inr e) (inl r) = absurd (cc (sym (ap (λ (s : Slot). s.node) e.1 ∙ r.1 ∙ ap (option_map (opened b.home.place now)) none) ∙ at))
      by (inr e) (inr r) = absurd (cc (sym none ∙ sym (ap (λ (s : Slot). s.node) e.1 ∙ ap (λ (s : Slot). s.node) r.1) ∙ at))
  gives-verifier _ (cuts d m a b p) n y none at = by (slot_cases T m (record { generation = (T.at m).generation; node = None }) n) (map_cases (with_node T m None) d (touched now) n)
    where
      gone : ((n ≡ m) × ((with_node T m None).at n ≡ record { generation = (T.at m).generation; node = None })) ⊎ ((n ≢ m) × ((with_node T m None).at n ≡ T.at n)) → ((with_node T m None).at n).node ≡ None
      gone (inl e) = ap (λ (s : Slot). s.node) e.1
      gone (inr e) = ap (λ (s : Slot). s.node) e.1 ∙ none

      by : ((n ≡ m) × ((with_node T m None).at n ≡ record { generation = (T.at m).generation; node = None })) ⊎ ((n ≢ m) × ((with_node T m None).at n ≡ T.at n))
          → ((n ≡ d) × (((cut T d m now).at n).node ≡ option_map (touched now) ((with_node T m None).at n).node)) ⊎ ((n ≢ d) × ((cut T d m now).at n ≡ (with_node T m None).at n))
          → y.attributes.verifier ≡ R.verifier
      by e (inl r) = absurd (cc (sym (r.1 ∙ ap (option_map (touched now)) (gone e)) ∙ at))
      by e (inr r) = absurd (cc (sym (ap (λ (s : Slot). s.node) r.1 ∙ gone e) ∙ at))
  gives-verifier _ (moves m k z place W it) n y none at = by (moved_cases c T m k z place W now it n)
    where
      by : ((n ≡ k) × (((moved W m k z place now).at n).node ≡ Some (moved_node m place now z))) ⊎ ((n ≢ k) × ((moved W m k z place now).at n ≡ (names_moved W m.d m.e place now).at n)) → y.attributes.verifier ≡ R.verifier
      by (inl r) = absurd (cc (sym none ∙ ap (λ (i : ℕ). (T.at i).node) r.0 ∙ it.without.kept k z it.at))
      by (inr r) = let x = others-back c T m k z place W now it n y r.0 at in absurd (cc (sym none ∙ x.1))
