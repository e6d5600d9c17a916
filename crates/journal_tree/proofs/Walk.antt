-- A walk up the parents ends, and decides what is below what.
use Rattle.std.proofs.Common.{◌≡◌, ℕ, zero, suc, ◌+◌, ◌<◌, ◌≤◌, ◌==◌, true, false, List, [], ◌∷◌, length, Option, Some, None, eqb, refl, sym, ap, subst, arith, ◌⊎◌, inl, inr, ◌∙◌}
use Rattle.std.proofs.lemmas.Bool.{cases_eq, eqb-true, eq-eqb, or_cases, or_left, or_right, false_from_ne_true}
use Rattle.journal_tree.specs.declared.limits.TheConstants.{ROOT}
use Rattle.journal_tree.specs.Trees.{root_home}
use Rattle.journal_tree.specs.Rule.{Stem, Stems, IsBelow, IsTree}
use Rattle.journal_tree.specs.Rule.IsBelow.{itself, parent}
use Rattle.std.specs.List.{list_any, IsDistinct, AllByRecursion}
use Rattle.std.proofs.lemmas.Map.Steps.{length-le_from_distinct_below}
use Rattle.journal_tree.specs.Walks.{from_parent, meets, WalkDecides, NoWalkNeeded}

-- how long a way up is
abbrev steps : {S : Stems} {d n : ℕ} → IsBelow S d n → ℕ
steps itself = 0
steps (parent n s is up) = suc (steps up)

-- from the root there is no way but itself
from_zero : (numbers : ℕ) (S : Stems) (i : ℕ) → IsTree numbers S → i ≡ 0 → IsBelow S ROOT i → ⊥
from_zero numbers S _ tree e itself = absurd (omega (arith, e))
from_zero numbers S _ tree e (parent i s is up) = absurd (cc (sym tree.zero ∙ ap S (sym e) ∙ is))

root_is : (numbers : ℕ) (S : Stems) (i : ℕ) (s : Stem) → IsTree numbers S → i ≡ ROOT → S i ≡ Some s → s.home.directory ≡ 0
root_is numbers S i s tree e is =
    let r : Stem = record { home = root_home; places = Some tree.root.places } in
    let q : Some r ≡ Some s = sym tree.root.is ∙ ap S (sym e) ∙ is in
    let q2 : r ≡ s = cc in
    ap (λ (s : Stem). s.home.directory) (sym q2)

-- all ways from a node to the root are as long
one_length : (numbers : ℕ) (S : Stems) (i j : ℕ) → IsTree numbers S → i ≡ j → (a : IsBelow S ROOT i) (b : IsBelow S ROOT j) → steps a ≡ steps b
one_length numbers S _ _ tree e itself itself = refl
one_length numbers S _ _ tree e itself (parent j t at up) = absurd (from_zero numbers S t.home.directory tree (root_is numbers S j t tree (sym e) at) up)
one_length numbers S _ _ tree e (parent i s is up) itself = absurd (from_zero numbers S s.home.directory tree (root_is numbers S i s tree e is) up)
one_length numbers S _ _ tree e (parent i s is up) (parent j t at over) =
    let q : Some s ≡ Some t = sym is ∙ ap S e ∙ at in
    let q2 : s ≡ t = cc in
    ap suc (one_length numbers S s.home.directory t.home.directory tree (ap (λ (s : Stem). s.home.directory) q2) up over)

-- a way up, and another from where it ends
abbrev joined : {S : Stems} {d e n : ℕ} → IsBelow S e n → IsBelow S d e → IsBelow S d n
joined itself more = more
joined (parent n s is up) more = parent n s is (joined up more)

steps-joined : (S : Stems) (d e n : ℕ) (a : IsBelow S e n) (b : IsBelow S d e) → steps (joined a b) ≡ steps a + steps b
steps-joined S d e _ itself b = omega arith
steps-joined S d e _ (parent n s is up) b = let h = steps-joined S d e s.home.directory up b in omega (arith, h)

-- the nodes on a way
abbrev path : {S : Stems} {d n : ℕ} → IsBelow S d n → List ℕ
path {d = d} itself = d ∷ []
path (parent n s is up) = n ∷ path up

length-path : (S : Stems) (d n : ℕ) (a : IsBelow S d n) → length (path a) ≡ suc (steps a)
length-path S d _ itself = refl
length-path S d _ (parent n s is up) = ap suc (length-path S d s.home.directory up)

-- what is on a way to the root has one that is no longer, and is a number
record IsOn (numbers : ℕ) (S : Stems) (q most : ℕ) : Type 0 where
  way : IsBelow S ROOT q
  short : steps way ≤ most
  low : q < numbers

on_path : (numbers : ℕ) (S : Stems) (n : ℕ) (a : IsBelow S ROOT n) (q : ℕ) → IsTree numbers S → list_any (eqb q) (path a) ≡ true → IsOn numbers S q (steps a)
on_path numbers S _ itself q tree on = by (or_cases (eqb q ROOT) false on)
  where
    by : (eqb q ROOT ≡ true) ⊎ (false ≡ true) → IsOn numbers S q 0
    by (inl same) = let e = eqb-true q ROOT same in record { way = subst (IsBelow S ROOT) (sym e) itself; short = omega arith; low = subst (λ (q : ℕ). q < numbers) (sym e) (tree.bounded ROOT _ tree.root.is) }
    by (inr never) = absurd (cc (never))
on_path numbers S _ (parent n s is up) q tree on = by (or_cases (eqb q n) (list_any (eqb q) (path up)) on) (on_path numbers S s.home.directory up q tree)
  where
    by : (eqb q n ≡ true) ⊎ (list_any (eqb q) (path up) ≡ true) → (list_any (eqb q) (path up) ≡ true → IsOn numbers S q (steps up)) → IsOn numbers S q (suc (steps up))
    by (inl same) ih = let e = eqb-true q n same in here q e
      where
        here : (q : ℕ) → q ≡ n → IsOn numbers S q (suc (steps up))
        here q e = record { way = parent q s (ap S e ∙ is) up; short = omega arith; low = subst (λ (q : ℕ). q < numbers) (sym e) (tree.bounded n s is) }
    by (inr on) ih = let o = ih on in record { way = o.way; short = omega (arith, o.short); low = o.low }

all_from : (P : ℕ → Type 0) (xs : List ℕ) → ((q : ℕ) → list_any (eqb q) xs ≡ true → P q) → AllByRecursion P xs
all_from P [] each = tt
all_from P (x ∷ xs) each = (each x (or_left (eqb x x) _ (eq-eqb x x refl)), all_from P xs (λ q on. each q (or_right (eqb q x) _ on)))

distinct : (numbers : ℕ) (S : Stems) (n : ℕ) (a : IsBelow S ROOT n) → IsTree numbers S → IsDistinct eqb (path a)
unfolding IsDistinct
distinct numbers S _ itself tree = (tt, tt)
distinct numbers S _ (parent n s is up) tree = (all_from (λ y. eqb n y ≡ false) (path up) apart, distinct numbers S s.home.directory up tree)
  where
    apart : (q : ℕ) → list_any (eqb q) (path up) ≡ true → eqb n q ≡ false
    apart q on = false_from_ne_true (eqb n q) (λ same.
        let o = on_path numbers S s.home.directory up q tree on in
        let e : q ≡ n = sym (eqb-true n q same) in
        let l = one_length numbers S q n tree e o.way (parent n s is up) in
        absurd (omega (arith, l, o.short)))

-- a way to the root has fewer steps than there are numbers
pub few_steps : (numbers : ℕ) (S : Stems) (n : ℕ) (a : IsBelow S ROOT n) → IsTree numbers S → steps a < numbers
few_steps numbers S n a tree =
    let most = length-le_from_distinct_below (path a) numbers (distinct numbers S n a tree) (λ q on. (on_path numbers S n a q tree on).low) in
    let l = length-path S ROOT n a in
    omega (arith, most, l)

-- ── what the walk meets ──

meets-below : (S : Stems) (n steps e : ℕ) → meets S n steps e ≡ true → IsBelow S n e
unfolding meets
meets-below S n zero e met = subst (IsBelow S n) (sym (eqb-true e n met)) itself
meets-below S n (suc k) e met = by (or_cases (e == n) (from_parent (meets S n k) (S e)) met) (meets-below S n k)
  where
    by : ((e == n) ≡ true) ⊎ (from_parent (meets S n k) (S e) ≡ true) → ((e : ℕ) → meets S n k e ≡ true → IsBelow S n e) → IsBelow S n e
    by (inl same) ih = subst (IsBelow S n) (sym (eqb-true e n same)) itself
    by (inr above) ih = here (S e) refl above
      where
        here : (o : Option Stem) → S e ≡ o → from_parent (meets S n k) o ≡ true → IsBelow S n e
        here None is above = absurd (cc (above))
        here (Some s) is above = parent e s is (ih s.home.directory above)

below-meets : (S : Stems) (n k e : ℕ) (a : IsBelow S n e) → steps a ≤ k → meets S n k e ≡ true
unfolding meets
below-meets S n zero _ itself short = eq-eqb n n refl
below-meets S n (suc k) _ itself short = or_left (n == n) _ (eq-eqb n n refl)
below-meets S n zero _ (parent e s is up) short = absurd (omega (arith, short))
below-meets S n (suc k) _ (parent e s is up) short = or_right (e == n) _ (ap (from_parent (meets S n k)) is ∙ below-meets S n k s.home.directory up (omega (arith, short)))

pub walk-decides : WalkDecides
walk-decides numbers S n e s tree is = (meets-below S n numbers e, λ a. below-meets S n numbers e a (short a))
  where
    short : (a : IsBelow S n e) → steps a ≤ numbers
    short a =
        let up = tree.leads n s is in
        let both = few_steps numbers S e (joined a up) tree in
        let sum = steps-joined S ROOT n e a up in
        omega (arith, both, sum)

-- a way up to n begins there, or something hangs in n
last_step : (S : Stems) (n i : ℕ) → IsBelow S n i → (i ≡ n) ⊎ ((k : ℕ) × (u : Stem) × (S k ≡ Some u) × (u.home.directory ≡ n))
last_step S n _ itself = inl refl
last_step S n _ (parent i s is up) = by (last_step S n s.home.directory up)
  where
    by : (s.home.directory ≡ n) ⊎ ((k : ℕ) × (u : Stem) × (S k ≡ Some u) × (u.home.directory ≡ n)) → (i ≡ n) ⊎ ((k : ℕ) × (u : Stem) × (S k ≡ Some u) × (u.home.directory ≡ n))
    by (inl here) = inr (i, s, is, here)
    by (inr there) = inr there

pub no-walk-needed : NoWalkNeeded
no-walk-needed numbers S n e s t places tree is other at some (inl leaf) way = by (last_step S n e way)
  where
    -- a leaf has no places
    no_places : (u : Stem) → S n ≡ Some u → (p : ℕ) → u.places ≡ Some p → ⊥
    no_places u iu p has = let q : Some s ≡ Some u = sym is ∙ iu in let q2 : s ≡ u = cc in absurd (cc (sym leaf ∙ ap (λ (s : Stem). s.places) q2 ∙ has))

    by : (e ≡ n) ⊎ ((k : ℕ) × (u : Stem) × (S k ≡ Some u) × (u.home.directory ≡ n)) → ⊥
    by (inl same) = no_places t (ap S (sym same) ∙ at) places some
    by (inr h) = here (cases_eq h.0 ROOT)
      where
        here : (h.0 ≡ ROOT) ⊎ (h.0 ≡ ROOT → ⊥) → ⊥
        here (inl root) = let z = root_is numbers S h.0 h.1 tree root h.2 in absurd (cc (sym tree.zero ∙ ap S (sym z) ∙ ap S h.3 ∙ is))
        here (inr below) = let p = tree.hangs h.0 h.1 h.2 below in no_places p.0 (ap S (sym h.3) ∙ p.2) p.1 p.3
no-walk-needed numbers S n e s t places tree is other at some (inr home) way =
    let up = tree.leads e t at in
    let n_up : IsBelow S ROOT n = parent n s is (subst (IsBelow S ROOT) (sym home) up) in
    let sum = steps-joined S ROOT n e way n_up in
    let one = one_length numbers S e e tree refl (joined way n_up) up in
    let same = one_length numbers S s.home.directory e tree home (subst (IsBelow S ROOT) (sym home) up) up in
    absurd (omega (arith, sum, one, same))
