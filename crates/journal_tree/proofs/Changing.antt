-- Each change of a tree keeps the rule.
use Rattle.std.proofs.Common.{◌≡◌, ◌≢◌, ℕ, ◌+◌, ◌*◌, ◌/◌, ◌<◌, ◌≤◌, Bool, true, false, cond, Option, Some, None, refl, sym, ap, subst, arith, ◌⊎◌, inl, inr, ◌∙◌}
use Rattle.std.specs.Prelude.{option_map, nat_lt}
use Rattle.std.proofs.lemmas.Bool.{cases_eq, eq-eqb, ne_eqb, ltb-true, ltb-false}
use Rattle.journal_tree.specs.declared.limits.TheConstants.{ROOT, BLOCK_PLACES}
use Rattle.journal_tree.specs.declared.time.Time.{Time}
use Rattle.journal_tree.specs.Trees.{Home, Body, Node, Slot, Tree, places_of, is_directory, with_slot, with_node}
use Rattle.journal_tree.specs.Trees.Body.{directory, file, link}
use Rattle.journal_tree.specs.Rule.{Stem, Stems, stem_of, stems, HasPlace, IsBelow, IsTree, HasTree}
use Rattle.journal_tree.specs.Rule.IsBelow.{itself, parent}
use Rattle.journal_tree.specs.Changes.{touched, touch, grown, grown_body, opened, touch_place, planted}
use Rattle.journal_tree.proofs.Stems.{with_stem, with_stem-same, with_stem-other, KeepsPlaces, IsTree-hang, IsTree-cut, IsTree-grow, nothing_below}

-- the stem of a number from its node, and the other way round
pub stem_from_node : (T : Tree) (n : ℕ) (x : Node) → (T.at n).node ≡ Some x → stems T n ≡ Some (stem_of x)
stem_from_node T n x is = ap (option_map stem_of) is

pub node_from_stem : (T : Tree) (n : ℕ) (s : Stem) → stems T n ≡ Some s → (x : Node) × ((T.at n).node ≡ Some x) × (stem_of x ≡ s)
node_from_stem T n s is = by (T.at n).node refl
  where
    by : (o : Option Node) → (T.at n).node ≡ o → (x : Node) × ((T.at n).node ≡ Some x) × (stem_of x ≡ s)
    by None at = absurd (cc (sym is ∙ ap (option_map stem_of) at))
    by (Some x) at = let e : Some (stem_of x) ≡ Some s = sym (ap (option_map stem_of) at) ∙ is in (x, at, cc)

-- the stems after a number's node was replaced
pub stems-with_slot : (T : Tree) (n : ℕ) (s : Slot) → stems (with_slot T n s) ≡ with_stem (stems T) n (option_map stem_of s.node)
stems-with_slot T n s = λ k. λ i. by i (cases_eq i n) k
  where
    by : (i : ℕ) → (i ≡ n) ⊎ (i ≡ n → ⊥) → stems (with_slot T n s) i ≡ with_stem (stems T) n (option_map stem_of s.node) i
    by i (inl same) = rw (eq-eqb i n same) refl
    by i (inr other) = rw (ne_eqb i n other) refl

-- the same stem once more changes nothing
pub with_stem-again : (S : Stems) (n : ℕ) (v : Option Stem) → S n ≡ v → with_stem S n v ≡ S
with_stem-again S n v is = λ k. λ i. by i (cases_eq i n) k
  where
    by : (i : ℕ) → (i ≡ n) ⊎ (i ≡ n → ⊥) → with_stem S n v i ≡ S i
    by i (inl same) = rw (eq-eqb i n same) (sym is ∙ ap S (sym same))
    by i (inr other) = rw (ne_eqb i n other) refl

-- a change that leaves the stems
pub same_stems : (T : Tree) (n : ℕ) (node : Option Node) → option_map stem_of (T.at n).node ≡ option_map stem_of node → stems (with_node T n node) ≡ stems T
same_stems T n node is = stems-with_slot T n (record { generation = (T.at n).generation; node = node }) ∙ with_stem-again (stems T) n (option_map stem_of node) is

pub HasTree-same : (T : Tree) (n : ℕ) (node : Option Node) → HasTree T → option_map stem_of (T.at n).node ≡ option_map stem_of node → HasTree (with_node T n node)
HasTree-same T n node tree is = subst (IsTree T.numbers) (sym (same_stems T n node is)) tree

pub stems-touch : (T : Tree) (d : ℕ) (now : Time) → stems (touch T d now) ≡ stems T
stems-touch T d now = same_stems T d (option_map (touched now) (T.at d).node) (by (T.at d).node)
  where
    by : (o : Option Node) → option_map stem_of o ≡ option_map stem_of (option_map (touched now) o)
    by None = refl
    by (Some x) = refl

pub HasTree-touch : (T : Tree) (d : ℕ) (now : Time) → HasTree T → HasTree (touch T d now)
HasTree-touch T d now tree = subst (IsTree T.numbers) (sym (stems-touch T d now)) tree

-- a node in which nothing hangs goes
pub HasTree-cut : (T : Tree) (n : ℕ) → HasTree T → n ≢ ROOT → ((i : ℕ) (x : Node) → (T.at i).node ≡ Some x → x.home.directory ≡ n → ⊥) → HasTree (with_node T n None)
HasTree-cut T n tree other empty =
    subst (IsTree T.numbers) (sym (stems-with_slot T n (record { generation = (T.at n).generation; node = None })))
    (IsTree-cut T.numbers (stems T) n tree other (λ i s is at. let x = node_from_stem T i s is in empty i x.0 x.1 (ap (λ (s : Stem). s.home.directory) x.2 ∙ at)))

-- the place lies in the grown directory
pub grown_has : (place places : ℕ) → (place < grown place places) × (places ≤ grown place places)
grown_has place places = by (nat_lt place places) refl
  where
    by : (b : Bool) → nat_lt place places ≡ b → (place < cond b places (BLOCK_PLACES * (place / BLOCK_PLACES + 1))) × (places ≤ cond b places (BLOCK_PLACES * (place / BLOCK_PLACES + 1)))
    by true is = let low = ltb-true place places is in (low, omega arith)
    by false is = let high = ltb-false place places is in let low : place < 512 * (place / 512 + 1) = omega arith in (low, omega arith)

-- a directory with a place more
pub HasTree-place : (T : Tree) (d : ℕ) (x : Node) (place : ℕ) (now : Time) → HasTree T → (T.at d).node ≡ Some x → is_directory x.body ≡ true → HasTree (touch_place T d place now) × HasPlace (stems (touch_place T d place now)) d place
HasTree-place T d x place now tree is kind = by x.body refl kind
  where
    by : (b : Body) → x.body ≡ b → is_directory b ≡ true → HasTree (touch_place T d place now) × HasPlace (stems (touch_place T d place now)) d place
    by (file bytes) body kind = absurd (cc (kind))
    by (link text) body kind = absurd (cc (kind))
    by (directory places) body kind = (subst (IsTree T.numbers) (sym all) grows, (v, grown place places, ap (λ (S : Stems). S d) all ∙ with_stem-same (stems T) d (Some v), refl, (grown_has place places).0))
      where
        v : Stem
        v = record { home = x.home; places = Some (grown place places) }

        new : option_map stem_of (option_map (opened place now) (T.at d).node) ≡ Some v
        new = ap (λ (o : Option Node). option_map stem_of (option_map (opened place now) o)) is ∙ ap (λ (b : Body). Some (record { home = x.home; places = places_of (grown_body place b) })) body

        all : stems (touch_place T d place now) ≡ with_stem (stems T) d (Some v)
        all = stems-with_slot T d _ ∙ ap (with_stem (stems T) d) new

        old : stems T d ≡ Some (stem_of x)
        old = stem_from_node T d x is

        keeps : KeepsPlaces (stems T) d v
        keeps s more at has =
            let e : Some s ≡ Some (stem_of x) = sym at ∙ old in
            let e2 : s ≡ stem_of x = cc in
            let e3 : Some more ≡ Some places = sym has ∙ ap (λ (s : Stem). s.places) e2 ∙ ap places_of body in
            let e4 : more ≡ places = cc in
            (grown place places, refl, omega (arith, (grown_has place places).1, e4))

        grows : IsTree T.numbers (with_stem (stems T) d (Some v))
        grows = IsTree-grow T.numbers (stems T) d (stem_of x) v tree old refl keeps

-- and each place that it had
pub place-kept : (T : Tree) (d : ℕ) (x : Node) (place : ℕ) (now : Time) (p : ℕ) → (T.at d).node ≡ Some x → is_directory x.body ≡ true → HasPlace (stems T) d p → HasPlace (stems (touch_place T d place now)) d p
place-kept T d x place now p is kind has = by x.body refl kind
  where
    by : (b : Body) → x.body ≡ b → is_directory b ≡ true → HasPlace (stems (touch_place T d place now)) d p
    by (file bytes) body kind = absurd (cc (kind))
    by (link text) body kind = absurd (cc (kind))
    by (directory places) body kind = (v, grown place places, ap (λ (S : Stems). S d) all ∙ with_stem-same (stems T) d (Some v), refl, low)
      where
        v : Stem
        v = record { home = x.home; places = Some (grown place places) }

        new : option_map stem_of (option_map (opened place now) (T.at d).node) ≡ Some v
        new = ap (λ (o : Option Node). option_map stem_of (option_map (opened place now) o)) is ∙ ap (λ (b : Body). Some (record { home = x.home; places = places_of (grown_body place b) })) body

        all : stems (touch_place T d place now) ≡ with_stem (stems T) d (Some v)
        all = stems-with_slot T d _ ∙ ap (with_stem (stems T) d) new

        low : p < grown place places
        low =
            let e : Some has.0 ≡ Some (stem_of x) = sym has.2 ∙ stem_from_node T d x is in
            let e2 : has.0 ≡ stem_of x = cc in
            let e3 : Some has.1 ≡ Some places = sym has.3 ∙ ap (λ (s : Stem). s.places) e2 ∙ ap places_of body in
            let e4 : has.1 ≡ places = cc in
            let more = (grown_has place places).1 in
            let less = has.4 in
            omega (arith, more, less, e4)

-- the homes of the old stems
pub record SameHomes (S S0 : Stems) : Type 0 where
  pub old : (i : ℕ) (s : Stem) → S i ≡ Some s → (t : Stem) × (S0 i ≡ Some t) × (t.home ≡ s.home)

pub SameHomes-then : (S T U : Stems) → SameHomes S T → SameHomes T U → SameHomes S U
SameHomes-then S T U a b = record { old = λ i s is. let o = a.old i s is in let p = b.old i o.0 o.1 in (p.0, p.1, p.2 ∙ o.2) }

pub SameHomes-equal : (S T : Stems) → S ≡ T → SameHomes S T
SameHomes-equal S T e = record { old = λ i s is. (s, ap (λ (S : Stems). S i) (sym e) ∙ is, refl) }

pub SameHomes-place : (T : Tree) (d place : ℕ) (now : Time) → SameHomes (stems (touch_place T d place now)) (stems T)
SameHomes-place T d place now = record { old = old }
  where
    new : Option Node
    new = option_map (opened place now) (T.at d).node

    all : stems (touch_place T d place now) ≡ with_stem (stems T) d (option_map stem_of new)
    all = stems-with_slot T d (record { generation = (T.at d).generation; node = new })

    of_d : (o : Option Node) (s : Stem) → option_map stem_of (option_map (opened place now) o) ≡ Some s → (t : Stem) × (option_map stem_of o ≡ Some t) × (t.home ≡ s.home)
    of_d None s e = absurd (cc (e))
    of_d (Some x) s e = let e2 : stem_of (opened place now x) ≡ s = cc in (stem_of x, refl, ap (λ (s : Stem). s.home) e2)

    old : (i : ℕ) (s : Stem) → stems (touch_place T d place now) i ≡ Some s → (t : Stem) × (stems T i ≡ Some t) × (t.home ≡ s.home)
    old i s is = by (cases_eq i d)
      where
        here : with_stem (stems T) d (option_map stem_of new) i ≡ Some s
        here = ap (λ (S : Stems). S i) (sym all) ∙ is

        by : (i ≡ d) ⊎ (i ≡ d → ⊥) → (t : Stem) × (stems T i ≡ Some t) × (t.home ≡ s.home)
        by (inl same) =
            let at : option_map stem_of new ≡ Some s = sym (with_stem-same (stems T) d (option_map stem_of new)) ∙ ap (with_stem (stems T) d (option_map stem_of new)) (sym same) ∙ here in
            let o = of_d (T.at d).node s at in
            (o.0, ap (stems T) same ∙ o.1, o.2)
        by (inr other) = (s, sym (with_stem-other (stems T) d i (option_map stem_of new) other) ∙ here, refl)

-- a way up over the same homes
pub way_back : (S S0 : Stems) (d i : ℕ) → SameHomes S S0 → IsBelow S d i → IsBelow S0 d i
way_back S S0 d _ same itself = itself
way_back S S0 d _ same (parent i s is up) =
    let o = same.old i s is in
    parent i o.0 o.1 (subst (IsBelow S0 d) (sym (ap (λ (h : Home). h.directory) o.2)) (way_back S S0 d s.home.directory same up))

-- What is asked of the home of a node that is put there or moved, in the tree before
pub record IsFreeHome (T : Tree) (n : ℕ) (home : Home) : Type 0 where
  pub name : (i : ℕ) (x : Node) → i ≢ n → (T.at i).node ≡ Some x → x.home.directory ≡ home.directory → x.home.name ≡ home.name → ⊥
  pub place : (i : ℕ) (x : Node) → i ≢ n → (T.at i).node ≡ Some x → x.home.directory ≡ home.directory → x.home.place ≡ home.place → ⊥

-- the slot of another number stays
pub at_other : (T : Tree) (n i : ℕ) (s : Slot) → i ≢ n → (with_slot T n s).at i ≡ T.at i
at_other T n i s other = rw (ne_eqb i n other) refl

-- what a number has after a slot was replaced
pub slot_cases : (T : Tree) (n : ℕ) (s : Slot) (i : ℕ) → ((i ≡ n) × ((with_slot T n s).at i ≡ s)) ⊎ ((i ≢ n) × ((with_slot T n s).at i ≡ T.at i))
slot_cases T n s i = by (cases_eq i n)
  where
    by : (i ≡ n) ⊎ (i ≡ n → ⊥) → ((i ≡ n) × ((with_slot T n s).at i ≡ s)) ⊎ ((i ≢ n) × ((with_slot T n s).at i ≡ T.at i))
    by (inl same) = inl (same, rw (eq-eqb i n same) refl)
    by (inr other) = inr (other, at_other T n i s other)

-- a number after the node of another or the same one became what f says
pub map_cases : (T : Tree) (d : ℕ) (f : Node → Node) (i : ℕ) → ((i ≡ d) × (((with_node T d (option_map f (T.at d).node)).at i).node ≡ option_map f (T.at i).node)) ⊎ ((i ≢ d) × ((with_node T d (option_map f (T.at d).node)).at i ≡ T.at i))
map_cases T d f i = by (slot_cases T d (record { generation = (T.at d).generation; node = option_map f (T.at d).node }) i)
  where
    by : ((i ≡ d) × ((with_node T d (option_map f (T.at d).node)).at i ≡ record { generation = (T.at d).generation; node = option_map f (T.at d).node })) ⊎ ((i ≢ d) × ((with_node T d (option_map f (T.at d).node)).at i ≡ T.at i))
        → ((i ≡ d) × (((with_node T d (option_map f (T.at d).node)).at i).node ≡ option_map f (T.at i).node)) ⊎ ((i ≢ d) × ((with_node T d (option_map f (T.at d).node)).at i ≡ T.at i))
    by (inl same) = inl (same.0, ap (λ (s : Slot). s.node) same.1 ∙ ap (λ (i : ℕ). option_map f (T.at i).node) (sym same.0))
    by (inr other) = inr other

-- two nodes of one number are one
pub one : (o : Option Node) (x y : Node) → o ≡ Some x → o ≡ Some y → x ≡ y
one o x y a b = let e : Some x ≡ Some y = sym a ∙ b in cc

-- a change of a node leaves the generations
pub same_generation : (T : Tree) (m n : ℕ) (o : Option Node) → ((with_node T m o).at n).generation ≡ (T.at n).generation
same_generation T m n o = by (cases_eq n m)
  where
    by : (n ≡ m) ⊎ (n ≡ m → ⊥) → ((with_node T m o).at n).generation ≡ (T.at n).generation
    by (inl same) = ap (λ (s : Slot). s.generation) (here same) ∙ ap (λ (i : ℕ). (T.at i).generation) (sym same)
      where
        here : n ≡ m → (with_node T m o).at n ≡ record { generation = (T.at m).generation; node = o }
        here e = rw (eq-eqb n m e) refl
    by (inr other) = ap (λ (s : Slot). s.generation) (at_other T m n _ other)

pub free_in : (T : Tree) (S : Stems) (n : ℕ) (home : Home) → SameHomes S (stems T) → IsFreeHome T n home
    → ((i : ℕ) (s : Stem) → i ≢ n → S i ≡ Some s → s.home.directory ≡ home.directory → s.home.name ≡ home.name → ⊥)
    × ((i : ℕ) (s : Stem) → i ≢ n → S i ≡ Some s → s.home.directory ≡ home.directory → s.home.place ≡ home.place → ⊥)
free_in T S n home same free = (
  λ i s other is d name. let x = node i s is in free.name i x.0 other x.1 (ap (λ (h : Home). h.directory) x.2 ∙ d) (ap (λ (h : Home). h.name) x.2 ∙ name),
  λ i s other is d place. let x = node i s is in free.place i x.0 other x.1 (ap (λ (h : Home). h.directory) x.2 ∙ d) (ap (λ (h : Home). h.place) x.2 ∙ place),
)
  where
    node : (i : ℕ) (s : Stem) → S i ≡ Some s → (x : Node) × ((T.at i).node ≡ Some x) × (x.home ≡ s.home)
    node i s is = let o = same.old i s is in let x = node_from_stem T i o.0 o.1 in (x.0, x.1, ap (λ (s : Stem). s.home) x.2 ∙ o.2)

-- A node is put where none was
pub HasTree-plant : (T : Tree) (d : ℕ) (x : Node) (n : ℕ) (y : Node) (now : Time) → HasTree T → (T.at d).node ≡ Some x → is_directory x.body ≡ true → y.home.directory ≡ d
    → n ≢ 0 → n < T.numbers → (T.at n).node ≡ None → IsFreeHome T n y.home → HasTree (planted (touch_place T d y.home.place now) n y)
HasTree-plant T d x n y now tree is kind home some low none free = subst (IsTree T.numbers) (sym all) hangs
  where
    S : Stems
    S = stems (touch_place T d y.home.place now)

    opened_tree : HasTree (touch_place T d y.home.place now) × HasPlace (stems (touch_place T d y.home.place now)) d y.home.place
    opened_tree = HasTree-place T d x y.home.place now tree is kind

    all : stems (planted (touch_place T d y.home.place now) n y) ≡ with_stem (stems (touch_place T d y.home.place now)) n (Some (stem_of y))
    all = stems-with_slot (touch_place T d y.home.place now) n _

    not_d : n ≢ d
    not_d e = absurd (cc (sym none ∙ ap (λ (n : ℕ). (T.at n).node) e ∙ is))

    gone : stems (touch_place T d y.home.place now) n ≡ None
    gone = ap (λ (s : Slot). option_map stem_of s.node) (at_other T d n _ not_d) ∙ ap (option_map stem_of) none

    place : HasPlace (stems (touch_place T d y.home.place now)) y.home.directory y.home.place
    place = subst (λ (d2 : ℕ). HasPlace (stems (touch_place T d y.home.place now)) d2 y.home.place) (sym home) opened_tree.1

    frees : ((i : ℕ) (s : Stem) → i ≢ n → stems (touch_place T d y.home.place now) i ≡ Some s → s.home.directory ≡ y.home.directory → s.home.name ≡ y.home.name → ⊥)
        × ((i : ℕ) (s : Stem) → i ≢ n → stems (touch_place T d y.home.place now) i ≡ Some s → s.home.directory ≡ y.home.directory → s.home.place ≡ y.home.place → ⊥)
    frees = free_in T (stems (touch_place T d y.home.place now)) n y.home (SameHomes-place T d y.home.place now) free

    hangs : IsTree T.numbers (with_stem (stems (touch_place T d y.home.place now)) n (Some (stem_of y)))
    hangs = IsTree-hang T.numbers (stems (touch_place T d y.home.place now)) n (stem_of y) opened_tree.0 (record {
      low = low;
      other = λ e. absurd (cc (sym gone ∙ ap (stems (touch_place T d y.home.place now)) e ∙ opened_tree.0.root.is));
      some = some;
      kind = λ s places at has. absurd (cc (sym gone ∙ at));
      directory = place;
      apart = λ way. nothing_below T.numbers (stems (touch_place T d y.home.place now)) n opened_tree.0 gone some y.home.directory place.0 place.2 way;
      name = frees.0;
      place = frees.1;
    })
