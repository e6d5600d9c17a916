-- A listing over several calls.
use Rattle.std.proofs.Common.{◌≡◌, ℕ, zero, suc, ◌+◌, ◌-◌, ◌<◌, ◌≤◌, true, List, [], ◌∷◌, ◌++◌, take, length, Option, Some, None, refl, sym, ap, subst, arith, ◌⊎◌, inl, inr, ◌∙◌}
use Rattle.std.proofs.lemmas.Bool.{cases_eq, leb-true}
use Rattle.journal_tree.specs.Trees.{Body, Node, Tree, find_place, places_of}
use Rattle.journal_tree.specs.Rule.{Stem, HasTree, stems, stem_of}
use Rattle.journal_tree.specs.Trees.Body.{directory, file, link}
use Rattle.journal_tree.specs.Listing.{Item, item_of, with_item, with_number, entries, dot_dot_item, items_above, all_places, FIRST_COOKIE, Page, Stands, IsIn, Ascends, last_cookie, Step, IsPage, IsChain, all_told, EachStep, SomeStep}
use Rattle.journal_tree.specs.Listing.Stands.{itself, parent, entry}
use Rattle.journal_tree.specs.Listing.IsChain.{last, more}
use Rattle.journal_tree.specs.Laws.{StandsAt, IsToldAt}
use Rattle.journal_tree.proofs.Finding.{find_place-some, find_place-none}
use Rattle.journal_tree.proofs.Changing.{stem_from_node}
use Rattle.journal_tree.proofs.Hanging.{not_root}

-- ── lists whose cookies ascend ──

pub Ascends-take : (c k : ℕ) (is : List Item) → Ascends c is → Ascends c (take k is)
Ascends-take c zero is up = tt
Ascends-take c (suc k) [] up = tt
Ascends-take c (suc k) (i ∷ is) up = (up.0, Ascends-take i.cookie k is up.1)

Ascends-append : (c : ℕ) (xs ys : List Item) → Ascends c xs → Ascends (last_cookie c xs) ys → Ascends c (xs ++ ys)
Ascends-append c [] ys a b = b
Ascends-append c (x ∷ xs) ys a b = (a.0, Ascends-append x.cookie xs ys a.1 b)

-- what is not on a page lies behind it
on_or_behind : (c k : ℕ) (is : List Item) (i : Item) → c < i.cookie → Ascends c is → IsIn i is → IsIn i (take k is) ⊎ (last_cookie c (take k is) < i.cookie)
on_or_behind c zero is i above up at = inr above
on_or_behind c (suc k) [] i above up at = inr above
on_or_behind c (suc k) (j ∷ js) i above up (inl same) = inl (inl same)
on_or_behind c (suc k) (j ∷ js) i above up (inr at) = by (on_or_behind j.cookie k js i (higher j.cookie js up.1 at) up.1 at)
  where
    higher : (c : ℕ) (is : List Item) → Ascends c is → IsIn i is → c < i.cookie
    higher c [] up at = absurd at
    higher c (j ∷ js) up (inl same) = subst (λ (i : Item). c < i.cookie) same up.0
    higher c (j ∷ js) up (inr at) = let h = higher j.cookie js up.1 at in omega (arith, h, up.0)

    by : IsIn i (take k js) ⊎ (last_cookie j.cookie (take k js) < i.cookie) → IsIn i (take (suc k) (j ∷ js)) ⊎ (last_cookie c (take (suc k) (j ∷ js)) < i.cookie)
    by (inl on) = inl (inr on)
    by (inr behind) = inr behind

IsIn-take : (k : ℕ) (is : List Item) (i : Item) → IsIn i (take k is) → IsIn i is
IsIn-take zero is i at = absurd at
IsIn-take (suc k) [] i at = absurd at
IsIn-take (suc k) (j ∷ js) i (inl same) = inl same
IsIn-take (suc k) (j ∷ js) i (inr at) = inr (IsIn-take k js i at)

IsIn-left : (xs ys : List Item) (i : Item) → IsIn i xs → IsIn i (xs ++ ys)
IsIn-left [] ys i at = absurd at
IsIn-left (x ∷ xs) ys i (inl same) = inl same
IsIn-left (x ∷ xs) ys i (inr at) = inr (IsIn-left xs ys i at)

IsIn-right : (xs ys : List Item) (i : Item) → IsIn i ys → IsIn i (xs ++ ys)
IsIn-right [] ys i at = at
IsIn-right (x ∷ xs) ys i at = inr (IsIn-right xs ys i at)

IsIn-either : (xs ys : List Item) (i : Item) → IsIn i (xs ++ ys) → IsIn i xs ⊎ IsIn i ys
IsIn-either [] ys i at = inr at
IsIn-either (x ∷ xs) ys i (inl same) = inl (inl same)
IsIn-either (x ∷ xs) ys i (inr at) = by (IsIn-either xs ys i at)
  where
    by : IsIn i xs ⊎ IsIn i ys → IsIn i (x ∷ xs) ⊎ IsIn i ys
    by (inl a) = inl (inr a)
    by (inr b) = inr b

-- a page of all
IsIn-all : (k : ℕ) (is : List Item) (i : Item) → length is ≤ k → IsIn i is → IsIn i (take k is)
IsIn-all k [] i few at = absurd at
IsIn-all zero (j ∷ js) i few at = absurd (omega (arith, few))
IsIn-all (suc k) (j ∷ js) i few (inl same) = inl same
IsIn-all (suc k) (j ∷ js) i few (inr at) = inr (IsIn-all k js i (omega (arith, few)) at)

-- ── the entries of a directory ──

-- what a place has
place_cases : (T : Tree) (d place : ℕ) (items : List Item) → ((find_place T d place ≡ None) × (with_number T (find_place T d place) items ≡ items)) ⊎ ((n : ℕ) × (x : Node) × (find_place T d place ≡ Some n) × ((T.at n).node ≡ Some x) × (x.home.directory ≡ d) × (x.home.place ≡ place) × (with_number T (find_place T d place) items ≡ item_of n x ∷ items))
place_cases T d place items = by (find_place T d place) refl
  where
    by : (o : Option ℕ) → find_place T d place ≡ o → ((o ≡ None) × (with_number T o items ≡ items)) ⊎ ((n : ℕ) × (x : Node) × (o ≡ Some n) × ((T.at n).node ≡ Some x) × (x.home.directory ≡ d) × (x.home.place ≡ place) × (with_number T o items ≡ item_of n x ∷ items))
    by None is = inl (refl, refl)
    by (Some n) is = let h = find_place-some T d place n is in inr (n, h.0, refl, h.1, h.2, h.3, ap (λ (o : Option Node). with_item n o items) h.1)

entries-ascend : (T : Tree) (d place count c : ℕ) → c < place + FIRST_COOKIE → Ascends c (entries T d place count)
unfolding entries
entries-ascend T d place zero c low = tt
entries-ascend T d place (suc count) c low = by (place_cases T d place (entries T d (place + 1) count)) (λ c low. entries-ascend T d (place + 1) count c low)
  where
    by : ((find_place T d place ≡ None) × (with_number T (find_place T d place) (entries T d (place + 1) count) ≡ entries T d (place + 1) count)) ⊎ ((n : ℕ) × (x : Node) × (find_place T d place ≡ Some n) × ((T.at n).node ≡ Some x) × (x.home.directory ≡ d) × (x.home.place ≡ place) × (with_number T (find_place T d place) (entries T d (place + 1) count) ≡ item_of n x ∷ entries T d (place + 1) count))
        → ((c : ℕ) → c < place + 1 + FIRST_COOKIE → Ascends c (entries T d (place + 1) count)) → Ascends c (entries T d place (suc count))
    by (inl none) ih = subst (Ascends c) (sym none.1) (ih c (omega (arith, low)))
    by (inr h) ih = subst (Ascends c) (sym h.6) (omega (arith, low, h.5), ih (h.1.home.place + FIRST_COOKIE) (omega (arith, h.5)))

entries-stand : (T : Tree) (d place count : ℕ) (i : Item) → IsIn i (entries T d place count) → Stands T d i
unfolding entries
entries-stand T d place zero i at = absurd at
entries-stand T d place (suc count) i at = by (place_cases T d place (entries T d (place + 1) count)) (entries-stand T d (place + 1) count i)
  where
    by : ((find_place T d place ≡ None) × (with_number T (find_place T d place) (entries T d (place + 1) count) ≡ entries T d (place + 1) count)) ⊎ ((n : ℕ) × (x : Node) × (find_place T d place ≡ Some n) × ((T.at n).node ≡ Some x) × (x.home.directory ≡ d) × (x.home.place ≡ place) × (with_number T (find_place T d place) (entries T d (place + 1) count) ≡ item_of n x ∷ entries T d (place + 1) count))
        → (IsIn i (entries T d (place + 1) count) → Stands T d i) → Stands T d i
    by (inl none) ih = ih (subst (IsIn i) none.1 at)
    by (inr h) ih = here (subst (IsIn i) h.6 at)
      where
        here : IsIn i (item_of h.0 h.1 ∷ entries T d (place + 1) count) → Stands T d i
        here (inl same) = subst (Stands T d) same (entry h.0 h.1 h.3 h.4)
        here (inr at) = ih at

entries-have : (T : Tree) (d place count n : ℕ) (x : Node) → HasTree T → (T.at n).node ≡ Some x → x.home.directory ≡ d → place ≤ x.home.place → x.home.place < place + count → IsIn (item_of n x) (entries T d place count)
unfolding entries
entries-have T d place zero n x tree is home low high = absurd (omega (arith, low, high))
entries-have T d place (suc count) n x tree is home low high =
    by (cases_eq x.home.place place) (place_cases T d place (entries T d (place + 1) count)) (λ (low : place + 1 ≤ x.home.place) (high : x.home.place < place + 1 + count). entries-have T d (place + 1) count n x tree is home low high)
  where
    by : (x.home.place ≡ place) ⊎ (x.home.place ≡ place → ⊥)
        → ((find_place T d place ≡ None) × (with_number T (find_place T d place) (entries T d (place + 1) count) ≡ entries T d (place + 1) count)) ⊎ ((m : ℕ) × (y : Node) × (find_place T d place ≡ Some m) × ((T.at m).node ≡ Some y) × (y.home.directory ≡ d) × (y.home.place ≡ place) × (with_number T (find_place T d place) (entries T d (place + 1) count) ≡ item_of m y ∷ entries T d (place + 1) count))
        → (place + 1 ≤ x.home.place → x.home.place < place + 1 + count → IsIn (item_of n x) (entries T d (place + 1) count)) → IsIn (item_of n x) (entries T d place (suc count))
    by (inl same) (inl none) ih = absurd (find_place-none T d place n x none.0 (tree.bounded n (stem_of x) (stem_from_node T n x is)) is home same)
    by (inl same) (inr h) ih =
        let one : h.0 ≡ n = tree.places h.0 n (stem_of h.1) (stem_of x) (stem_from_node T h.0 h.1 h.3) (stem_from_node T n x is) (h.4 ∙ sym home) (h.5 ∙ sym same) in
        let nodes : Some h.1 ≡ Some x = sym h.3 ∙ ap (λ (i : ℕ). (T.at i).node) one ∙ is in
        let node : h.1 ≡ x = cc in
        subst (IsIn (item_of n x)) (sym h.6) (inl (cc))
    by (inr other) (inl none) ih = subst (IsIn (item_of n x)) (sym none.1) (ih (omega arith) (omega arith))
    by (inr other) (inr h) ih = subst (IsIn (item_of n x)) (sym h.6) (inr (ih (omega arith) (omega arith)))

-- ── what is listed behind a cookie ──

pub items-ascend : (T : Tree) (d : ℕ) (x : Node) (c : ℕ) → Ascends c (items_above T d x c)
items-ascend T d x zero = (omega arith, (omega arith, entries-ascend T d 0 (all_places x.body) 2 (omega arith)))
items-ascend T d x (suc zero) = (omega arith, entries-ascend T d 0 (all_places x.body) 2 (omega arith))
items-ascend T d x (suc (suc place)) = entries-ascend T d place (all_places x.body - place) (suc (suc place)) (omega arith)

items-stand : (T : Tree) (d : ℕ) (x : Node) (c : ℕ) (i : Item) → (T.at d).node ≡ Some x → IsIn i (items_above T d x c) → Stands T d i
items-stand T d x zero i is (inl same) = subst (Stands T d) same itself
items-stand T d x zero i is (inr (inl same)) = subst (Stands T d) same (parent x is)
items-stand T d x zero i is (inr (inr at)) = entries-stand T d 0 (all_places x.body) i at
items-stand T d x (suc zero) i is (inl same) = subst (Stands T d) same (parent x is)
items-stand T d x (suc zero) i is (inr at) = entries-stand T d 0 (all_places x.body) i at
items-stand T d x (suc (suc place)) i is at = entries-stand T d place (all_places x.body - place) i at

-- the place of an entry is one of its directory's
place_low : (T : Tree) (d n : ℕ) (x y : Node) → HasTree T → (T.at d).node ≡ Some x → (T.at n).node ≡ Some y → y.home.directory ≡ d → y.home.place < all_places x.body
place_low T d n x y tree is at home =
    let has = tree.hangs n (stem_of y) (stem_from_node T n y at) (not_root T n d x y tree at home is) in
    let e : Some has.0 ≡ Some (stem_of x) = sym has.2 ∙ ap (stems T) home ∙ stem_from_node T d x is in
    let e2 : has.0 ≡ stem_of x = cc in
    let e3 = places_are x.body has.1 (sym (ap (λ (s : Stem). s.places) e2) ∙ has.3) in
    omega (arith, has.4, e3)
  where
    places_are : (b : Body) (p : ℕ) → places_of b ≡ Some p → all_places b ≡ p
    places_are (directory places) p e = cc
    places_are (file bytes) p e = absurd (cc (e))
    places_are (link text) p e = absurd (cc (e))

items-have : (T : Tree) (d : ℕ) (x : Node) (c : ℕ) (i : Item) → HasTree T → (T.at d).node ≡ Some x → c < i.cookie → Stands T d i → IsIn i (items_above T d x c)
items-have T d x zero _ tree is above itself = inl refl
items-have T d x (suc c) _ tree is above itself = absurd (omega (arith, above))
items-have T d x c _ tree is above (parent y at) = by c above
  where
    same : dot_dot_item d x ≡ dot_dot_item d y
    same = let e : Some x ≡ Some y = sym is ∙ at in let e2 : x ≡ y = cc in ap (dot_dot_item d) e2

    by : (c : ℕ) → c < 2 → IsIn (dot_dot_item d y) (items_above T d x c)
    by zero above = inr (inl same)
    by (suc zero) above = inl same
    by (suc (suc c)) above = absurd (omega (arith, above))
items-have T d x c _ tree is above (entry n y at home) = by c above
  where
    low : y.home.place < all_places x.body
    low = place_low T d n x y tree is at home

    by : (c : ℕ) → c < y.home.place + FIRST_COOKIE → IsIn (item_of n y) (items_above T d x c)
    by zero above = inr (inr (entries-have T d 0 (all_places x.body) n y tree at home (omega arith) (omega (arith, low))))
    by (suc zero) above = inr (entries-have T d 0 (all_places x.body) n y tree at home (omega arith) (omega (arith, low)))
    by (suc (suc place)) above = entries-have T d place (all_places x.body - place) n y tree at home (omega (arith, above)) (omega (arith, low, above))

-- ── the law ──

page-stands : (T : Tree) (d c : ℕ) (page : Page) (i : Item) → IsPage T d c page → IsIn i page.items → Stands T d i
page-stands T d c page i p at = items-stand T d p.node c i p.is (IsIn-take p.count (items_above T d p.node c) i (subst (IsIn i) p.told at))

page-ascends : (T : Tree) (d c : ℕ) (page : Page) → IsPage T d c page → Ascends c page.items
page-ascends T d c page p = subst (Ascends c) (sym p.told) (Ascends-take c p.count (items_above T d p.node c) (items-ascend T d p.node c))

-- what stands is told, or lies behind the page
page-tells : (T : Tree) (d c : ℕ) (page : Page) (i : Item) → HasTree T → IsPage T d c page → c < i.cookie → Stands T d i → IsIn i page.items ⊎ (last_cookie c page.items < i.cookie)
page-tells T d c page i tree p above stands = subst (λ (is : List Item). IsIn i is ⊎ (last_cookie c is < i.cookie)) (sym p.told) (on_or_behind c p.count (items_above T d p.node c) i above (items-ascend T d p.node c) (items-have T d p.node c i tree p.is above stands))

-- and the last page tells it
last-tells : (T : Tree) (d c : ℕ) (page : Page) (i : Item) → HasTree T → IsPage T d c page → page.is_end ≡ true → c < i.cookie → Stands T d i → IsIn i page.items
last-tells T d c page i tree p ended above stands = subst (IsIn i) (sym p.told) (IsIn-all p.count (items_above T d p.node c) i (leb-true (length (items_above T d p.node c)) p.count (sym p.ends ∙ ended)) (items-have T d p.node c i tree p.is above stands))

-- no cookie is told twice
pub chain-ascends : (d c : ℕ) (steps : List Step) → IsChain d c steps → Ascends c (all_told steps)
chain-ascends d c _ (last _ s page ended) = Ascends-append c s.page.items [] (page-ascends s.tree d c s.page page) tt
chain-ascends d c _ (more _ s rest page chain) = Ascends-append c s.page.items (all_told rest) (page-ascends s.tree d c s.page page) (chain-ascends d (last_cookie c s.page.items) rest chain)

-- what is told stood
pub chain-stands : (d c : ℕ) (steps : List Step) (i : Item) → IsChain d c steps → IsIn i (all_told steps) → SomeStep (λ T. Stands T d i) steps
chain-stands d c _ i (last _ s page ended) at = by (IsIn-either s.page.items [] i at)
  where
    by : IsIn i s.page.items ⊎ IsIn i [] → SomeStep (λ T. Stands T d i) (s ∷ [])
    by (inl at) = inl (page-stands s.tree d c s.page i page at)
    by (inr at) = absurd at
chain-stands d c _ i (more _ s rest page chain) at = by (IsIn-either s.page.items (all_told rest) i at) (chain-stands d (last_cookie c s.page.items) rest i chain)
  where
    by : IsIn i s.page.items ⊎ IsIn i (all_told rest) → (IsIn i (all_told rest) → SomeStep (λ T. Stands T d i) rest) → SomeStep (λ T. Stands T d i) (s ∷ rest)
    by (inl at) ih = inl (page-stands s.tree d c s.page i page at)
    by (inr at) ih = inr (ih at)

-- what stands throughout is told
pub chain-tells : (d c : ℕ) (steps : List Step) (i : Item) → IsChain d c steps → EachStep HasTree steps → c < i.cookie → EachStep (λ T. Stands T d i) steps → IsIn i (all_told steps)
chain-tells d c _ i (last _ s page ended) trees above stands = IsIn-left s.page.items [] i (last-tells s.tree d c s.page i trees.0 page ended above stands.0)
chain-tells d c _ i (more _ s rest page chain) trees above stands = by (page-tells s.tree d c s.page i trees.0 page above stands.0) (λ above. chain-tells d (last_cookie c s.page.items) rest i chain trees.1 above stands.1)
  where
    by : IsIn i s.page.items ⊎ (last_cookie c s.page.items < i.cookie) → (last_cookie c s.page.items < i.cookie → IsIn i (all_told rest)) → IsIn i (all_told (s ∷ rest))
    by (inl at) ih = IsIn-left s.page.items (all_told rest) i at
    by (inr behind) ih = IsIn-right s.page.items (all_told rest) i (ih behind)

-- a place that is taken throughout is told
pub chain-places : (d c cookie : ℕ) (steps : List Step) → IsChain d c steps → EachStep HasTree steps → c < cookie → EachStep (λ T. StandsAt T d cookie) steps → IsToldAt cookie (all_told steps)
chain-places d c cookie _ (last _ s page ended) trees above stands =
    let a = stands.0.at in
    record { item = stands.0.item; told = IsIn-left s.page.items [] stands.0.item (last-tells s.tree d c s.page stands.0.item trees.0 page ended (omega (arith, a, above)) stands.0.stands); at = a }
chain-places d c cookie _ (more _ s rest page chain) trees above stands = by (page-tells s.tree d c s.page i trees.0 page (omega (arith, a, above)) stands.0.stands) (λ above. chain-places d (last_cookie c s.page.items) cookie rest chain trees.1 above stands.1)
  where
    i : Item
    i = stands.0.item

    a : stands.0.item.cookie ≡ cookie
    a = stands.0.at

    by : IsIn stands.0.item s.page.items ⊎ (last_cookie c s.page.items < stands.0.item.cookie) → (last_cookie c s.page.items < cookie → IsToldAt cookie (all_told rest)) → IsToldAt cookie (all_told (s ∷ rest))
    by (inl at) ih = record { item = stands.0.item; told = IsIn-left s.page.items (all_told rest) stands.0.item at; at = a }
    by (inr behind) ih = let r = ih (omega (arith, behind, a)) in record { item = r.item; told = IsIn-right s.page.items (all_told rest) r.item r.told; at = r.at }
