-- What hangs in a directory of a tree.
use Rattle.std.proofs.Common.{◌≡◌, ◌≢◌, ℕ, ◌<◌, Bool, true, false, List, Option, Some, None, refl, sym, ap, ◌⊎◌, inl, inr, ◌∙◌}
use Rattle.std.specs.Prelude.{is_some}
use Rattle.std.proofs.lemmas.Bool.{cases_eq, true≢false}
use Rattle.journal_tree.specs.declared.limits.TheConstants.{ROOT}
use Rattle.journal_tree.specs.Trees.{Node, Tree, root_home, places_of, is_directory, find, find_any}
use Rattle.journal_tree.specs.Rule.{Stem, stem_of, stems, HasTree}
use Rattle.journal_tree.proofs.Finding.{find-some, find-none, find_any-none}
use Rattle.journal_tree.proofs.Changing.{stem_from_node}

-- the node of a number is below the bound
pub low : (T : Tree) (i : ℕ) (x : Node) → HasTree T → (T.at i).node ≡ Some x → i < T.numbers
low T i x tree is = tree.bounded i (stem_of x) (stem_from_node T i x is)

-- what hangs in a directory is not the root
pub not_root : (T : Tree) (n d : ℕ) (x y : Node) → HasTree T → (T.at n).node ≡ Some y → y.home.directory ≡ d → (T.at d).node ≡ Some x → n ≢ ROOT
not_root T n d x y tree is home at e =
    let r : Stem = record { home = root_home; places = Some tree.root.places } in
    let q : Some (stem_of y) ≡ Some r = sym (stem_from_node T n y is) ∙ ap (stems T) e ∙ tree.root.is in
    let q2 : stem_of y ≡ r = cc in
    let zero : d ≡ 0 = sym home ∙ ap (λ (s : Stem). s.home.directory) q2 in
    absurd (cc (sym tree.zero ∙ ap (stems T) (sym zero) ∙ stem_from_node T d x at))

-- nothing hangs in a node that is no directory
pub leaf : (T : Tree) (n : ℕ) (y : Node) → HasTree T → (T.at n).node ≡ Some y → is_directory y.body ≡ false → (i : ℕ) (z : Node) → (T.at i).node ≡ Some z → z.home.directory ≡ n → ⊥
leaf T n y tree is kind i z at home = by (cases_eq i ROOT)
  where
    no_places : (o : Option ℕ) (p : ℕ) → is_some o ≡ false → o ≡ Some p → ⊥
    no_places None p a b = absurd (cc (b))
    no_places (Some q) p a b = true≢false a

    by : (i ≡ ROOT) ⊎ (i ≡ ROOT → ⊥) → ⊥
    by (inl same) = not_root T i n y z tree at home is same
    by (inr other) =
        let has = tree.hangs i (stem_of z) (stem_from_node T i z at) other in
        let q : Some has.0 ≡ Some (stem_of y) = sym has.2 ∙ ap (stems T) home ∙ stem_from_node T n y is in
        let q2 : has.0 ≡ stem_of y = cc in
        no_places (places_of y.body) has.1 kind (sym (ap (λ (s : Stem). s.places) q2) ∙ has.3)

none_since : {A : Type 0} (o : Option A) → is_some o ≡ false → o ≡ None
none_since None e = refl
none_since (Some x) e = absurd (true≢false e)

-- nor in a directory of which no search finds a node
pub empty : (T : Tree) (n : ℕ) → HasTree T → is_some (find_any T n) ≡ false → (i : ℕ) (z : Node) → (T.at i).node ≡ Some z → z.home.directory ≡ n → ⊥
empty T n tree none i z at home = find_any-none T n i z (none_since (find_any T n) none) (low T i z tree at) at home

-- nothing hangs in itself
pub not_itself : (T : Tree) (n d : ℕ) (x y : Node) → (T.at d).node ≡ Some x → (T.at n).node ≡ Some y → y.home.directory ≡ d
    → ((i : ℕ) (z : Node) → (T.at i).node ≡ Some z → z.home.directory ≡ n → ⊥) → d ≢ n
not_itself T n d x y is at home empty e = empty n y at (home ∙ e)

-- two nodes of one directory and name are one
pub one_name : (T : Tree) (i j : ℕ) (x y : Node) → HasTree T → (T.at i).node ≡ Some x → (T.at j).node ≡ Some y → x.home.directory ≡ y.home.directory → x.home.name ≡ y.home.name → i ≡ j
one_name T i j x y tree is at directory name = tree.names i j (stem_of x) (stem_of y) (stem_from_node T i x is) (stem_from_node T j y at) directory name

-- a search for a name finds what hangs there under it
pub found_by_name : (T : Tree) (n : ℕ) (x : Node) → HasTree T → (T.at n).node ≡ Some x → find T x.home.directory x.home.name ≡ Some n
found_by_name T n x tree is = by (find T x.home.directory x.home.name) refl
  where
    by : (o : Option ℕ) → find T x.home.directory x.home.name ≡ o → o ≡ Some n
    by None at = absurd (find-none T x.home.directory x.home.name n x at (low T n x tree is) is refl refl)
    by (Some m) at = let h = find-some T x.home.directory x.home.name m at in ap Some (one_name T m n h.0 x tree h.1 is h.2 h.3)
