-- What is made first, that names are found, and what listings tell.
use Rattle.std.proofs.Common.{◌≡◌, ℕ, zero, suc, ◌<◌, ◌≤◌, ◌==◌, Bool, true, false, ◌&&◌, List, [], ◌∷◌, take, length, Option, Some, None, Ok, Err, refl, sym, ap, subst, arith, ◌⊎◌, inl, inr, ◌∙◌}
use Rattle.std.specs.Prelude.{nat_le, nat_lt, map, if◌then◌else◌}
use Rattle.std.proofs.lemmas.Bool.{cases_eq, eqb-false, ne_eqb, leb-false, ltb-false, and_cases}
use Rattle.journal_tree.specs.declared.limits.TheConstants.{ROOT}
use Rattle.journal_tree.specs.declared.time.Time.{Time}
use Rattle.journal_tree.specs.declared.reply.Handle.{Handle}
use Rattle.journal_tree.specs.declared.status.Status.TheVariants.{NoAccess, NotDirectory, Stale, TooSmall}
use Rattle.journal_tree.specs.Trees.{Node, Slot, Tree, is_directory}
use Rattle.journal_tree.specs.Rule.{Stem, stem_of, stems, IsBelow, first_root, first_tree}
use Rattle.journal_tree.specs.Rule.IsBelow.{itself}
use Rattle.journal_tree.specs.Rights.{may_read}
use Rattle.journal_tree.specs.Fit.{IsFit}
use Rattle.journal_tree.specs.Calls.{Outcome, refused, told, target, node_or_gone, in_directory, allowed}
use Rattle.journal_tree.specs.Listing.{Item, Page, Listed, ListedPlus, line_of, with_page, items_above, Ascends, last_cookie}
use Rattle.journal_tree.specs.Laws.{BeginsAsTree, BeginsFit, NamesOnce, IsToldPage, TellsPages, TellsPagesPlus}
use Rattle.journal_tree.proofs.Finding.{find-some}
use Rattle.journal_tree.proofs.Hanging.{found_by_name}
use Rattle.journal_tree.proofs.Listing.{items-ascend}

-- the first tree has a root and nothing else
only_root : (numbers blocks : ℕ) (now : Time) (i : ℕ) (s : Stem) → stems (first_tree numbers blocks now) i ≡ Some s → (i ≡ ROOT) × (s ≡ stem_of (first_root now))
only_root numbers blocks now i s is = by (cases_eq i ROOT)
  where
    by : (i ≡ ROOT) ⊎ (i ≡ ROOT → ⊥) → (i ≡ ROOT) × (s ≡ stem_of (first_root now))
    by (inl same) = let e : Some (stem_of (first_root now)) ≡ Some s = ap (stems (first_tree numbers blocks now)) (sym same) ∙ is in let e2 : stem_of (first_root now) ≡ s = cc in (same, sym e2)
    by (inr other) = let e : stems (first_tree numbers blocks now) i ≡ None = rw (ne_eqb i ROOT other) refl in absurd (cc (sym e ∙ is))

pub begins : BeginsAsTree
begins numbers blocks now low = record {
  root = record { places = 0; is = refl };
  zero = refl;
  bounded = λ i s is. subst (λ (i : ℕ). i < numbers) (sym (only_root numbers blocks now i s is).0) low;
  hangs = λ i s is other. absurd (other (only_root numbers blocks now i s is).0);
  names = λ i j s t is it _ _. (only_root numbers blocks now i s is).0 ∙ sym (only_root numbers blocks now j t it).0;
  places = λ i j s t is it _ _. (only_root numbers blocks now i s is).0 ∙ sym (only_root numbers blocks now j t it).0;
  leads = λ i s is. subst (IsBelow (stems (first_tree numbers blocks now)) ROOT) (sym (only_root numbers blocks now i s is).0) itself;
}

pub begins-fit : BeginsFit
begins-fit numbers blocks now moment = record {
  nodes = λ i x is. nodes i x is (cases_eq i ROOT);
  born = λ i x is. born i x is (cases_eq i ROOT);
  young = λ i. young i (cases_eq i ROOT);
}
  where
    none : (i : ℕ) → (i ≡ ROOT → ⊥) → (first_tree numbers blocks now).at i ≡ record { generation = 0; node = None }
    none i other = rw (ne_eqb i ROOT other) refl

    nodes : (i : ℕ) (x : Node) → ((first_tree numbers blocks now).at i).node ≡ Some x → (i ≡ ROOT) ⊎ (i ≡ ROOT → ⊥) → IsFit x
    nodes i x is (inl same) =
        let e : Some (first_root now) ≡ Some x = ap (λ (i : ℕ). ((first_tree numbers blocks now).at i).node) (sym same) ∙ is in
        let e2 : first_root now ≡ x = cc in
        subst IsFit e2 (record { home = inl refl; place = omega arith; body = (omega arith, (0, refl)); mode = omega arith; owner = omega arith; group = omega arith; mtime = moment; ctime = moment; verifier = tt })
    nodes i x is (inr other) = absurd (cc (sym (ap (λ (s : Slot). s.node) (none i other)) ∙ is))

    born : (i : ℕ) (x : Node) → ((first_tree numbers blocks now).at i).node ≡ Some x → (i ≡ ROOT) ⊎ (i ≡ ROOT → ⊥) → 1 ≤ ((first_tree numbers blocks now).at i).generation
    born i x is (inl same) = let e = ap (λ (i : ℕ). ((first_tree numbers blocks now).at i).generation) same in let f : ((first_tree numbers blocks now).at ROOT).generation ≡ 1 = refl in omega (arith, e, f)
    born i x is (inr other) = absurd (cc (sym (ap (λ (s : Slot). s.node) (none i other)) ∙ is))

    young : (i : ℕ) → (i ≡ ROOT) ⊎ (i ≡ ROOT → ⊥) → ((first_tree numbers blocks now).at i).generation ≤ 4294967295
    young i (inl same) = let e = ap (λ (i : ℕ). ((first_tree numbers blocks now).at i).generation) same in let f : ((first_tree numbers blocks now).at ROOT).generation ≡ 1 = refl in omega (arith, e, f)
    young i (inr other) = let e = ap (λ (s : Slot). s.generation) (none i other) in omega (arith, e)

pub named-once : NamesOnce
named-once T n x tree is other = (
  found_by_name T n x tree is,
  λ d name at.
      let h = find-some T d name n at in
      let e : Some h.0 ≡ Some x = sym h.1 ∙ is in
      let e2 : h.0 ≡ x = cc in
      (sym h.2 ∙ ap (λ (x : Node). x.home.directory) e2, sym h.3 ∙ ap (λ (x : Node). x.home.name) e2),
)

-- a page that is not the end and not empty leads on
leads : (c k : ℕ) (is : List Item) → Ascends c is → 0 < k → k < length is → c < last_cookie c (take k is)
leads c zero is up some more = absurd (omega arith)
leads c (suc k) [] up some more = absurd (omega (arith, more))
leads c (suc zero) (i ∷ is) up some more = up.0
leads c (suc (suc k)) (i ∷ is) up some more = let h = leads i.cookie (suc k) is up.1 (omega arith) (omega (arith, more)) in omega (arith, h, up.0)

-- an answer of a call for a directory is that of one
gives : {A : Type 0} (T T2 : Tree) (h : Handle) (f : ℕ → Node → Outcome A) (r : A) → (Ok r, T2) ≡ in_directory T (target T h) f → (x : Node) × ((T.at h.number).node ≡ Some x) × (is_directory x.body ≡ true) × ((Ok r, T2) ≡ f h.number x)
gives {A} T T2 h f r e = by (T.at h.number).node ((T.at h.number).generation == h.generation) refl e
  where
    here : (x : Node) → (T.at h.number).node ≡ Some x → (b : Bool) → is_directory x.body ≡ b → (Ok r, T2) ≡ (if b then f h.number x else refused NotDirectory T) → (x : Node) × ((T.at h.number).node ≡ Some x) × (is_directory x.body ≡ true) × ((Ok r, T2) ≡ f h.number x)
    here x is true kind e = (x, is, kind, e)
    here x is false kind e = let e0 : Ok r ≡ Err NotDirectory = ap (λ (o : Outcome A). o.0) e in absurd (cc (e0))

    by : (o : Option Node) (b : Bool) → (T.at h.number).node ≡ o → (Ok r, T2) ≡ in_directory T (node_or_gone h.number b o) f → (x : Node) × ((T.at h.number).node ≡ Some x) × (is_directory x.body ≡ true) × ((Ok r, T2) ≡ f h.number x)
    by None b is e = let e0 : Ok r ≡ Err Stale = ap (λ (o : Outcome A). o.0) e in absurd (cc (e0))
    by (Some x) true is e = here x is (is_directory x.body) refl e
    by (Some x) false is e = let e0 : Ok r ≡ Err Stale = ap (λ (o : Outcome A). o.0) e in absurd (cc (e0))

-- an answer to who may is that of what he may
permitted : {A : Type 0} (T T2 : Tree) (b : Bool) (o : Outcome A) (r : A) → (Ok r, T2) ≡ allowed T b o → (Ok r, T2) ≡ o
permitted T T2 true o r e = e
permitted {A} T T2 false o r e = let e0 : Ok r ≡ Err NoAccess = ap (λ (o : Outcome A). o.0) e in absurd (cc (e0))

-- the page of an answer that has one
page_told : {A : Type 0} (T T2 : Tree) (n cookie count : ℕ) (x : Node) (answer : Page → A) (page : A → Page) (r : A) → ((p : Page) → page (answer p) ≡ p) → (T.at n).node ≡ Some x → is_directory x.body ≡ true
    → (Ok r, T2) ≡ with_page T (items_above T n x cookie) count answer → IsToldPage T T2 n cookie (page r)
page_told {A} T T2 n cookie count x answer page r answers is kind e = by (nat_lt 0 (length (items_above T n x cookie)) && count == 0) refl e
  where
    by : (b : Bool) → (nat_lt 0 (length (items_above T n x cookie)) && count == 0) ≡ b
        → (Ok r, T2) ≡ (if b then refused TooSmall T else (Ok (answer (record { items = take count (items_above T n x cookie); is_end = nat_le (length (items_above T n x cookie)) count })), T)) → IsToldPage T T2 n cookie (page r)
    by true at e = let e0 : Ok r ≡ Err TooSmall = ap (λ (o : Outcome A). o.0) e in absurd (cc (e0))
    by false at e = record {
      page_is = record { node = x; is = is; kind = kind; count = count; told = ap (λ (p : Page). p.items) same; ends = ap (λ (p : Page). p.is_end) same };
      stays = ap (λ (o : Outcome A). o.1) e;
      leads_on = λ open_end. subst (λ (is : List Item). cookie < last_cookie cookie is) (sym (ap (λ (p : Page). p.items) same)) (on (leb-false _ _ (sym (ap (λ (p : Page). p.is_end) same) ∙ open_end)) (and_cases _ _ at));
    }
      where
        same : page r ≡ record { items = take count (items_above T n x cookie); is_end = nat_le (length (items_above T n x cookie)) count }
        same =
            let e0 : Ok r ≡ Ok (answer (record { items = take count (items_above T n x cookie); is_end = nat_le (length (items_above T n x cookie)) count })) = ap (λ (o : Outcome A). o.0) e in
            let e1 : r ≡ answer (record { items = take count (items_above T n x cookie); is_end = nat_le (length (items_above T n x cookie)) count }) = cc in
            ap page e1 ∙ answers _

        on : count < length (items_above T n x cookie) → (nat_lt 0 (length (items_above T n x cookie)) ≡ false) ⊎ ((count == 0) ≡ false) → cookie < last_cookie cookie (take count (items_above T n x cookie))
        on more (inl none) = absurd (let h = ltb-false 0 (length (items_above T n x cookie)) none in omega (arith, h, more))
        on more (inr some) = leads cookie count (items_above T n x cookie) (items-ascend T n x cookie) (let h = eqb-false count 0 some in omega (arith, h)) more

pub tells-pages : TellsPages
tells-pages T T2 h c cookie most r e =
    let g = gives T T2 h _ r e in
    page_told T T2 h.number cookie _ g.0 (λ (page : Page). record { directory = told h.number g.0; page = page }) (λ (r : Listed). r.page) r (λ p. refl) g.1 g.2 (permitted T T2 (may_read c g.0.attributes) _ r g.3)

pub tells-pages-plus : TellsPagesPlus
tells-pages-plus T T2 h c cookie names most r e =
    let g = gives T T2 h _ r e in
    page_told T T2 h.number cookie _ g.0 (λ (page : Page). record { directory = told h.number g.0; page = page; lines = map (line_of T) page.items }) (λ (r : ListedPlus). r.page) r (λ p. refl) g.1 g.2 (permitted T T2 (may_read c g.0.attributes) _ r g.3)
