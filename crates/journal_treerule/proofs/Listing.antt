-- The entries of a directory are listed, one after another.
use Rattle.std.proofs.Common.{ℕ, zero, suc, ◌≡◌, ◌≢◌, ◌<◌, ◌≤◌, ◌+◌, ◌/◌, ◌||◌, Bool, true, false, List, [], ◌∷◌, ◌++◌, length, Option, Some, refl, sym, ap, subst, ◌⊎◌, inl, inr, ◌∙◌, arith}
use Rattle.std.specs.Prelude.{◌↔◌, Contains, bytes_eq}
use Rattle.std.proofs.lemmas.Bool.{cases_eq, false≢true}
use Rattle.std.proofs.lemmas.List.Elements.{Contains-append_left, Contains-push, Contains-push_cases}
use Rattle.std.proofs.lemmas.Slice.Eq.{bytes_eq-Decides}
use Rattle.journal_tree.specs.Trees.{Home}
use Rattle.journal_treestore.specs.declared.entry.Entry.{Entry}
use Rattle.journal_treestore.specs.Entries.{tag_of, no_entry}
use Rattle.journal_treestore.specs.Levels.{IsBlockFor}
use Rattle.journal_treestore.specs.Views.{View, entry_at, homes}
use Rattle.journal_treerule.specs.declared.children.Child.{Child}
use Rattle.journal_treerule.specs.declared.children.Children.{Children}
use Rattle.journal_treerule.specs.Directories.{IsEntryIn, IsSoundEntry, HasNameOf, IsOwnEntry, NeedsSecond, IsOtherEntry, own_entries, needing_entries, second_entries, IsOneBelow, AreApart, AreEntriesSound, child_of, IsChild, AreChildren, has_name, AreNames, IsListed}

-- a place below one more is below, or is the last
cases_below : {P : Type 0} (p to : ℕ) → p < to + 1 → (p < to → P) → (p ≡ to → P) → P
cases_below {P} p to low first last = by (cases_eq p to)
  where
    by : (p ≡ to) ⊎ (p ≡ to → ⊥) → P
    by (inl is) = last is
    by (inr ne) = first (omega (arith, low, ne))

-- ── the names of places ──

module _ (P : ℕ → List ℕ → Type 0) where
  -- there are none yet
  names-none : (names : List (List ℕ)) → names ≡ [] → AreNames P 0 names
  names-none names none name = (
    (λ has. absurd (false≢true (sym (ap (λ ns. has_name ns name) none) ∙ has))),
    (λ n. absurd (let low = n.low in omega (arith, low))),
  )

  pub one-wider : (from to : ℕ) (name : List ℕ) → from ≤ to → IsOneBelow P from name → IsOneBelow P to name
  one-wider from to name few n = record { place = n.place; low = let l = n.low in omega (arith, l, few); here = n.here }

  module _ (to : ℕ) (names : List (List ℕ)) (are : AreNames P to names) (apart : AreApart P to) where
    -- one more place has no name
    module _ (none : (name : List ℕ) → P to name → ⊥) where
      same-narrower : (name : List ℕ) → IsOneBelow P (to + 1) name → IsOneBelow P to name
      same-narrower name n = cases_below n.place to n.low
          (λ first. record { place = n.place; low = first; here = n.here })
          (λ is. absurd (none name (subst (λ p. P p name) is n.here)))

      names-same : AreNames P (to + 1) names
      names-same name = (
        (λ has. one-wider to (to + 1) name (omega arith) ((are name).0 has)),
        (λ n. (are name).1 (same-narrower name n)),
      )

      apart-same : AreApart P (to + 1)
      apart-same p q name low_p low_q a b = cases_below p to low_p
          (λ first_p. cases_below q to low_q (λ first_q. apart p q name first_p first_q a b) (λ is. absurd (none name (subst (λ p. P p name) is b))))
          (λ is. absurd (none name (subst (λ p. P p name) is a)))

    -- one more place has a name
    module _ (name : List ℕ) (here : P to name) (alike : (other : List ℕ) → P to other → other ≡ name) where
      or_true : (a b : Bool) → b ≡ true → (a || b) ≡ true
      or_true true b is = refl
      or_true false b is = is

      names-more : (new : List (List ℕ)) → ((other : List ℕ) → has_name new other ≡ (bytes_eq name other || has_name names other)) → AreNames P (to + 1) new
      names-more new named other = (
        (λ has. forth (bytes_eq name other) refl has),
        (λ n. named other ∙ cases_below n.place to n.low
            (λ first. or_true (bytes_eq name other) (has_name names other) ((are other).1 (record { place = n.place; low = first; here = n.here })))
            (λ is. ap (λ b. b || has_name names other) ((bytes_eq-Decides name other).1 (sym (alike other (subst (λ p. P p other) is n.here)))))),
      )
        where
          forth : (b : Bool) → bytes_eq name other ≡ b → has_name new other ≡ true → IsOneBelow P (to + 1) other
          forth true is has = record { place = to; low = omega arith; here = subst (P to) ((bytes_eq-Decides name other).0 is) here }
          forth false is has = one-wider to (to + 1) other (omega arith) ((are other).0 (sym (ap (λ b. b || has_name names other) is) ∙ sym (named other) ∙ has))

      apart-more : has_name names name ≡ false → AreApart P (to + 1)
      apart-more fresh p q other low_p low_q a b = cases_below p to low_p
          (λ first_p. cases_below q to low_q
          (λ first_q. apart p q other first_p first_q a b)
          (λ is. absurd (before p first_p a (subst (λ p. P p other) is b))))
          (λ is. cases_below q to low_q
          (λ first_q. absurd (before q first_q b (subst (λ p. P p other) is a)))
          (λ too. is ∙ sym too))
        where
          before : (p : ℕ) → p < to → P p other → P to other → ⊥
          before p low at last = false≢true (sym fresh ∙ (are name).1 (record { place = p; low = low; here = subst (P p) (alike other last) at }))

      -- it was found before
      repeated : has_name names name ≡ true → AreApart P (to + 1) → ⊥
      repeated has all =
          let n = (are name).0 has in
          let low = n.low in
          let same : n.place ≡ to = all n.place to name (omega (arith, low)) (omega arith) n.here here in
          omega (arith, low, same)

-- ── the names of entries ──

module _ (H : ℕ → Option Home) (e : Entry) where
  homes-alike : (a b : List ℕ) → (x : HasNameOf H e a) → (y : HasNameOf H e b) → x.home ≡ y.home
  homes-alike a b x y = let p : Some x.home ≡ Some y.home = sym x.is ∙ y.is in cc

  pub names-alike : (a b : List ℕ) → HasNameOf H e a → HasNameOf H e b → a ≡ b
  names-alike a b x y = sym x.named ∙ ap (λ (h : Home). h.name) (homes-alike a b x y) ∙ y.named

  -- an entry is not at the home and elsewhere
  pub own-other : (place : ℕ) (a b : List ℕ) → IsOwnEntry H place e a → IsOtherEntry H place e b → ⊥
  own-other place a b x y = y.other (ap (λ (h : Home). h.place) (homes-alike b a y.names x.names) ∙ x.at)

module _ (V : View) (d : ℕ) where
  -- nothing is listed yet
  pub listed-none : (found : Children) → found.list.items ≡ [] → found.names ≡ [] → found.needing ≡ [] → found.seconds ≡ [] → IsListed V d 0 found
  listed-none found none names needing seconds = record {
    sound = record {
      each = λ place low. absurd (omega (arith, low));
      apart = λ p q name low. absurd (omega (arith, low));
      once = λ p q name low. absurd (omega (arith, low));
    };
    children = record {
      all = λ place name low. absurd (omega (arith, low));
      only = λ x has. absurd (let h : Contains [] x = subst (λ xs. Contains xs x) none has in let low : h.0 < 0 = h.1 in omega (arith, low));
    };
    names = names-none (own_entries V d) found.names names;
    needing = names-none (needing_entries V d) found.needing needing;
    seconds = names-none (second_entries V d) found.seconds seconds;
  }

  child-wider : (from to : ℕ) (x : Child) → from ≤ to → IsChild V d from x → IsChild V d to x
  child-wider from to x few c = record { place = c.place; low = let l = c.low in omega (arith, l, few); name = c.name; own = c.own; is = c.is }

  module _ (to : ℕ) (old : Children) (listed : IsListed V d to old) where
    abbrev pub e : Entry
    e = entry_at V d to

    -- the names of one more place
    needing-apart : AreApart (needing_entries V d) to
    needing-apart p q name low_p low_q a b = listed.sound.apart p q name low_p low_q a.own b.own

    each-more : IsSoundEntry (homes V) d to e → (place : ℕ) → place < to + 1 → IsSoundEntry (homes V) d place (entry_at V d place)
    each-more last place low = cases_below place to low (listed.sound.each place) (λ is. subst (λ p. IsSoundEntry (homes V) d p (entry_at V d p)) (sym is) last)

    -- no node hangs there
    children-same : ((name : List ℕ) → own_entries V d to name → ⊥) → AreChildren V d (to + 1) old.list.items
    children-same none = record {
      all = λ place name low own. cases_below place to low (λ first. listed.children.all place name first own) (λ is. absurd (none name (subst (λ p. own_entries V d p name) is own)));
      only = λ x has. child-wider to (to + 1) x (omega arith) (listed.children.only x has);
    }

    -- one more place has no entry
    pub listed-blank : e ≡ no_entry → IsListed V d (to + 1) old
    listed-blank none = record {
      sound = record {
        each = each-more (record { blank = λ _. none; back = λ some. absurd (some number) });
        apart = apart-same (own_entries V d) to old.names listed.names listed.sound.apart no_own;
        once = apart-same (second_entries V d) to old.seconds listed.seconds listed.sound.once no_second;
      };
      children = children-same no_own;
      names = names-same (own_entries V d) to old.names listed.names listed.sound.apart no_own;
      needing = names-same (needing_entries V d) to old.needing listed.needing needing-apart (λ name x. no_own name x.own);
      seconds = names-same (second_entries V d) to old.seconds listed.seconds listed.sound.once no_second;
    }
      where
        number : e.number ≡ 0
        number = ap (λ (e : Entry). e.number) none

        no_own : (name : List ℕ) → own_entries V d to name → ⊥
        no_own name x = x.names.some number

        no_second : (name : List ℕ) → second_entries V d to name → ⊥
        no_second name x = x.names.some number

    -- a name that was found before
    pub twice : (name : List ℕ) → own_entries V d to name → has_name old.names name ≡ true → AreEntriesSound V d (to + 1) → ⊥
    twice name here has sound = repeated (own_entries V d) to old.names listed.names listed.sound.apart name here (λ other x. names-alike (homes V) e other name x.names here.names) has sound.apart

    pub twice-second : (name : List ℕ) → second_entries V d to name → has_name old.seconds name ≡ true → AreEntriesSound V d (to + 1) → ⊥
    twice-second name here has sound = repeated (second_entries V d) to old.seconds listed.seconds listed.sound.once name here (λ other x. names-alike (homes V) e other name x.names here.names) has sound.once

    -- one more place is the home's of a node
    module _ (new : Children) (name : List ℕ) (x : Child) (o : IsEntryIn (homes V) d to e) (here : own_entries V d to name) (child : x ≡ child_of V e.number) (fresh : has_name old.names name ≡ false)
        (pushed : new.list.items ≡ old.list.items ++ x ∷ []) (named : (other : List ℕ) → has_name new.names other ≡ (bytes_eq name other || has_name old.names other)) (seconds : new.seconds ≡ old.seconds) where
      all : (place : ℕ) (other : List ℕ) → place < to + 1 → own_entries V d place other → Contains new.list.items (child_of V (entry_at V d place).number)
      all place other low own = subst (λ xs. Contains xs (child_of V (entry_at V d place).number)) (sym pushed) (cases_below place to low
          (λ first. Contains-append_left old.list.items (x ∷ []) (child_of V (entry_at V d place).number) (listed.children.all place other first own))
          (λ is. subst (Contains (old.list.items ++ x ∷ [])) (child ∙ ap (λ p. child_of V (entry_at V d p).number) (sym is)) (Contains-push old.list.items x)))

      only : (y : Child) → Contains new.list.items y → IsChild V d (to + 1) y
      only y has = by (Contains-push_cases old.list.items x y (subst (λ xs. Contains xs y) pushed has))
        where
          by : Contains old.list.items y ⊎ (x ≡ y) → IsChild V d (to + 1) y
          by (inl before) = child-wider to (to + 1) y (omega arith) (listed.children.only y before)
          by (inr is) = record { place = to; low = omega arith; name = name; own = here; is = sym child ∙ is }

      alike : (other : List ℕ) → own_entries V d to other → other ≡ name
      alike other y = names-alike (homes V) e other name y.names here.names

      no_second : (other : List ℕ) → second_entries V d to other → ⊥
      no_second other y = own-other (homes V) e to name other here y

      listed-own : AreNames (needing_entries V d) (to + 1) new.needing → IsListed V d (to + 1) new
      listed-own needing = record {
        sound = record {
          each = each-more (record { blank = λ none. absurd (here.names.some none); back = λ _. o });
          apart = apart-more (own_entries V d) to old.names listed.names listed.sound.apart name here alike fresh;
          once = apart-same (second_entries V d) to old.seconds listed.seconds listed.sound.once no_second;
        };
        children = record { all = all; only = only };
        names = names-more (own_entries V d) to old.names listed.names listed.sound.apart name here alike new.names named;
        needing = needing;
        seconds = subst (AreNames (second_entries V d) (to + 1)) (sym seconds) (names-same (second_entries V d) to old.seconds listed.seconds listed.sound.once no_second);
      }

      -- it needs a second entry
      pub listed-needing : (IsBlockFor (tag_of name) (to / 512) → ⊥) → ((other : List ℕ) → has_name new.needing other ≡ (bytes_eq name other || has_name old.needing other)) → IsListed V d (to + 1) new
      listed-needing none needing =
          listed-own (names-more (needing_entries V d) to old.needing listed.needing needing-apart name (record { own = here; needed = none }) (λ other y. alike other y.own) new.needing needing)

      -- it needs none
      pub listed-at_home : IsBlockFor (tag_of name) (to / 512) → ((other : List ℕ) → has_name new.needing other ≡ has_name old.needing other) → IsListed V d (to + 1) new
      listed-at_home is needing = listed-own (λ other. (
        (λ has. (same other).0 (sym (needing other) ∙ has)),
        (λ n. needing other ∙ (same other).1 n),
      ))
        where
          same : AreNames (needing_entries V d) (to + 1) old.needing
          same = names-same (needing_entries V d) to old.needing listed.needing needing-apart
              (λ other y. y.needed (subst (λ (n : List ℕ). IsBlockFor (tag_of n) (to / 512)) (sym (alike other y.own)) is))

    -- one more place has a second entry
    module _ (new : Children) (name : List ℕ) (o : IsEntryIn (homes V) d to e) (here : second_entries V d to name) (fresh : has_name old.seconds name ≡ false)
        (list : new.list.items ≡ old.list.items) (names : new.names ≡ old.names) (needing : new.needing ≡ old.needing)
        (named : (other : List ℕ) → has_name new.seconds other ≡ (bytes_eq name other || has_name old.seconds other)) where
      no_own : (other : List ℕ) → own_entries V d to other → ⊥
      no_own other y = own-other (homes V) e to other name y here

      alike_second : (other : List ℕ) → second_entries V d to other → other ≡ name
      alike_second other y = names-alike (homes V) e other name y.names here.names

      pub listed-second : IsListed V d (to + 1) new
      listed-second = record {
        sound = record {
          each = each-more (record { blank = λ none. absurd (here.names.some none); back = λ _. o });
          apart = apart-same (own_entries V d) to old.names listed.names listed.sound.apart no_own;
          once = apart-more (second_entries V d) to old.seconds listed.seconds listed.sound.once name here alike_second fresh;
        };
        children = subst (AreChildren V d (to + 1)) (sym list) (children-same no_own);
        names = subst (AreNames (own_entries V d) (to + 1)) (sym names) (names-same (own_entries V d) to old.names listed.names listed.sound.apart no_own);
        needing = subst (AreNames (needing_entries V d) (to + 1)) (sym needing) (names-same (needing_entries V d) to old.needing listed.needing needing-apart (λ other y. no_own other y.own));
        seconds = names-more (second_entries V d) to old.seconds listed.seconds listed.sound.once name here alike_second new.seconds named;
      }

  -- fewer entries are sound too
  pub fewer-sound : (from to : ℕ) → from ≤ to → AreEntriesSound V d to → AreEntriesSound V d from
  fewer-sound from to few sound = record {
    each = λ place low. sound.each place (omega (arith, low, few));
    apart = λ p q name low_p low_q. sound.apart p q name (omega (arith, low_p, few)) (omega (arith, low_q, few));
    once = λ p q name low_p low_q. sound.once p q name (omega (arith, low_p, few)) (omega (arith, low_q, few));
  }

  -- several places have no entry
  pub listed-blanks : (from count : ℕ) (found : Children) → IsListed V d from found → ((at : ℕ) → at < count → entry_at V d (from + at) ≡ no_entry) → IsListed V d (from + count) found
  listed-blanks from zero found listed none = subst (λ n. IsListed V d n found) (let e : from ≡ from + 0 = omega arith in e) listed
  listed-blanks from (suc count) found listed none =
      subst (λ n. IsListed V d n found) (let e : from + count + 1 ≡ from + suc count = omega arith in e)
      (listed-blank (from + count) found (listed-blanks from count found listed (λ at low. none at (omega (arith, low)))) (none count (omega arith)))
