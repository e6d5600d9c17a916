-- Entries and homes change together.
use Rattle.std.proofs.Common.{◌≡◌, ◌≢◌, ℕ, ◌/◌, Bool, true, false, cond, eqb, ◌&&◌, Option, Some, None, refl, sym, ap, subst, ◌⊎◌, inl, inr, ◌∙◌}
use Rattle.std.proofs.lemmas.Bool.{cases_eq, eq-eqb, ne_eqb, and_parts, and_from, eqb-true}
use Rattle.journal_tree.specs.declared.limits.TheConstants.{ROOT}
use Rattle.journal_tree.specs.Trees.{Home}
use Rattle.journal_treestore.specs.declared.entry.Entry.{Entry}
use Rattle.journal_treestore.specs.Entries.{no_entry, tag_of}
use Rattle.journal_treestore.specs.Levels.{IsBlockFor}
use Rattle.journal_treestore.specs.Sound.{entry_for, IsEntryOf, HasSecond, IsHung}

-- ── one home replaced, one place of a second entry, and one entry ──

abbrev pub with_home : (ℕ → Option Home) → ℕ → Option Home → ℕ → Option Home
with_home H n home = λ i. cond (eqb i n) home (H i)

abbrev with_second : (ℕ → Option ℕ) → ℕ → Option ℕ → ℕ → Option ℕ
with_second S n o = λ i. cond (eqb i n) o (S i)

abbrev pub with_place : (ℕ → ℕ → Entry) → ℕ → ℕ → Entry → ℕ → ℕ → Entry
with_place E d place e = λ a p. cond (eqb a d && eqb p place) e (E a p)

pub home-same : (H : ℕ → Option Home) (n : ℕ) (v : Option Home) → with_home H n v n ≡ v
home-same H n v = rw (eq-eqb n n refl) refl

pub home-other : (H : ℕ → Option Home) (n i : ℕ) (v : Option Home) → i ≢ n → with_home H n v i ≡ H i
home-other H n i v other = rw (ne_eqb i n other) refl

second-same : (S : ℕ → Option ℕ) (n : ℕ) (o : Option ℕ) → with_second S n o n ≡ o
second-same S n o = rw (eq-eqb n n refl) refl

second-other : (S : ℕ → Option ℕ) (n i : ℕ) (o : Option ℕ) → i ≢ n → with_second S n o i ≡ S i
second-other S n i o other = rw (ne_eqb i n other) refl

pub entry-same : (E : ℕ → ℕ → Entry) (d place : ℕ) (e : Entry) → with_place E d place e d place ≡ e
entry-same E d place e = ap (λ b. cond b e (E d place)) (and_from (eqb d d) (eqb place place) (eq-eqb d d refl) (eq-eqb place place refl))

pub entry-other : (E : ℕ → ℕ → Entry) (d place : ℕ) (e : Entry) (a p : ℕ) → ((a ≡ d) → (p ≡ place) → ⊥) → with_place E d place e a p ≡ E a p
entry-other E d place e a p apart = by (eqb a d && eqb p place) refl
  where
    by : (b : Bool) → (eqb a d && eqb p place) ≡ b → cond b e (E a p) ≡ E a p
    by false is = refl
    by true is = let h = and_parts (eqb a d) (eqb p place) is in absurd (apart (eqb-true a d h.0) (eqb-true p place h.1))

-- whether it is this place
pub cases_place : (d place a p : ℕ) → ((a ≡ d) × (p ≡ place)) ⊎ ((a ≡ d) → (p ≡ place) → ⊥)
cases_place d place a p = by (cases_eq a d) (cases_eq p place)
  where
    by : (a ≡ d) ⊎ (a ≡ d → ⊥) → (p ≡ place) ⊎ (p ≡ place → ⊥) → ((a ≡ d) × (p ≡ place)) ⊎ ((a ≡ d) → (p ≡ place) → ⊥)
    by (inl x) (inl y) = inl (x, y)
    by (inl x) (inr y) = inr (λ _ z. y z)
    by (inr x) _ = inr (λ z _. x z)

-- ── the entries of one node ──

-- a place of a directory, and one more if there is one
abbrev pub with_own : (ℕ → ℕ → Entry) → ℕ → ℕ → Option ℕ → Entry → ℕ → ℕ → Entry
with_own E d place None e = with_place E d place e
with_own E d place (Some more) e = with_place (with_place E d place e) d more e

-- It is one of them
abbrev pub IsOwn : ℕ → ℕ → Option ℕ → ℕ → ℕ → Type 0
IsOwn d place o a p = (a ≡ d) × ((p ≡ place) ⊎ (o ≡ Some p))

pub cases_own : (d place : ℕ) (o : Option ℕ) (a p : ℕ) → IsOwn d place o a p ⊎ (IsOwn d place o a p → ⊥)
cases_own d place o a p = by (cases_eq a d) (cases_eq p place) (more o)
  where
    more : (o : Option ℕ) → (o ≡ Some p) ⊎ (o ≡ Some p → ⊥)
    more None = inr (λ e. absurd (cc (e)))
    more (Some m) = same (cases_eq m p)
      where
        same : (m ≡ p) ⊎ (m ≡ p → ⊥) → (Some m ≡ Some p) ⊎ (Some m ≡ Some p → ⊥)
        same (inl e) = inl (ap Some e)
        same (inr other) = inr (λ e. (let q : m ≡ p = cc in other q))

    by : (a ≡ d) ⊎ (a ≡ d → ⊥) → (p ≡ place) ⊎ (p ≡ place → ⊥) → (o ≡ Some p) ⊎ (o ≡ Some p → ⊥) → IsOwn d place o a p ⊎ (IsOwn d place o a p → ⊥)
    by (inr x) _ _ = inr (λ own. x own.0)
    by (inl x) (inl y) _ = inl (x, inl y)
    by (inl x) (inr y) (inl z) = inl (x, inr z)
    by (inl x) (inr y) (inr z) = inr (λ own. neither own.1)
      where
        neither : (p ≡ place) ⊎ (o ≡ Some p) → ⊥
        neither (inl e) = y e
        neither (inr e) = z e

entry-here : (E : ℕ → ℕ → Entry) (d place : ℕ) (e : Entry) (a p : ℕ) → a ≡ d → p ≡ place → with_place E d place e a p ≡ e
entry-here E d place e a p x y = ap (λ b. cond b e (E a p)) (and_from (eqb a d) (eqb p place) (eq-eqb a d x) (eq-eqb p place y))

pub own-here : (E : ℕ → ℕ → Entry) (d place : ℕ) (o : Option ℕ) (e : Entry) (a p : ℕ) → IsOwn d place o a p → with_own E d place o e a p ≡ e
own-here E d place o e a p own = by o own.1
  where
    by : (o : Option ℕ) → (p ≡ place) ⊎ (o ≡ Some p) → with_own E d place o e a p ≡ e
    by None (inl y) = entry-here E d place e a p own.0 y
    by None (inr z) = absurd (cc (z))
    by (Some m) (inr z) = let q : m ≡ p = cc in entry-here (with_place E d place e) d m e a p own.0 (sym q)
    by (Some m) (inl y) = cases (cases_place d m a p)
      where
        cases : ((a ≡ d) × (p ≡ m)) ⊎ ((a ≡ d) → (p ≡ m) → ⊥) → with_place (with_place E d place e) d m e a p ≡ e
        cases (inl both) = entry-here (with_place E d place e) d m e a p both.0 both.1
        cases (inr apart) = entry-other (with_place E d place e) d m e a p apart ∙ entry-here E d place e a p own.0 y

pub own-other : (E : ℕ → ℕ → Entry) (d place : ℕ) (o : Option ℕ) (e : Entry) (a p : ℕ) → (IsOwn d place o a p → ⊥) → with_own E d place o e a p ≡ E a p
own-other E d place o e a p apart = by o apart
  where
    by : (o : Option ℕ) → (IsOwn d place o a p → ⊥) → with_own E d place o e a p ≡ E a p
    by None apart = entry-other E d place e a p (λ x y. apart (x, inl y))
    by (Some m) apart =
        entry-other (with_place E d place e) d m e a p (λ x z. apart (x, inr (ap Some (sym z))))
        ∙ entry-other E d place e a p (λ x y. apart (x, inl y))

-- ── a node hangs at a place that was empty ──

-- and at another, if the name may not stand there
abbrev pub HasSecondRoom : (ℕ → ℕ → Entry) → Home → Option ℕ → Type 0
HasSecondRoom E home None = IsBlockFor (tag_of home.name) (home.place / 512)
HasSecondRoom E home (Some p) = IsBlockFor (tag_of home.name) (p / 512) × (IsBlockFor (tag_of home.name) (home.place / 512) → ⊥) × ((E home.directory p).number ≡ 0)

module _ (H : ℕ → Option Home) (E : ℕ → ℕ → Entry) (n : ℕ) (home : Home) (o : Option ℕ) (zero : H 0 ≡ None) (none : H n ≡ None) (some : n ≢ 0)
    (empty : (E home.directory home.place).number ≡ 0) (room : HasSecondRoom E home o) (old : IsHung H E) where
  abbrev H2 : ℕ → Option Home
  H2 = with_home H n (Some home)

  abbrev E2 : ℕ → ℕ → Entry
  E2 = with_own E home.directory home.place o (entry_for n home)

  abbrev S2 : ℕ → Option ℕ
  S2 = with_second old.second n o

  -- nothing was at its places
  was_empty : (p : ℕ) → (p ≡ home.place) ⊎ (o ≡ Some p) → (E home.directory p).number ≡ 0
  was_empty p (inl y) = ap (λ p. (E home.directory p).number) y ∙ empty
  was_empty p (inr z) = by o room z
    where
      by : (o : Option ℕ) → HasSecondRoom E home o → o ≡ Some p → (E home.directory p).number ≡ 0
      by None room z = absurd (cc (z))
      by (Some m) room z = let q : m ≡ p = cc in ap (λ p. (E home.directory p).number) (sym q) ∙ room.2

  full : (i p : ℕ) (h : Home) → H i ≡ Some h → E h.directory p ≡ entry_for i h → IsOwn home.directory home.place o h.directory p → ⊥
  full i p h was at own =
      let e : i ≡ 0 = sym (ap (λ (e : Entry). e.number) at) ∙ ap (λ d. (E d p).number) own.0 ∙ was_empty p own.1 in
      absurd (cc (sym zero ∙ ap H (sym e) ∙ was))

  back-hang : (d place : ℕ) → (E2 d place).number ≢ 0 → IsOwn home.directory home.place o d place ⊎ (IsOwn home.directory home.place o d place → ⊥) → IsEntryOf H2 S2 d place (E2 d place)
  back-hang d place is (inl own) =
      subst (IsEntryOf H2 S2 d place) (sym (own-here E home.directory home.place o (entry_for n home) d place own))
      (record { home = home; is = home-same H n (Some home); directory = sym own.0; at = at own.1; tag = refl })
    where
      at : (place ≡ home.place) ⊎ (o ≡ Some place) → (home.place ≡ place) ⊎ (S2 n ≡ Some place)
      at (inl y) = inl (sym y)
      at (inr z) = inr (second-same old.second n o ∙ z)
  back-hang d place is (inr apart) =
      subst (IsEntryOf H2 S2 d place) (sym stays)
      (record { home = x.home; is = home-other H n (E d place).number (Some home) not_n ∙ x.is; directory = x.directory; at = at x.at; tag = x.tag })
    where
      stays : E2 d place ≡ E d place
      stays = own-other E home.directory home.place o (entry_for n home) d place apart

      x : IsEntryOf H old.second d place (E d place)
      x = old.back d place (λ e. is (ap (λ (e : Entry). e.number) stays ∙ e))

      not_n : (E d place).number ≢ n
      not_n e = absurd (cc (sym none ∙ ap H (sym e) ∙ x.is))

      at : (x.home.place ≡ place) ⊎ (old.second (E d place).number ≡ Some place) → (x.home.place ≡ place) ⊎ (S2 (E d place).number ≡ Some place)
      at (inl y) = inl y
      at (inr z) = inr (second-other old.second n (E d place).number o not_n ∙ z)

  hung-hang : (i : ℕ) (h : Home) → H2 i ≡ Some h → i ≢ ROOT → (i ≡ n) ⊎ (i ≡ n → ⊥) → E2 h.directory h.place ≡ entry_for i h
  hung-hang i h is other (inl same) =
      let e : Some home ≡ Some h = sym (home-same H n (Some home)) ∙ ap H2 (sym same) ∙ is in
      let q : home ≡ h = cc in
      subst (λ (h : Home). E2 h.directory h.place ≡ entry_for i h) q
      (own-here E home.directory home.place o (entry_for n home) home.directory home.place (refl, inl refl) ∙ ap (λ n. entry_for n home) (sym same))
  hung-hang i h is other (inr apart) = own-other E home.directory home.place o (entry_for n home) h.directory h.place (full i h.place h was at) ∙ at
    where
      was : H i ≡ Some h
      was = sym (home-other H n i (Some home) apart) ∙ is

      at : E h.directory h.place ≡ entry_for i h
      at = old.hung i h was other

  -- it has a second entry where it needs one
  own-second : (o : Option ℕ) → HasSecondRoom E home o → HasSecond (with_own E home.directory home.place o (entry_for n home)) n home o
  own-second None room = room
  own-second (Some p) room = record { block = room.0; is = own-here E home.directory home.place (Some p) (entry_for n home) home.directory p (refl, inr refl); needed = room.1 }

  seconds-hang : (i : ℕ) (h : Home) → H2 i ≡ Some h → i ≢ ROOT → (i ≡ n) ⊎ (i ≡ n → ⊥) → HasSecond E2 i h (S2 i)
  seconds-hang i h is other (inl same) =
      let e : Some home ≡ Some h = sym (home-same H n (Some home)) ∙ ap H2 (sym same) ∙ is in
      let q : home ≡ h = cc in
      subst (λ i. HasSecond E2 i h (S2 i)) (sym same) (subst (λ h. HasSecond E2 n h (S2 n)) q (subst (HasSecond E2 n home) (sym (second-same old.second n o)) (own-second o room)))
  seconds-hang i h is other (inr apart) = subst (HasSecond E2 i h) (sym (second-other old.second n i o apart)) (kept (old.second i) (old.seconds i h was other))
    where
      was : H i ≡ Some h
      was = sym (home-other H n i (Some home) apart) ∙ is

      kept : (s : Option ℕ) → HasSecond E i h s → HasSecond E2 i h s
      kept None x = x
      kept (Some p) x = record { block = x.block; is = own-other E home.directory home.place o (entry_for n home) h.directory p (full i p h was x.is) ∙ x.is; needed = x.needed }

  blank-hang : (d place : ℕ) → (E2 d place).number ≡ 0 → IsOwn home.directory home.place o d place ⊎ (IsOwn home.directory home.place o d place → ⊥) → E2 d place ≡ no_entry
  blank-hang d place is (inl own) = absurd (some (sym (ap (λ (e : Entry). e.number) (own-here E home.directory home.place o (entry_for n home) d place own)) ∙ is))
  blank-hang d place is (inr apart) = stays ∙ old.blank d place (sym (ap (λ (e : Entry). e.number) stays) ∙ is)
    where
      stays : E2 d place ≡ E d place
      stays = own-other E home.directory home.place o (entry_for n home) d place apart

  pub hang : IsHung (with_home H n (Some home)) (with_own E home.directory home.place o (entry_for n home))
  hang = record {
    second = with_second old.second n o;
    back = λ d place is. back-hang d place is (cases_own home.directory home.place o d place);
    hung = λ i h is other. hung-hang i h is other (cases_eq i n);
    seconds = λ i h is other. seconds-hang i h is other (cases_eq i n);
    blank = λ d place is. blank-hang d place is (cases_own home.directory home.place o d place);
  }

-- ── a node goes with its entries ──

module _ (H : ℕ → Option Home) (E : ℕ → ℕ → Entry) (n : ℕ) (home : Home) (o : Option ℕ) (some : H n ≡ Some home) (below : n ≢ ROOT) (old : IsHung H E) (more : old.second n ≡ o) where
  abbrev H3 : ℕ → Option Home
  H3 = with_home H n None

  abbrev E3 : ℕ → ℕ → Entry
  E3 = with_own E home.directory home.place o no_entry

  own-entry : (p : ℕ) → (p ≡ home.place) ⊎ (o ≡ Some p) → E home.directory p ≡ entry_for n home
  own-entry p (inl y) = ap (E home.directory) y ∙ old.hung n home some below
  own-entry p (inr z) = let x : HasSecond E n home (Some p) = subst (HasSecond E n home) (more ∙ z) (old.seconds n home some below) in x.is

  back-cut : (d place : ℕ) → (E3 d place).number ≢ 0 → IsOwn home.directory home.place o d place ⊎ (IsOwn home.directory home.place o d place → ⊥) → IsEntryOf H3 old.second d place (E3 d place)
  back-cut d place is (inl own) = absurd (is (ap (λ (e : Entry). e.number) (own-here E home.directory home.place o no_entry d place own)))
  back-cut d place is (inr apart) =
      subst (IsEntryOf H3 old.second d place) (sym stays)
      (record { home = x.home; is = home-other H n (E d place).number None not_n ∙ x.is; directory = x.directory; at = x.at; tag = x.tag })
    where
      stays : E3 d place ≡ E d place
      stays = own-other E home.directory home.place o no_entry d place apart

      x : IsEntryOf H old.second d place (E d place)
      x = old.back d place (λ e. is (ap (λ (e : Entry). e.number) stays ∙ e))

      not_n : (E d place).number ≢ n
      not_n e = by x.at
        where
          same : home ≡ x.home
          same = let s : Some home ≡ Some x.home = sym some ∙ ap H (sym e) ∙ x.is in cc

          directory : d ≡ home.directory
          directory = sym x.directory ∙ ap (λ (h : Home). h.directory) (sym same)

          by : (x.home.place ≡ place) ⊎ (old.second (E d place).number ≡ Some place) → ⊥
          by (inl y) = apart (directory, inl (sym y ∙ ap (λ (h : Home). h.place) (sym same)))
          by (inr z) = apart (directory, inr (sym more ∙ ap old.second (sym e) ∙ z))

  -- the places of others are others
  free : (i p : ℕ) (h : Home) → i ≢ n → E h.directory p ≡ entry_for i h → IsOwn home.directory home.place o h.directory p → ⊥
  free i p h apart at own = apart (sym (ap (λ (e : Entry). e.number) at) ∙ ap (λ d. (E d p).number) own.0 ∙ ap (λ (e : Entry). e.number) (own-entry p own.1))

  hung-cut : (i : ℕ) (h : Home) → H3 i ≡ Some h → i ≢ ROOT → (i ≡ n) ⊎ (i ≡ n → ⊥) → E3 h.directory h.place ≡ entry_for i h
  hung-cut i h is other (inl same) = absurd (cc (sym (home-same H n None) ∙ ap H3 (sym same) ∙ is))
  hung-cut i h is other (inr apart) =
      let at : E h.directory h.place ≡ entry_for i h = old.hung i h (sym (home-other H n i None apart) ∙ is) other in
      own-other E home.directory home.place o no_entry h.directory h.place (free i h.place h apart at) ∙ at

  seconds-cut : (i : ℕ) (h : Home) → H3 i ≡ Some h → i ≢ ROOT → (i ≡ n) ⊎ (i ≡ n → ⊥) → HasSecond E3 i h (old.second i)
  seconds-cut i h is other (inl same) = absurd (cc (sym (home-same H n None) ∙ ap H3 (sym same) ∙ is))
  seconds-cut i h is other (inr apart) = kept (old.second i) (old.seconds i h (sym (home-other H n i None apart) ∙ is) other)
    where
      kept : (s : Option ℕ) → HasSecond E i h s → HasSecond E3 i h s
      kept None x = x
      kept (Some p) x = record { block = x.block; is = own-other E home.directory home.place o no_entry h.directory p (free i p h apart x.is) ∙ x.is; needed = x.needed }

  blank-cut : (d place : ℕ) → (E3 d place).number ≡ 0 → IsOwn home.directory home.place o d place ⊎ (IsOwn home.directory home.place o d place → ⊥) → E3 d place ≡ no_entry
  blank-cut d place is (inl own) = own-here E home.directory home.place o no_entry d place own
  blank-cut d place is (inr apart) = stays ∙ old.blank d place (sym (ap (λ (e : Entry). e.number) stays) ∙ is)
    where
      stays : E3 d place ≡ E d place
      stays = own-other E home.directory home.place o no_entry d place apart

  pub cut : IsHung (with_home H n None) (with_own E home.directory home.place o no_entry)
  cut = record {
    second = old.second;
    back = λ d place is. back-cut d place is (cases_own home.directory home.place o d place);
    hung = λ i h is other. hung-cut i h is other (cases_eq i n);
    seconds = λ i h is other. seconds-cut i h is other (cases_eq i n);
    blank = λ d place is. blank-cut d place is (cases_own home.directory home.place o d place);
  }
