-- Hanging a node elsewhere, putting one there and taking one away.
use Rattle.std.proofs.Common.{◌≡◌, ◌≢◌, ℕ, ◌<◌, ◌≤◌, Option, Some, None, cond, eqb, refl, sym, ap, subst, arith, ◌⊎◌, inl, inr, ◌∙◌}
use Rattle.std.proofs.lemmas.Bool.{cases_eq, eq-eqb, ne_eqb}
use Rattle.journal_tree.specs.declared.limits.TheConstants.{ROOT}
use Rattle.journal_tree.specs.Trees.{Home, root_home}
use Rattle.journal_tree.specs.Rule.{Stem, Stems, HasPlace, IsBelow, IsRoot, IsTree}
use Rattle.journal_tree.specs.Rule.IsBelow.{itself, parent}

-- the stems with one replaced
abbrev pub with_stem : Stems → ℕ → Option Stem → Stems
with_stem S n v = λ i. cond (eqb i n) v (S i)

pub with_stem-same : (S : Stems) (n : ℕ) (v : Option Stem) → with_stem S n v n ≡ v
with_stem-same S n v = rw (eq-eqb n n refl) refl

pub with_stem-other : (S : Stems) (n i : ℕ) (v : Option Stem) → i ≢ n → with_stem S n v i ≡ S i
with_stem-other S n i v other = rw (ne_eqb i n other) refl

-- what one of the new stems is: the new one, or an old one
pub stem_cases : (S : Stems) (n : ℕ) (v : Option Stem) (i : ℕ) (s : Stem) → with_stem S n v i ≡ Some s → ((i ≡ n) × (v ≡ Some s)) ⊎ ((i ≢ n) × (S i ≡ Some s))
stem_cases S n v i s e = by (cases_eq i n)
  where
    by : (i ≡ n) ⊎ (i ≡ n → ⊥) → ((i ≡ n) × (v ≡ Some s)) ⊎ ((i ≢ n) × (S i ≡ Some s))
    by (inl same) = inl (same, sym (with_stem-same S n v) ∙ ap (with_stem S n v) (sym same) ∙ e)
    by (inr other) = inr (other, sym (with_stem-other S n i v other) ∙ e)

-- a directory that was there is one still, with no fewer places
abbrev pub KeepsPlaces : Stems → ℕ → Stem → Type 0
KeepsPlaces S n v = (s : Stem) (places : ℕ) → S n ≡ Some s → s.places ≡ Some places → (more : ℕ) × (v.places ≡ Some more) × (places ≤ more)

-- What is asked of a new stem: its home is a directory that is not below it, and nobody else has the name or the place
pub record MayHang (numbers : ℕ) (S : Stems) (n : ℕ) (v : Stem) : Type 0 where
  pub low : n < numbers
  pub other : n ≢ ROOT
  pub some : n ≢ 0
  pub kind : KeepsPlaces S n v
  pub directory : HasPlace S v.home.directory v.home.place
  pub apart : IsBelow S n v.home.directory → ⊥
  pub name : (i : ℕ) (s : Stem) → i ≢ n → S i ≡ Some s → s.home.directory ≡ v.home.directory → s.home.name ≡ v.home.name → ⊥
  pub place : (i : ℕ) (s : Stem) → i ≢ n → S i ≡ Some s → s.home.directory ≡ v.home.directory → s.home.place ≡ v.home.place → ⊥

-- a place stays
place_kept : (S : Stems) (n : ℕ) (v : Stem) → KeepsPlaces S n v → (d place : ℕ) → HasPlace S d place → HasPlace (with_stem S n (Some v)) d place
place_kept S n v kind d place has = by (cases_eq d n)
  where
    by : (d ≡ n) ⊎ (d ≡ n → ⊥) → HasPlace (with_stem S n (Some v)) d place
    by (inl same) =
        let more = kind has.0 has.1 (ap S (sym same) ∙ has.2) has.3 in
        (v, more.0, ap (with_stem S n (Some v)) same ∙ with_stem-same S n (Some v), more.1, omega (arith, has.4, more.2))
    by (inr other) = (has.0, has.1, with_stem-other S n d (Some v) other ∙ has.2, has.3, has.4)

-- a way up that does not pass n stays
way_kept : (S : Stems) (n : ℕ) (v : Option Stem) (d i : ℕ) → IsBelow S d i → IsBelow S n i ⊎ IsBelow (with_stem S n v) d i
way_kept S n v d _ itself = inr itself
way_kept S n v d _ (parent i s is up) = by (cases_eq i n) (way_kept S n v d s.home.directory up)
  where
    by : (i ≡ n) ⊎ (i ≡ n → ⊥) → IsBelow S n s.home.directory ⊎ IsBelow (with_stem S n v) d s.home.directory → IsBelow S n i ⊎ IsBelow (with_stem S n v) d i
    by (inl same) _ = inl (subst (IsBelow S n) (sym same) itself)
    by (inr other) (inl passes) = inl (parent i s is passes)
    by (inr other) (inr kept) = inr (parent i s (with_stem-other S n i v other ∙ is) kept)

-- a stem that may hang there keeps the rule
pub IsTree-hang : (numbers : ℕ) (S : Stems) (n : ℕ) (v : Stem) → IsTree numbers S → MayHang numbers S n v → IsTree numbers (with_stem S n (Some v))
IsTree-hang numbers S n v tree may = record {
  root = record { places = tree.root.places; is = with_stem-other S n ROOT (Some v) (λ e. may.other (sym e)) ∙ tree.root.is };
  zero = with_stem-other S n 0 (Some v) (λ e. may.some (sym e)) ∙ tree.zero;
  bounded = λ i s is. bounded i s (stem_cases S n (Some v) i s is);
  hangs = λ i s is below. hangs i s below (stem_cases S n (Some v) i s is);
  names = λ i j s t is it directory name. names i j s t directory name (stem_cases S n (Some v) i s is) (stem_cases S n (Some v) j t it);
  places = λ i j s t is it directory place. places i j s t directory place (stem_cases S n (Some v) i s is) (stem_cases S n (Some v) j t it);
  leads = λ i s is. leads i s is (stem_cases S n (Some v) i s is);
}
  where
    bounded : (i : ℕ) (s : Stem) → ((i ≡ n) × (Some v ≡ Some s)) ⊎ ((i ≢ n) × (S i ≡ Some s)) → i < numbers
    bounded i s (inl new) = subst (λ k. k < numbers) (sym new.0) may.low
    bounded i s (inr old) = tree.bounded i s old.1

    hangs : (i : ℕ) (s : Stem) → i ≢ ROOT → ((i ≡ n) × (Some v ≡ Some s)) ⊎ ((i ≢ n) × (S i ≡ Some s)) → HasPlace (with_stem S n (Some v)) s.home.directory s.home.place
    hangs i s below (inl new) = let e : v ≡ s = cc in subst (λ (s : Stem). HasPlace (with_stem S n (Some v)) s.home.directory s.home.place) e (place_kept S n v may.kind v.home.directory v.home.place may.directory)
    hangs i s below (inr old) = place_kept S n v may.kind s.home.directory s.home.place (tree.hangs i s old.1 below)

    names : (i j : ℕ) (s t : Stem) → s.home.directory ≡ t.home.directory → s.home.name ≡ t.home.name → ((i ≡ n) × (Some v ≡ Some s)) ⊎ ((i ≢ n) × (S i ≡ Some s)) → ((j ≡ n) × (Some v ≡ Some t)) ⊎ ((j ≢ n) × (S j ≡ Some t)) → i ≡ j
    names i j s t directory name (inl a) (inl b) = cc
    names i j s t directory name (inl a) (inr b) = let e : v ≡ s = cc in absurd (may.name j t b.0 b.1 (cc) (cc))
    names i j s t directory name (inr a) (inl b) = let e : v ≡ t = cc in absurd (may.name i s a.0 a.1 (cc) (cc))
    names i j s t directory name (inr a) (inr b) = tree.names i j s t a.1 b.1 directory name

    places : (i j : ℕ) (s t : Stem) → s.home.directory ≡ t.home.directory → s.home.place ≡ t.home.place → ((i ≡ n) × (Some v ≡ Some s)) ⊎ ((i ≢ n) × (S i ≡ Some s)) → ((j ≡ n) × (Some v ≡ Some t)) ⊎ ((j ≢ n) × (S j ≡ Some t)) → i ≡ j
    places i j s t directory place (inl a) (inl b) = cc
    places i j s t directory place (inl a) (inr b) = let e : v ≡ s = cc in absurd (may.place j t b.0 b.1 (cc) (cc))
    places i j s t directory place (inr a) (inl b) = let e : v ≡ t = cc in absurd (may.place i s a.0 a.1 (cc) (cc))
    places i j s t directory place (inr a) (inr b) = tree.places i j s t a.1 b.1 directory place

    -- the new home is not below n, so its way up stays
    above : IsBelow S n v.home.directory ⊎ IsBelow (with_stem S n (Some v)) ROOT v.home.directory → IsBelow (with_stem S n (Some v)) ROOT v.home.directory
    above (inl passes) = absurd (may.apart passes)
    above (inr kept) = kept

    way : IsBelow (with_stem S n (Some v)) ROOT v.home.directory
    way = above (way_kept S n (Some v) ROOT v.home.directory (tree.leads v.home.directory may.directory.0 may.directory.2))

    at_n : IsBelow (with_stem S n (Some v)) ROOT n
    at_n = parent n v (with_stem-same S n (Some v)) way

    -- and every other way up stays, or passes n
    below_n : (i : ℕ) → IsBelow S ROOT i → IsBelow (with_stem S n (Some v)) ROOT i
    below_n _ itself = itself
    below_n _ (parent i s is up) = by (cases_eq i n) (below_n s.home.directory up)
      where
        by : (i ≡ n) ⊎ (i ≡ n → ⊥) → IsBelow (with_stem S n (Some v)) ROOT s.home.directory → IsBelow (with_stem S n (Some v)) ROOT i
        by (inl same) _ = subst (IsBelow (with_stem S n (Some v)) ROOT) (sym same) at_n
        by (inr other) kept = parent i s (with_stem-other S n i (Some v) other ∙ is) kept

    leads : (i : ℕ) (s : Stem) → with_stem S n (Some v) i ≡ Some s → ((i ≡ n) × (Some v ≡ Some s)) ⊎ ((i ≢ n) × (S i ≡ Some s)) → IsBelow (with_stem S n (Some v)) ROOT i
    leads i s is (inl new) = subst (IsBelow (with_stem S n (Some v)) ROOT) (sym new.0) at_n
    leads i s is (inr old) = below_n i (tree.leads i s old.1)

-- a node in which nothing hangs may go
pub IsTree-cut : (numbers : ℕ) (S : Stems) (n : ℕ) → IsTree numbers S → n ≢ ROOT → ((i : ℕ) (s : Stem) → S i ≡ Some s → s.home.directory ≢ n) → IsTree numbers (with_stem S n None)
IsTree-cut numbers S n tree other empty = record {
  root = record { places = tree.root.places; is = with_stem-other S n ROOT None (λ e. other (sym e)) ∙ tree.root.is };
  zero = zero (cases_eq 0 n);
  bounded = λ i s is. tree.bounded i s (old i s is).1;
  hangs = λ i s is below.
      let h = tree.hangs i s (old i s is).1 below in
      (h.0, h.1, with_stem-other S n s.home.directory None (empty i s (old i s is).1) ∙ h.2, h.3, h.4);
  names = λ i j s t is it directory name. tree.names i j s t (old i s is).1 (old j t it).1 directory name;
  places = λ i j s t is it directory place. tree.places i j s t (old i s is).1 (old j t it).1 directory place;
  leads = λ i s is. leads i (old i s is).0 (tree.leads i s (old i s is).1);
}
  where
    zero : (0 ≡ n) ⊎ (0 ≡ n → ⊥) → with_stem S n None 0 ≡ None
    zero (inl same) = ap (with_stem S n None) same ∙ with_stem-same S n None
    zero (inr apart) = with_stem-other S n 0 None apart ∙ tree.zero

    old : (i : ℕ) (s : Stem) → with_stem S n None i ≡ Some s → (i ≢ n) × (S i ≡ Some s)
    old i s is = by (stem_cases S n None i s is)
      where
        by : ((i ≡ n) × (None ≡ Some s)) ⊎ ((i ≢ n) × (S i ≡ Some s)) → (i ≢ n) × (S i ≡ Some s)
        by (inl new) = absurd (cc (new.1))
        by (inr old) = old

    leads : (i : ℕ) → i ≢ n → IsBelow S ROOT i → IsBelow (with_stem S n None) ROOT i
    leads _ _ itself = itself
    leads _ stays (parent i s is up) = parent i s (with_stem-other S n i None stays ∙ is) (leads s.home.directory (empty i s is) up)

-- where nothing is, nothing hangs below
pub nothing_below : (numbers : ℕ) (S : Stems) (n : ℕ) → IsTree numbers S → S n ≡ None → n ≢ 0 → (i : ℕ) (s : Stem) → S i ≡ Some s → IsBelow S n i → ⊥
nothing_below numbers S n tree none some i s is way = go i way s is
  where
    go : (i : ℕ) → IsBelow S n i → (s : Stem) → S i ≡ Some s → ⊥
    go _ itself s is = absurd (cc (sym none ∙ is))
    go _ (parent i t it up) s is = by (cases_eq i ROOT) (go t.home.directory up) up
      where
        from_zero : (d : ℕ) → d ≡ 0 → IsBelow S n d → ⊥
        from_zero _ e itself = some e
        from_zero _ e (parent d u iu up) = absurd (cc (sym tree.zero ∙ ap S (sym e) ∙ iu))

        by : (i ≡ ROOT) ⊎ (i ≡ ROOT → ⊥) → ((s : Stem) → S t.home.directory ≡ Some s → ⊥) → IsBelow S n t.home.directory → ⊥
        by (inl same) ih up = let root : Stem = record { home = root_home; places = Some tree.root.places } in let e : Some root ≡ Some t = sym tree.root.is ∙ ap S (sym same) ∙ it in let r : root ≡ t = cc in from_zero t.home.directory (ap (λ (t : Stem). t.home.directory) (sym r)) up
        by (inr below) ih up = let h = tree.hangs i t it below in ih h.0 h.2

stem_same : (v : Stem) (home : Home) (places : Option ℕ) → v.home ≡ home → v.places ≡ places → v ≡ record { home = home; places = places }
stem_same v home places a b = λ i. record { home = a i; places = b i }

-- a directory may have more places
pub IsTree-grow : (numbers : ℕ) (S : Stems) (n : ℕ) (s v : Stem) → IsTree numbers S → S n ≡ Some s → v.home ≡ s.home → KeepsPlaces S n v → IsTree numbers (with_stem S n (Some v))
IsTree-grow numbers S n s v tree is home kind = record {
  root = root (cases_eq ROOT n);
  zero = zero (cases_eq 0 n);
  bounded = λ i t it. let o = old i t it in tree.bounded i o.0 o.1;
  hangs = λ i t it below. let o = old i t it in subst (λ (h : Home). HasPlace (with_stem S n (Some v)) h.directory h.place) o.2 (place_kept S n v kind o.0.home.directory o.0.home.place (tree.hangs i o.0 o.1 below));
  names = λ i j t u it iu directory name. let o = old i t it in let p = old j u iu in tree.names i j o.0 p.0 o.1 p.1 (ap (λ (h : Home). h.directory) o.2 ∙ directory ∙ sym (ap (λ (h : Home). h.directory) p.2)) (ap (λ (h : Home). h.name) o.2 ∙ name ∙ sym (ap (λ (h : Home). h.name) p.2));
  places = λ i j t u it iu directory place. let o = old i t it in let p = old j u iu in tree.places i j o.0 p.0 o.1 p.1 (ap (λ (h : Home). h.directory) o.2 ∙ directory ∙ sym (ap (λ (h : Home). h.directory) p.2)) (ap (λ (h : Home). h.place) o.2 ∙ place ∙ sym (ap (λ (h : Home). h.place) p.2));
  leads = λ i t it. let o = old i t it in ways i (tree.leads i o.0 o.1);
}
  where
    new : Stems
    new = with_stem S n (Some v)

    old : (i : ℕ) (t : Stem) → with_stem S n (Some v) i ≡ Some t → (u : Stem) × (S i ≡ Some u) × (u.home ≡ t.home)
    old i t it = by (stem_cases S n (Some v) i t it)
      where
        by : ((i ≡ n) × (Some v ≡ Some t)) ⊎ ((i ≢ n) × (S i ≡ Some t)) → (u : Stem) × (S i ≡ Some u) × (u.home ≡ t.home)
        by (inl at) = let e : v ≡ t = cc in (s, ap S at.0 ∙ is, sym home ∙ ap (λ (t : Stem). t.home) e)
        by (inr at) = (t, at.1, refl)

    root : (ROOT ≡ n) ⊎ (ROOT ≡ n → ⊥) → IsRoot (with_stem S n (Some v))
    root (inl same) =
        let was : Stem = record { home = root_home; places = Some tree.root.places } in
        let e : Some was ≡ Some s = sym tree.root.is ∙ ap S same ∙ is in
        let e2 : was ≡ s = cc in
        let more = kind s tree.root.places is (ap (λ (t : Stem). t.places) (sym e2)) in
        record {
          places = more.0;
          is = ap (with_stem S n (Some v)) same ∙ with_stem-same S n (Some v) ∙ ap Some (stem_same v root_home (Some more.0) (home ∙ ap (λ (t : Stem). t.home) (sym e2)) more.1);
        }
    root (inr other) = record { places = tree.root.places; is = with_stem-other S n ROOT (Some v) other ∙ tree.root.is }

    zero : (0 ≡ n) ⊎ (0 ≡ n → ⊥) → with_stem S n (Some v) 0 ≡ None
    zero (inl same) = absurd (cc (sym tree.zero ∙ ap S same ∙ is))
    zero (inr apart) = with_stem-other S n 0 (Some v) apart ∙ tree.zero

    ways : (i : ℕ) → IsBelow S ROOT i → IsBelow (with_stem S n (Some v)) ROOT i
    ways _ itself = itself
    ways _ (parent i t it up) = by (cases_eq i n) (ways t.home.directory up)
      where
        by : (i ≡ n) ⊎ (i ≡ n → ⊥) → IsBelow (with_stem S n (Some v)) ROOT t.home.directory → IsBelow (with_stem S n (Some v)) ROOT i
        by (inl same) kept = let e : Some t ≡ Some s = sym it ∙ ap S same ∙ is in let e2 : t ≡ s = cc in parent i v (ap (with_stem S n (Some v)) same ∙ with_stem-same S n (Some v)) (subst (IsBelow (with_stem S n (Some v)) ROOT) (ap (λ (t : Stem). t.home.directory) e2 ∙ ap (λ (h : Home). h.directory) (sym home)) kept)
        by (inr other) kept = parent i t (with_stem-other S n i (Some v) other ∙ it) kept
