-- Each step keeps the rule of the sessions' numbers of commits.
use Rattle.std.proofs.Common.{◌≡◌, ◌≢◌, ◌⊎◌, ℕ, zero, suc, ◌+◌, ◌-◌, ◌<◌, List, [], ◌∷◌, ◌++◌, length, replicate, set, true, false, true≢false, refl, sym, ap, ◌∙◌, subst, inl, inr, ⊎_elim, arith, get_or-set_same, get_or-set_other, length-append}
use Rattle.std.proofs.lemmas.List.{length-set, get_or_append_left}
use Rattle.std.proofs.Math.Seq.{get_or-append_seam}
use Rattle.std.specs.Prelude.{slice_index}
use mathlib.Core.Option.{some, some-ne-none, some-injective}
use lib.ListN.{get_elem?}
use Rattle.crossbeam_utils.specs.Register.{Turns, Forks, Merges}
use Rattle.atomic_table.proofs.Lists.{at_set, set_again}
use Rattle.journal_history.specs.declared.count_cell.View.{View}
use Rattle.journal_history.specs.Counts.{keeper, holder, token, nobody, first, raised, KeepsRule, Kept, Verifies, Touches, Raises}

off : false ≡ true → ⊥
off e = true≢false (sym e)

abbrev At : List View → ℕ → View → Type 0
At views j u = get_elem? views j ≡ some u

abbrev Once : List View → Type 0
Once views = (by other : ℕ) (v w : View) → At views by v → At views other w → v.has ≡ true → w.has ≡ true → v.number ≡ w.number → by ≡ other

at_snoc : (l : List View) (a b : View) (j : ℕ) → At (l ++ a ∷ []) j b → (At l j b) ⊎ ((j ≡ length l) × (a ≡ b))
at_snoc [] a b zero e = inr (refl, some-injective a b e)
at_snoc [] a b (suc j) e = absurd (some-ne-none b (sym e))
at_snoc (x ∷ xs) a b zero e = inl e
at_snoc (x ∷ xs) a b (suc j) e = ⊎_elim (λ (t : At xs j b). inl t) (λ (t : (j ≡ length xs) × (a ≡ b)). inr (ap suc t.0, t.1)) (at_snoc xs a b j e)

all_set : (F : ℕ → View → Type 0) (views : List View) (port : ℕ) (w : View) → F port w → ((j : ℕ) (u : View) → j ≢ port → At views j u → F j u) → (j : ℕ) (u : View) → At (set views port w) j u → F j u
all_set F views port w mine others j u e =
    ⊎_elim
    (λ (x : (j ≡ port) × (w ≡ u)). subst (λ (y : ℕ × View). F y.0 y.1) (λ i. (sym x.0 i, x.1 i)) mine)
    (λ (x : (j ≢ port) × (At views j u)). others j u x.0 x.1)
    (at_set views port j w u e)

once_set : (views : List View) (port : ℕ) (w : View) → Once views → ((j : ℕ) (u : View) → j ≢ port → At views j u → w.has ≡ true → u.has ≡ true → w.number ≡ u.number → port ≡ j) → Once (set views port w)
once_set views port w old apart i j v u ei ej hv hu s =
    ⊎_elim
    (λ (x : (i ≡ port) × (w ≡ v)). ⊎_elim
    (λ (y : (j ≡ port) × (w ≡ u)). x.0 ∙ sym y.0)
    (λ (y : (j ≢ port) × (At views j u)). x.0 ∙ apart j u y.0 y.1 (ap (λ (z : View). z.has) x.1 ∙ hv) hu (ap (λ (z : View). z.number) x.1 ∙ s))
    (at_set views port j w u ej))
    (λ (x : (i ≢ port) × (At views i v)). ⊎_elim
    (λ (y : (j ≡ port) × (w ≡ u)). sym (y.0 ∙ apart i v x.0 x.1 (ap (λ (z : View). z.has) y.1 ∙ hu) hv (ap (λ (z : View). z.number) y.1 ∙ sym s)))
    (λ (y : (j ≢ port) × (At views j u)). old i j v u x.1 y.1 hv hu s)
    (at_set views port j w u ej))
    (at_set views port i w v ei)

once_snoc : (views : List View) (w : View) → Once views → ((j : ℕ) (u : View) → At views j u → w.has ≡ true → u.has ≡ true → w.number ≡ u.number → ⊥) → Once (views ++ w ∷ [])
once_snoc views w old apart i j v u ei ej hv hu s =
    ⊎_elim
    (λ (x : At views i v). ⊎_elim
    (λ (y : At views j u). old i j v u x y hv hu s)
    (λ (y : (j ≡ length views) × (w ≡ u)). absurd (apart i v x (ap (λ (z : View). z.has) y.1 ∙ hu) hv (ap (λ (z : View). z.number) y.1 ∙ sym s)))
    (at_snoc views w u j ej))
    (λ (x : (i ≡ length views) × (w ≡ v)). ⊎_elim
    (λ (y : At views j u). absurd (apart j u y (ap (λ (z : View). z.has) x.1 ∙ hv) hu (ap (λ (z : View). z.number) x.1 ∙ s)))
    (λ (y : (j ≡ length views) × (w ≡ u)). x.0 ∙ sym y.0)
    (at_snoc views w u j ej))
    (at_snoc views w v i ei)

-- a view with no token and no counts
bare : (seat : ℕ) (counts : List ℕ) (j : ℕ) → KeepsRule seat counts j nobody
bare seat counts j = record { keeps = λ k. absurd (off k); agrees = λ h. absurd (off h); given = λ h. absurd (off h) }

-- another's view, where numbers are given
grows : (seat by : ℕ) (cs counts more : List ℕ) → by ≡ seat → cs ≡ counts → (j : ℕ) (u : View) → j ≢ by → KeepsRule seat counts j u → KeepsRule seat (cs ++ more) j u
grows seat by cs counts more here same j u apart k =
    let longer = length-append cs more in
    let long : length cs ≡ length counts = ap length same in record {
      keeps = λ p. absurd (apart ((k.keeps p).0 ∙ sym here));
      agrees = λ p.
          k.agrees p
          ∙ ap (λ (xs : List ℕ). slice_index xs u.number) (sym same)
          ∙ sym (get_or_append_left cs more 0 u.number (let low = k.given p in omega (arith, low, long)));
      given = λ p. let low = k.given p in omega (arith, low, long, longer);
    }

pub makes : (by : ℕ) (cs : List ℕ) → Forks Kept by (keeper cs) (keeper (cs ++ 0 ∷ [])) (token (length cs) 0)
makes by cs words views h at =
    let k = h.2 in
    let mine = (k.each by (keeper cs) at).keeps refl in
    let cs' : List ℕ = cs ++ 0 ∷ [] in
    let l = keeper cs' in
    let r = token (length cs) 0 in
    let F : ℕ → View → Type 0 = KeepsRule h.0 cs' in
    let long : length cs ≡ length h.1 = ap length mine.1 in
    let longer : length cs' ≡ length cs + 1 = length-append cs (0 ∷ []) in
    let new_l : F by l = record { keeps = λ _. (mine.0, refl); agrees = λ c. absurd (off c); given = λ c. absurd (off c) } in
    let others : (j : ℕ) (u : View) → j ≢ by → At views j u → F j u =
    λ j u apart e. grows h.0 by cs h.1 (0 ∷ []) mine.0 mine.1 j u apart (k.each j u e) in
    let low : (j : ℕ) (u : View) → At (set views by l) j u → u.has ≡ true → u.number < length cs =
    all_set (λ j u. u.has ≡ true → u.number < length cs) views by l (λ c. absurd (off c)) (λ j u apart e p. let q = (k.each j u e).given p in omega (arith, q, long)) in
    let new_r : (j : ℕ) → F j r = λ j. record { keeps = λ c. absurd (off c); agrees = λ _. sym (get_or-append_seam cs 0 [] 0); given = λ _. omega (arith, longer) } in (
      h.0,
      cs',
      record {
        each = λ j u e. ⊎_elim (λ (x : At (set views by l) j u). all_set F views by l new_l others j u x) (λ (x : (j ≡ length (set views by l)) × (r ≡ u)). subst (F j) x.1 (new_r j)) (at_snoc (set views by l) r u j e);
        once = once_snoc (set views by l) r (once_set views by l k.once (λ j u a e c. absurd (off c))) (λ j u e hr hu s. let q = low j u e hu in omega (arith, q, s));
      },
    )

pub joins : (by : ℕ) (cs : List ℕ) (other m n : ℕ) → Merges Kept by (keeper cs) other (token m n) (holder cs m n) nobody
joins by cs other m n words views h at apart there =
    let k = h.2 in
    let w = holder cs m n in
    let vs : List View = set views by w in
    let mine = (k.each by (keeper cs) at).keeps refl in
    let was : At views other (token m n) = ⊎_elim (λ (x : (other ≡ by) × (w ≡ token m n)). absurd (apart x.0)) (λ (x : (other ≢ by) × (At views other (token m n))). x.1) (at_set views by other w (token m n) there) in
    let theirs = k.each other (token m n) was in
    let F : ℕ → View → Type 0 = KeepsRule h.0 h.1 in
    let new_w : F by w = record { keeps = λ _. mine; agrees = λ _. theirs.agrees refl; given = λ _. theirs.given refl } in
    let after : (j : ℕ) (u : View) → At (set vs other nobody) j u → u.has ≡ true → ((j ≡ by) × (w ≡ u)) ⊎ ((j ≢ other) × (At views j u)) =
    λ j u e hu. ⊎_elim
    (λ (x : (j ≡ other) × (nobody ≡ u)). absurd (off (ap (λ (z : View). z.has) x.1 ∙ hu)))
    (λ (x : (j ≢ other) × (At vs j u)). ⊎_elim (λ (y : (j ≡ by) × (w ≡ u)). inl y) (λ (y : (j ≢ by) × (At views j u)). inr (x.0, y.1)) (at_set views by j w u x.1))
    (at_set vs other j nobody u e) in (
      h.0,
      h.1,
      record {
        each = all_set F vs other nobody (bare h.0 h.1 other) (λ j u _ e. all_set F views by w new_w (λ i y _ e'. k.each i y e') j u e);
        once = λ i j v u ei ej hv hu s. ⊎_elim
            (λ (x : (i ≡ by) × (w ≡ v)). ⊎_elim
            (λ (y : (j ≡ by) × (w ≡ u)). x.0 ∙ sym y.0)
            (λ (y : (j ≢ other) × (At views j u)). absurd (y.0 (sym (k.once other j (token m n) u was y.1 refl hu (ap (λ (z : View). z.number) x.1 ∙ s)))))
            (after j u ej hu))
            (λ (x : (i ≢ other) × (At views i v)). ⊎_elim
            (λ (y : (j ≡ by) × (w ≡ u)). absurd (x.0 (sym (k.once other i (token m n) v was x.1 refl hv (ap (λ (z : View). z.number) y.1 ∙ sym s)))))
            (λ (y : (j ≢ other) × (At views j u)). k.once i j v u x.1 y.1 hv hu s)
            (after j u ej hu))
            (after i v ei hv);
      },
    )

pub verifies : (by : ℕ) (cs : List ℕ) (m n : ℕ) → Turns Kept by (holder cs m n) (λ x. x) Verifies
verifies by cs m n words views h at =
    let k = h.2 in
    let v = holder cs m n in
    let fits = k.each by v at in
    let mine = fits.keeps refl in
    let low = fits.given refl in
    let long : length cs ≡ length h.1 = ap length mine.1 in
    (v, subst (Kept words) (sym (set_again views by v at)) h, (refl, λ _ _. (fits.agrees refl ∙ ap (λ (xs : List ℕ). slice_index xs m) (sym mine.1), omega (arith, low, long))))

pub touches : (by : ℕ) (cs : List ℕ) (m n : ℕ) → m < length cs → Turns Kept by (holder cs m n) (λ x. x) Touches
touches by cs m n short words views h at =
    let k = h.2 in
    let v = holder cs m n in
    let fits = k.each by v at in
    let mine = fits.keeps refl in
    let low = fits.given refl in
    let cs' : List ℕ = set cs m (n + 1) in
    let w = holder cs' m (n + 1) in
    let F : ℕ → View → Type 0 = KeepsRule h.0 cs' in
    let long : length cs ≡ length h.1 = ap length mine.1 in
    let long' : length cs' ≡ length cs = length-set cs m (n + 1) in
    let new_w : F by w = record { keeps = λ _. (mine.0, refl); agrees = λ _. sym (get_or-set_same cs m (n + 1) 0 short); given = λ _. omega (arith, low, long, long') } in
    let stays : (j : ℕ) (u : View) → j ≢ by → At views j u → F j u =
    λ j u apart e. record {
      keeps = λ p. absurd (apart (((k.each j u e).keeps p).0 ∙ sym mine.0));
      agrees = λ p. (k.each j u e).agrees p ∙ ap (λ (xs : List ℕ). slice_index xs u.number) (sym mine.1) ∙ sym (get_or-set_other cs m u.number (n + 1) 0 (λ same. apart (sym (k.once by j v u at e refl p (sym same)))));
      given = λ p. let q = (k.each j u e).given p in omega (arith, q, long, long');
    } in (
      w,
      (
        h.0,
        cs',
        record {
          each = all_set F views by w new_w stays;
          once = once_set views by w k.once (λ j u apart e hw hu s. k.once by j v u at e refl hu s);
        },
      ),
      refl,
    )

pub splits : (by : ℕ) (cs : List ℕ) (m n : ℕ) → Forks Kept by (holder cs m n) (keeper cs) (token m n)
splits by cs m n words views h at =
    let k = h.2 in
    let v = holder cs m n in
    let l = keeper cs in
    let r = token m n in
    let fits = k.each by v at in
    let mine = fits.keeps refl in
    let F : ℕ → View → Type 0 = KeepsRule h.0 h.1 in
    let new_l : F by l = record { keeps = λ _. mine; agrees = λ c. absurd (off c); given = λ c. absurd (off c) } in
    let new_r : (j : ℕ) → F j r = λ j. record { keeps = λ c. absurd (off c); agrees = λ _. fits.agrees refl; given = λ _. fits.given refl } in
    let gone : (j : ℕ) (u : View) → At (set views by l) j u → u.has ≡ true → m ≡ u.number → ⊥ =
    all_set (λ j u. u.has ≡ true → m ≡ u.number → ⊥) views by l (λ c _. absurd (off c)) (λ j u apart e hu s. apart (sym (k.once by j v u at e refl hu s))) in (
      h.0,
      h.1,
      record {
        each = λ j u e. ⊎_elim (λ (x : At (set views by l) j u). all_set F views by l new_l (λ i y _ e'. k.each i y e') j u x) (λ (x : (j ≡ length (set views by l)) × (r ≡ u)). subst (F j) x.1 (new_r j)) (at_snoc (set views by l) r u j e);
        once = once_snoc (set views by l) r (once_set views by l k.once (λ j u a e c. absurd (off c))) (λ j u e _ hu s. gone j u e hu s);
      },
    )

-- a pass that knows nothing is split off
pub spares : (by : ℕ) (cs : List ℕ) → Forks Kept by (keeper cs) (keeper cs) nobody
spares by cs words views h at =
    let k = h.2 in
    let l = keeper cs in
    let mine = (k.each by l at).keeps refl in
    let F : ℕ → View → Type 0 = KeepsRule h.0 h.1 in
    let new_l : F by l = record { keeps = λ _. mine; agrees = λ c. absurd (off c); given = λ c. absurd (off c) } in (
      h.0,
      h.1,
      record {
        each = λ j u e. ⊎_elim (λ (x : At (set views by l) j u). all_set F views by l new_l (λ i y _ e'. k.each i y e') j u x) (λ (x : (j ≡ length (set views by l)) × (nobody ≡ u)). subst (F j) x.1 (bare h.0 h.1 j)) (at_snoc (set views by l) nobody u j e);
        once = once_snoc (set views by l) nobody (once_set views by l k.once (λ j u a e c. absurd (off c))) (λ j u e hw hu s. absurd (off hw));
      },
    )

-- numbers are given to no session, up to the one that is written
pub raises : (by : ℕ) (cs : List ℕ) (bound : ℕ) → Turns Kept by (keeper cs) (λ x. bound ∷ []) Raises
raises by cs bound words views h at =
    let k = h.2 in
    let v = keeper cs in
    let mine = (k.each by v at).keeps refl in
    let cs' : List ℕ = raised cs bound in
    let w = keeper cs' in
    let F : ℕ → View → Type 0 = KeepsRule h.0 cs' in
    let new_w : F by w = record { keeps = λ _. (mine.0, refl); agrees = λ c. absurd (off c); given = λ c. absurd (off c) } in
    let others : (j : ℕ) (u : View) → j ≢ by → At views j u → F j u =
    λ j u apart e. grows h.0 by cs h.1 (replicate (bound - length cs) 0) mine.0 mine.1 j u apart (k.each j u e) in (
      w,
      (
        h.0,
        cs',
        record {
          each = all_set F views by w new_w others;
          once = once_set views by w k.once (λ j u a e c. absurd (off c));
        },
      ),
      refl,
    )

-- the moves, at a view that is known
pub makes_as : (by : ℕ) (v : View) → v ≡ keeper v.counts → Forks Kept by v (keeper (v.counts ++ 0 ∷ [])) (token (length v.counts) 0)
makes_as by v is = subst (λ (u : View). Forks Kept by u (keeper (v.counts ++ 0 ∷ [])) (token (length v.counts) 0)) (sym is) (makes by v.counts)

pub joins_as : (by : ℕ) (v : View) (other : ℕ) (u : View) → v ≡ keeper v.counts → u ≡ token u.number u.count → Merges Kept by v other u (holder v.counts u.number u.count) nobody
joins_as by v other u is iu =
    subst (λ (x : View). Merges Kept by x other u (holder v.counts u.number u.count) nobody) (sym is)
    (subst (λ (x : View). Merges Kept by (keeper v.counts) other x (holder v.counts u.number u.count) nobody) (sym iu) (joins by v.counts other u.number u.count))

pub verifies_as : (by : ℕ) (v : View) (cs : List ℕ) (m n : ℕ) → v ≡ holder cs m n → Turns Kept by v (λ x. x) Verifies
verifies_as by v cs m n is = subst (λ (x : View). Turns Kept by x (λ y. y) Verifies) (sym is) (verifies by cs m n)

pub touches_as : (by : ℕ) (v : View) → v ≡ holder v.counts v.number v.count → v.number < length v.counts → Turns Kept by v (λ x. x) Touches
touches_as by v is short = subst (λ (x : View). Turns Kept by x (λ y. y) Touches) (sym is) (touches by v.counts v.number v.count short)

pub splits_as : (by : ℕ) (v : View) → v ≡ holder v.counts v.number v.count → Forks Kept by v (keeper v.counts) (token v.number v.count)
splits_as by v is = subst (λ (x : View). Forks Kept by x (keeper v.counts) (token v.number v.count)) (sym is) (splits by v.counts v.number v.count)

pub spares_as : (by : ℕ) (v : View) → v ≡ keeper v.counts → Forks Kept by v (keeper v.counts) nobody
spares_as by v is = subst (λ (u : View). Forks Kept by u (keeper v.counts) nobody) (sym is) (spares by v.counts)

pub raises_as : (by : ℕ) (v : View) (bound : ℕ) → v ≡ keeper v.counts → Turns Kept by v (λ x. bound ∷ []) Raises
raises_as by v bound is = subst (λ (u : View). Turns Kept by u (λ x. bound ∷ []) Raises) (sym is) (raises by v.counts bound)

-- a cell begins with one pass, and no token
pub begins : (words : List ℕ) → Kept words (first ∷ [])
begins words = (
  0,
  [],
  record {
    each = λ by v e. one by v e;
    once = λ by other v w e f hv hw s. absurd (off (ap (λ (z : View). z.has) (only by v e) ∙ hv));
  },
)
  where
    only : (by : ℕ) (v : View) → At (first ∷ []) by v → first ≡ v
    only zero v e = some-injective first v e
    only (suc by) v e = absurd (some-ne-none v (sym e))

    one : (by : ℕ) (v : View) → At (first ∷ []) by v → KeepsRule 0 [] by v
    one zero v e = subst (KeepsRule 0 [] 0) (some-injective first v e) (record { keeps = λ _. (refl, refl); agrees = λ c. absurd (off c); given = λ c. absurd (off c) })
    one (suc by) v e = absurd (some-ne-none v (sym e))
