-- Blocks in lists: which are among them, that no two are one, and what they hold.
use Rattle.std.proofs.Common.{ℕ, zero, suc, ◌≡◌, ◌≢◌, ◌<◌, ◌+◌, ◌⊎◌, inl, inr, List, [], ◌∷◌, ◌++◌, length, refl, sym, ap, subst, ◌∙◌, arith, append_assoc}
use Rattle.std.specs.Prelude.{AllPairs, slice_index, slice_index_or}
use Rattle.std.specs.List.{AllByRecursion}
use Rattle.std.specs.List.Sorted.{IsStrictlyIncreasing}
use Rattle.std.proofs.lemmas.Bool.{cases_eq}
use Rattle.std.proofs.lemmas.List.{append-nil}
use Rattle.journal_world.specs.Maps.{Map}
use Rattle.journal_inode.specs.Places.{object}
use Rattle.journal_inode.specs.Places.Object.{block}
use Rattle.journal_inode.specs.Sound.{IsAmong, held}

-- the block is one of these
abbrev pub Among : List ℕ → ℕ → Type 0
Among [] b = ⊥
Among (x ∷ xs) b = (x ≡ b) ⊎ Among xs b

-- no two of these are one
abbrev pub Distinct : List ℕ → Type 0
Distinct [] = Unit {0}
Distinct (x ∷ xs) = (Among xs x → ⊥) × Distinct xs

pub among_is : (xs : List ℕ) (b : ℕ) → Among xs b → IsAmong xs b
among_is [] b has = absurd has
among_is (x ∷ []) b (inl is) = is
among_is (x ∷ []) b (inr none) = absurd none
among_is (x ∷ y ∷ ys) b (inl is) = inl is
among_is (x ∷ y ∷ ys) b (inr has) = inr (among_is (y ∷ ys) b has)

pub is_among : (xs : List ℕ) (b : ℕ) → IsAmong xs b → Among xs b
is_among [] b has = absurd has
is_among (x ∷ []) b is = inl is
is_among (x ∷ y ∷ ys) b (inl is) = inl is
is_among (x ∷ y ∷ ys) b (inr has) = inr (is_among (y ∷ ys) b has)

pub among_left : (xs ys : List ℕ) (b : ℕ) → Among xs b → Among (xs ++ ys) b
among_left [] ys b has = absurd has
among_left (x ∷ xs) ys b (inl is) = inl is
among_left (x ∷ xs) ys b (inr has) = inr (among_left xs ys b has)

pub among_right : (xs ys : List ℕ) (b : ℕ) → Among ys b → Among (xs ++ ys) b
among_right [] ys b has = has
among_right (x ∷ xs) ys b has = inr (among_right xs ys b has)

pub among_either : (xs ys : List ℕ) (b : ℕ) → Among (xs ++ ys) b → Among xs b ⊎ Among ys b
among_either [] ys b has = inr has
among_either (x ∷ xs) ys b (inl is) = inl (inl is)
among_either (x ∷ xs) ys b (inr has) = later (among_either xs ys b has)
  where
    later : Among xs b ⊎ Among ys b → ((x ≡ b) ⊎ Among xs b) ⊎ Among ys b
    later (inl first) = inl (inr first)
    later (inr second) = inr second

pub cases_Among : (xs : List ℕ) (b : ℕ) → Among xs b ⊎ (Among xs b → ⊥)
cases_Among [] b = inr (λ h. h)
cases_Among (x ∷ xs) b = by_both (cases_eq x b) (cases_Among xs b)
  where
    by_both : (x ≡ b) ⊎ (x ≡ b → ⊥) → Among xs b ⊎ (Among xs b → ⊥) → ((x ≡ b) ⊎ Among xs b) ⊎ ((x ≡ b) ⊎ Among xs b → ⊥)
    by_both (inl is) rest = inl (inl is)
    by_both (inr ne) (inl has) = inl (inr has)
    by_both (inr ne) (inr lacks) = inr (λ either. by_either either)
      where
        by_either : (x ≡ b) ⊎ Among xs b → ⊥
        by_either (inl is) = ne is
        by_either (inr has) = lacks has

-- what holds of each holds of one of them, and the other way round
pub all_among : (P : ℕ → Type 0) (xs : List ℕ) (b : ℕ) → AllByRecursion P xs → Among xs b → P b
all_among P [] b all has = absurd has
all_among P (x ∷ xs) b all (inl is) = subst P is all.0
all_among P (x ∷ xs) b all (inr has) = all_among P xs b all.1 has

pub all_from : (P : ℕ → Type 0) (xs : List ℕ) → ((b : ℕ) → Among xs b → P b) → AllByRecursion P xs
all_from P [] each = tt
all_from P (x ∷ xs) each = (each x (inl refl), all_from P xs (λ b has. each b (inr has)))

-- where a block stands
place : (xs : List ℕ) (b : ℕ) → Among xs b → (k : ℕ) × (k < length xs) × ((d : ℕ) → slice_index_or xs k d ≡ b)
place [] b has = absurd has
place (x ∷ xs) b (inl is) = (0, omega arith, λ d. is)
place (x ∷ xs) b (inr has) =
    let rest = place xs b has in
    let low : rest.0 < length xs = rest.1 in
    (suc rest.0, omega (arith, low), rest.2)

among_at : (xs : List ℕ) (k d : ℕ) → k < length xs → Among xs (slice_index_or xs k d)
among_at [] k d low = absurd (omega (arith, low))
among_at (x ∷ xs) zero d low = inl refl
among_at (x ∷ xs) (suc k) d low = inr (among_at xs k d (omega (arith, low)))

pub distinct_pairs : (xs : List ℕ) → AllPairs ◌≢◌ xs → Distinct xs
distinct_pairs [] pairs = tt
distinct_pairs (x ∷ xs) pairs = (
  (λ has.
      let at = place xs x has in
      let low : at.0 < length xs = at.1 in
      pairs 0 (suc at.0) 0 (omega arith) (omega (arith, low)) (sym (at.2 0))),
  distinct_pairs xs (λ i j d low high. pairs (suc i) (suc j) d (omega (arith, low)) (omega (arith, high))),
)

pub pairs_distinct : (xs : List ℕ) → Distinct xs → (i j d : ℕ) → i < j → j < length xs → slice_index_or xs i d ≡ slice_index_or xs j d → ⊥
pairs_distinct [] each i j d low high same = absurd (omega (arith, high))
pairs_distinct (x ∷ xs) each zero zero d low high same = absurd (omega (arith, low))
pairs_distinct (x ∷ xs) each zero (suc j) d low high same = each.0 (subst (Among xs) (sym same) (among_at xs j d (omega (arith, high))))
pairs_distinct (x ∷ xs) each (suc i) zero d low high same = absurd (omega (arith, low))
pairs_distinct (x ∷ xs) each (suc i) (suc j) d low high same = pairs_distinct xs each.1 i j d (omega (arith, low)) (omega (arith, high)) same

-- numbers that rise are distinct
up_tail : (x : ℕ) (xs : List ℕ) → IsStrictlyIncreasing (x ∷ xs) → IsStrictlyIncreasing xs
up_tail x xs up k low = subst (λ j. slice_index xs k < slice_index (x ∷ xs) j) (let e : suc k + 1 ≡ suc (k + 1) = omega arith in e) (up (suc k) (omega (arith, low)))

rising_above : (xs : List ℕ) (x : ℕ) → IsStrictlyIncreasing (x ∷ xs) → (b : ℕ) → Among xs b → x < b
rising_above [] x up b has = absurd has
rising_above (y ∷ ys) x up b (inl is) = let first : x < y = up 0 (omega arith) in omega (arith, first, is)
rising_above (y ∷ ys) x up b (inr has) =
    let first : x < y = up 0 (omega arith) in
    let later : y < b = rising_above ys y (up_tail x (y ∷ ys) up) b has in
    omega (arith, first, later)

pub rising_distinct : (xs : List ℕ) → IsStrictlyIncreasing xs → Distinct xs
rising_distinct [] up = tt
rising_distinct (x ∷ xs) up = (
  (λ has. let above : x < x = rising_above xs x up x has in omega (arith, above)),
  rising_distinct xs (up_tail x xs up),
)

-- two lists of distinct blocks, none of which is in both
pub distinct_append : (xs ys : List ℕ) → Distinct xs → Distinct ys → ((b : ℕ) → Among xs b → Among ys b → ⊥) → Distinct (xs ++ ys)
distinct_append [] ys first second apart = second
distinct_append (x ∷ xs) ys first second apart = (
  (λ has. by_either (among_either xs ys x has)),
  distinct_append xs ys first.1 second (λ b l r. apart b (inr l) r),
)
  where
    by_either : Among xs x ⊎ Among ys x → ⊥
    by_either (inl l) = first.0 l
    by_either (inr r) = apart x (inl refl) r

pub distinct_left : (xs ys : List ℕ) → Distinct (xs ++ ys) → Distinct xs
distinct_left [] ys each = tt
distinct_left (x ∷ xs) ys each = ((λ has. each.0 (among_left xs ys x has)), distinct_left xs ys each.1)

pub distinct_right : (xs ys : List ℕ) → Distinct (xs ++ ys) → Distinct ys
distinct_right [] ys each = each
distinct_right (x ∷ xs) ys each = distinct_right xs ys each.1

pub distinct_apart : (xs ys : List ℕ) → Distinct (xs ++ ys) → (b : ℕ) → Among xs b → Among ys b → ⊥
distinct_apart [] ys each b l r = absurd l
distinct_apart (x ∷ xs) ys each b (inl is) r = each.0 (among_right xs ys x (subst (Among ys) (sym is) r))
distinct_apart (x ∷ xs) ys each b (inr l) r = distinct_apart xs ys each.1 b l r

-- what two lists of blocks hold
pub held_cons : (m : Map) (x : ℕ) (xs : List ℕ) → held m (x ∷ xs) ≡ object m (block x) ++ held m xs
held_cons m x [] = sym (append-nil (object m (block x)))
held_cons m x (y ∷ ys) = refl

pub held_append : (m : Map) (xs ys : List ℕ) → held m (xs ++ ys) ≡ held m xs ++ held m ys
held_append m [] ys = refl
held_append m (x ∷ xs) ys =
    held_cons m x (xs ++ ys)
    ∙ ap (λ v. object m (block x) ++ v) (held_append m xs ys)
    ∙ sym (append_assoc (object m (block x)) (held m xs) (held m ys))
    ∙ ap (λ v. v ++ held m ys) (sym (held_cons m x xs))
