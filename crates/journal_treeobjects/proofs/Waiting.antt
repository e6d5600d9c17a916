-- Writes that wait, in their order and the last first.
use Rattle.std.proofs.Common.{ℕ, zero, suc, ◌≡◌, ◌<◌, ◌≤◌, ◌+◌, cond, List, [], ◌∷◌, ◌++◌, length, take, get_or, Some, refl, sym, ap, subst, ◌∙◌, arith}
use Rattle.std.proofs.lemmas.List.{take_more, take_all}
use Rattle.journal_world.specs.Addresses.{is_same}
use Rattle.journal_world.specs.Maps.{Pair, SamePairs, value_among}
use Rattle.journal_treestore.specs.declared.place.Cut.{Cut}
use Rattle.journal_treestore.specs.Places.{addr_of, IsOnDisk}
use Rattle.journal_treecalls.specs.Disks.{Write}
use Rattle.journal_treeobjects.specs.declared.tree_transaction.KeptWrite.{KeptWrite}
use Rattle.journal_treeobjects.specs.Effects.{object_of, value_of, pairs_of, AreOnDisk}
use Rattle.journal_treeobjects.specs.States.{write_of, last_first, IsSized, AreSized}

-- one more, at the end, is the first of them
pub last_first-more : (ws : List KeptWrite) (w : KeptWrite) (before : List Write) → last_first (ws ++ w ∷ []) before ≡ write_of w ∷ last_first ws before
last_first-more [] w before = refl
last_first-more (x ∷ xs) w before = last_first-more xs w (write_of x ∷ before)

-- so it is of the first ones of a list
pub waiting-more : (ws : List KeptWrite) (i : ℕ) (w : KeptWrite) → i < length ws → w ≡ get_or ws i w → last_first (take (i + 1) ws) [] ≡ write_of w ∷ last_first (take i ws) []
waiting-more ws i w low is =
    ap (λ xs. last_first xs []) (take_more ws i w low)
    ∙ last_first-more (take i ws) (get_or ws i w) []
    ∙ ap (λ x. write_of x ∷ last_first (take i ws) []) (sym is)

on-disk-rest : (c : Cut) (ws : List KeptWrite) (before : List Write) → AreOnDisk c (last_first ws before) → AreOnDisk c before
on-disk-rest c [] before on = on
on-disk-rest c (x ∷ xs) before on = (on-disk-rest c xs (write_of x ∷ before) on).1

-- the disk has the object of each
pub on-disk-at : (c : Cut) (ws : List KeptWrite) (before : List Write) (i : ℕ) (w : KeptWrite) → AreOnDisk c (last_first ws before) → i < length ws → w ≡ get_or ws i w → IsOnDisk c (object_of (write_of w))
on-disk-at c [] before i w on low is = absurd (omega (arith, low))
on-disk-at c (x ∷ xs) before zero w on low is = subst (λ y. IsOnDisk c (object_of (write_of y))) (sym is) (on-disk-rest c xs (write_of x ∷ before) on).0
on-disk-at c (x ∷ xs) before (suc i) w on low is = on-disk-at c xs (write_of x ∷ before) i w on (omega (arith, low)) is

sized-rest : (ws : List KeptWrite) (before : List Write) → AreSized (last_first ws before) → AreSized before
sized-rest [] before sized = sized
sized-rest (x ∷ xs) before sized = (sized-rest xs (write_of x ∷ before) sized).1

-- and each has a value of its kind
pub sized-at : (ws : List KeptWrite) (before : List Write) (i : ℕ) (w : KeptWrite) → AreSized (last_first ws before) → i < length ws → w ≡ get_or ws i w → IsSized (write_of w)
sized-at [] before i w sized low is = absurd (omega (arith, low))
sized-at (x ∷ xs) before zero w sized low is = subst (λ y. IsSized (write_of y)) (sym is) (sized-rest xs (write_of x ∷ before) sized).0
sized-at (x ∷ xs) before (suc i) w sized low is = sized-at xs (write_of x ∷ before) i w sized (omega (arith, low)) is

-- ── what is overwritten ──

pub same-more : (new old qs : List Pair) (p : Pair) → SamePairs new (p ∷ old) → SamePairs old qs → SamePairs new (p ∷ qs)
same-more new old qs p first second a = first a ∙ ap (λ o. cond (is_same a p.0) (Some p.1) o) (second a)

-- the first of the writes have been overwritten
abbrev pub IsWrittenTo : Cut → List KeptWrite → ℕ → List Pair → Type 0
IsWrittenTo c ws i pairs = SamePairs pairs (pairs_of c (last_first (take i ws) []))

pub written-none : (c : Cut) (ws : List KeptWrite) (pairs : List Pair) → pairs ≡ [] → IsWrittenTo c ws 0 pairs
written-none c ws pairs none a = ap (λ ps. value_among ps a) none

pub written-next : (c : Cut) (ws : List KeptWrite) (i : ℕ) (w : KeptWrite) (old new : List Pair) → i < length ws → w ≡ get_or ws i w → IsWrittenTo c ws i old
    → SamePairs new ((addr_of c (object_of (write_of w)), value_of (write_of w)) ∷ old) → IsWrittenTo c ws (i + 1) new
written-next c ws i w old new low is before one =
    subst (λ vs. SamePairs new (pairs_of c vs)) (sym (waiting-more ws i w low is))
    (same-more new old (pairs_of c (last_first (take i ws) [])) (addr_of c (object_of (write_of w)), value_of (write_of w)) one before)

pub written-all : (c : Cut) (ws : List KeptWrite) (i : ℕ) (pairs : List Pair) → length ws ≤ i → IsWrittenTo c ws i pairs → SamePairs pairs (pairs_of c (last_first ws []))
written-all c ws i pairs end is = subst (λ vs. SamePairs pairs (pairs_of c (last_first vs []))) (take_all i ws end) is
