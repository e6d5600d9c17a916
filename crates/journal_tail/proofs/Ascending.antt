-- Writes whose blocks ascend: where a block can stand among them.
use Rattle.std.proofs.Common.{◌≡◌, ⊎_elim, ◌<◌, ◌≤◌, ◌+◌, ◌==◌, ◌||◌, ℕ, Bool, true, false, cond, List, [], ◌∷◌, ◌++◌, IsTrue, Some, refl, sym, ap, ◌∙◌, arith}
use Rattle.std.specs.List.{AllByRecursion}
use Rattle.std.proofs.lemmas.Bool.{eq-eqb, eqb-true, false≢true, and_parts, cases_eq}
use Rattle.std.proofs.lemmas.List.Folds.{list_all-append}
use Rattle.journal_world.specs.Addresses.{Shape}
use Rattle.journal_world.specs.Maps.{Pair, is_object, are_objects}
use Rattle.journal_world.specs.Orders.{HasAscendingBlocks}
use Rattle.journal_tail.specs.Writes.{writes_block, written_blocks}
use Rattle.journal_tail.specs.Staging.{IsAboveNone, first_block}

not_equal : (m b : ℕ) → b < m → (m == b) ≡ false
not_equal m b lt = by (m == b) refl
  where
    by : (same : Bool) → (m == b) ≡ same → (m == b) ≡ false
    by true is = let e : m ≡ b = eqb-true m b is in absurd (omega arith)
    by false is = is

or_both : (x y : Bool) → x ≡ false → y ≡ false → (x || y) ≡ false
or_both true y x_is y_is = absurd (false≢true (sym x_is))
or_both false y x_is y_is = y_is

-- a block below all of the writes is none of theirs
under_all : (b m : ℕ) (ws : List Pair) → b < m → AllByRecursion (λ q. m ≤ q.0.block) ws → writes_block ws b ≡ false
under_all b m [] lt all = refl
under_all b m (q ∷ ws) lt all =
    or_both (q.0.block == b) (writes_block ws b) (not_equal q.0.block b (omega (arith, all.0))) (under_all b m ws lt all.1)

-- a block above none of the writes is the first one's, or none of theirs
pub not_first : (b : ℕ) (ws : List Pair) → HasAscendingBlocks ws → IsAboveNone b ws → (first_block ws ≡ Some b → ⊥) → writes_block ws b ≡ false
not_first b [] ascending below other = refl
not_first b (q ∷ ws) ascending below other = ⊎_elim
    (λ (same : q.0.block ≡ b). absurd (other (ap Some same)))
    (λ (apart : q.0.block ≡ b → ⊥).
    let lt : b < q.0.block = omega (arith, below.0, apart) in
    or_both (q.0.block == b) (writes_block ws b) (not_equal q.0.block b lt) (under_all b q.0.block ws lt ascending.0))
    (cases_eq q.0.block b)

pub is_first : (b : ℕ) (ws : List Pair) → first_block ws ≡ Some b → writes_block ws b ≡ true
is_first b [] first = let impossible : ⊥ = cc in absurd impossible
is_first b (q ∷ ws) first =
    let same : q.0.block ≡ b = cc in
    ap (λ (t : Bool). t || writes_block ws b) (eq-eqb q.0.block b same)

-- of writes that are split at one of them
pub ascending_later : (left : List Pair) (p : Pair) (done : List Pair) → HasAscendingBlocks (left ++ p ∷ done)
    → IsAboveNone p.0.block done × HasAscendingBlocks done
ascending_later [] p done ascending = (ascending.0, ascending.1)
ascending_later (q ∷ left) p done ascending = ascending_later left p done ascending.1

pub objects_split : (n : Shape) (left : List Pair) (p : Pair) → IsTrue (are_objects n (left ++ p ∷ []))
    → IsTrue (are_objects n left) × IsTrue (is_object n p)
objects_split n left p objects =
    let parts = and_parts (are_objects n left) (are_objects n (p ∷ [])) (sym (list_all-append (is_object n) left (p ∷ [])) ∙ objects) in
    (parts.0, (and_parts (is_object n p) true parts.1).0)

-- the numbers of blocks, where one more write comes before
pub written_named : (p : Pair) (ws : List Pair) → writes_block ws p.0.block ≡ true → written_blocks (p ∷ ws) ≡ written_blocks ws
written_named p ws named = by (writes_block ws p.0.block) named
  where
    by : (b : Bool) → b ≡ true → cond b 0 1 + written_blocks ws ≡ written_blocks ws
    by true is = omega arith
    by false is = absurd (false≢true is)

pub written_fresh : (p : Pair) (ws : List Pair) → writes_block ws p.0.block ≡ false → written_blocks (p ∷ ws) ≡ written_blocks ws + 1
written_fresh p ws unnamed = by (writes_block ws p.0.block) unnamed
  where
    by : (b : Bool) → b ≡ false → cond b 0 1 + written_blocks ws ≡ written_blocks ws + 1
    by true is = absurd (false≢true (sym is))
    by false is = omega arith

pub fresh_named : (standing : Bool) (p : Pair) (ws : List Pair) (more : ℕ) → writes_block ws p.0.block ≡ true
    → cond (writes_block ws p.0.block || standing) 0 1 + more ≡ more
fresh_named standing p ws more named = by (writes_block ws p.0.block) named
  where
    by : (b : Bool) → b ≡ true → cond (b || standing) 0 1 + more ≡ more
    by true is = omega arith
    by false is = absurd (false≢true is)

pub fresh_unnamed : (standing : Bool) (p : Pair) (ws : List Pair) (more : ℕ) → writes_block ws p.0.block ≡ false
    → cond (writes_block ws p.0.block || standing) 0 1 + more ≡ more + cond standing 0 1
fresh_unnamed standing p ws more unnamed = by (writes_block ws p.0.block) standing unnamed
  where
    by : (b s : Bool) → b ≡ false → cond (b || s) 0 1 + more ≡ more + cond s 0 1
    by true s is = absurd (false≢true (sym is))
    by false true is = omega arith
    by false false is = omega arith
