-- What a crash may leave by the histories of a migration.
use Rattle.std.proofs.Common.{zero, suc, ◌≡◌, List, [], ◌∷◌, Bool, IsTrue, sym, subst, arith}
use Rattle.journal_world.specs.Addresses.{is_valid}
use Rattle.journal_world.specs.Maps.{Map, Transaction, SameMap, apply}
use Rattle.journal_world.specs.Histories.{Entry}
use Rattle.journal_world.specs.Histories.Entry.{opening, commit, stable}
use Rattle.journal_disk.specs.Disks.{Past}
use Rattle.journal_disk.specs.Images.{EveryImage}
use Rattle.journal_parts.specs.Cores.{Leaves}
use Rattle.journal_migrate.specs.Holding.{OpensWith, LeavesMaps}

-- the opened map, and nothing else
pub leaves_opening : (P : Map → Type 0) (m : Map) (trusted : Bool) (history : List Entry) → history ≡ opening m trusted ∷ [] → P m → LeavesMaps P history
leaves_opening P m trusted history is holds = subst (LeavesMaps P) (sym is) at_opening
  where
    at_opening : LeavesMaps P (opening m trusted ∷ [])
    at_opening zero low high = holds
    at_opening (suc n) low high = absurd (omega (arith, high))

-- that, or the map after the one commit
pub leaves_either : (P : Map → Type 0) (m : Map) (trusted : Bool) (t : Transaction) (history : List Entry) → history ≡ opening m trusted ∷ commit t ∷ []
    → P m → P (apply t m) → LeavesMaps P history
leaves_either P m trusted t history is before after = subst (LeavesMaps P) (sym is) at_commit
  where
    at_commit : LeavesMaps P (opening m trusted ∷ commit t ∷ [])
    at_commit zero low high = before
    at_commit (suc zero) low high = after
    at_commit (suc (suc n)) low high = absurd (omega (arith, high))

-- once that is marked, no other
pub leaves_marked : (P : Map → Type 0) (m : Map) (trusted : Bool) (t : Transaction) (history : List Entry) → history ≡ opening m trusted ∷ commit t ∷ stable 1 ∷ []
    → P (apply t m) → LeavesMaps P history
leaves_marked P m trusted t history is after = subst (LeavesMaps P) (sym is) at_mark
  where
    at_mark : LeavesMaps P (opening m trusted ∷ commit t ∷ stable 1 ∷ [])
    at_mark zero low high = absurd (omega (arith, low))
    at_mark (suc zero) low high = after
    at_mark (suc (suc n)) low high = absurd (omega (arith, high))

SameMap-sym : (m n : Map) → SameMap m n → SameMap n m
SameMap-sym m n same = record {
  layout = sym same.layout;
  values = λ a valid. sym (same.values a (subst (λ k. IsTrue (is_valid k a)) (sym same.layout) valid));
}

-- so does each image of the disk
pub images_open : (P : Map → Type 0) (history : List Entry) (past : Past) → ((m n : Map) → SameMap m n → P m → P n) → LeavesMaps P history
    → EveryImage past (Leaves history) → EveryImage past (OpensWith P)
images_open P history past respects leaves images image one =
    let left = images image one in
    record { map = left.map; opens = left.opens; holds = respects _ left.map (SameMap-sym left.map _ left.same) (leaves left.commits left.marked left.made) }
