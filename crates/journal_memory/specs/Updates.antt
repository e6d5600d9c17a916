-- The values that updates have of the objects that commits wrote.
use Rattle.std.specs.Prelude.{ℕ, ◌≡◌, ◌≤◌, IsTrue, List, Option, Some, None}
use Rattle.journal_world.specs.declared.address.Addr.{Addr}
use Rattle.journal_world.specs.Addresses.{Value, Shape, is_valid}
use Rattle.journal_world.specs.Maps.{Map, value_at}
use Rattle.journal_world.specs.Histories.{Entry, count, at, latest}
use Rattle.journal_block.specs.declared.update.Update.{Update}
use Rattle.journal_tail.specs.ObjectTails.{known_object}

-- no commit after the first c changed the value of the address
abbrev pub IsSince : List Entry → ℕ → Addr → Type 0
IsSince history c a = (n : ℕ) → c ≤ n → n ≤ count history → value_at (at history n) a ≡ value_at (latest history) a

-- the value is that of the address after all commits; or there is none, and no commit after the
-- first c changed the address's
abbrev pub IsLastSince : List Entry → ℕ → Addr → Option Value → Type 0
IsLastSince history c a (Some v) = v ≡ value_at (latest history) a
IsLastSince history c a None = IsSince history c a

-- On a disk of a layout: each value that the updates have is the last one, and no other changed
-- after the first c commits
pub record HaveAllSince (layout : Shape) (history : List Entry) (c : ℕ) (updates : List Update) : Type 0 where
  pub last : (a : Addr) → IsTrue (is_valid layout a) → IsLastSince history c a (known_object layout updates a)

-- there is no value, or it is this one
abbrev pub IsOrNone : Value → Option Value → Type 0
IsOrNone v (Some w) = w ≡ v
IsOrNone v None = Unit {0}

-- On a disk of a layout, what the updates have of an address is what the map gives it
pub record AreObjectsOf (layout : Shape) (m : Map) (updates : List Update) : Type 0 where
  pub values : (a : Addr) → IsTrue (is_valid layout a) → IsOrNone (value_at m a) (known_object layout updates a)
