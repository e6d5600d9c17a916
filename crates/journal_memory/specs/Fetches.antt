-- Blocks that are fetched from the disk's part, and what holds of them for good.
use Rattle.std.specs.Prelude.{ℕ, ◌≡◌, ◌≢◌, ◌≤◌, IsTrue, List, [], All}
use Rattle.journal_world.specs.declared.address.Addr.{Addr}
use Rattle.journal_world.specs.Addresses.{is_valid, Shape}
use Rattle.journal_world.specs.Maps.{value_at}
use Rattle.journal_world.specs.Histories.{Entry, is_trusted, count, at}
use Rattle.journal_block.specs.declared.update.Update.{Update}
use Rattle.journal_tail.specs.Maps.{object_or_zeros}

-- Blocks as the first commits left them, and the history that has these
pub record FetchedState : Type 0 where
  pub front : List Entry
  pub commits : ℕ
  pub updates : List Update

-- on a disk of a layout, the update has its block as the history's first commits left it
abbrev pub IsBlockAfter : Shape → List Entry → ℕ → Update → Type 0
IsBlockAfter n front commits u = (a : Addr) → IsTrue (is_valid n a) → a.block ≡ u.block → object_or_zeros n u.bytes a ≡ value_at (at front commits) a

-- The lasting facts of them, on a disk of a layout
pub record IsFetched (layout : Shape) (f : FetchedState) : Type 0 where
  pub begun : f.front ≢ []
  pub made : f.commits ≤ count f.front
  pub objects : IsTrue (is_trusted f.front) → All (IsBlockAfter layout f.front f.commits) f.updates
