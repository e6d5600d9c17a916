-- An attempt at a call, and the call in the history.
use Rattle.std.specs.Prelude.{ℕ, ◌≡◌, ◌≤◌, ◌<◌, ◌+◌, IsTrue, List, [], ◌∷◌, ◌++◌, length, take, Some, slice_get}
use mathlib.Core.List.{IsPrefix}
use Rattle.journal_world.specs.Addresses.{Shape}
use Rattle.journal_world.specs.Maps.{Map, Pair, Transaction, Agrees, apply, overwritten}
use Rattle.journal_world.specs.Histories.{commits_of, count, is_trusted, at, latest}
use Rattle.journal_world.specs.Histories.Entry.{commit}
use Rattle.journal_history.specs.Tokens.{SessionState, IsExact, CommitPlace}
use Rattle.journal_tail.specs.declared.limits.TheConstants.{MAX_UPDATES}
use Rattle.journal_tail.specs.Writes.{written_blocks}

-- Wherever a map of the rule, on a disk of this layout, gives what was read, it is sound, and the
-- writes lead to another map of the rule, as the case says. More blocks are written than a
-- transaction may write only where the call may be so large
pub record DoesCase (rule : Map → Type 0) (layout : Shape) (sound : Map → Type 0) (case : Map → Map → Type 0) (large : Type 0) (reads writes : List Pair) : Type 0 where
  pub keeps : (m : Map) → m.layout ≡ layout → rule m → Agrees m reads → rule (overwritten m writes)
  pub call_is : (m : Map) → m.layout ≡ layout → rule m → Agrees m reads → case m (overwritten m writes)
  pub rules : (m : Map) → m.layout ≡ layout → rule m → sound m
  pub few : MAX_UPDATES < written_blocks writes → large

-- The session has one more commit, which is at this place in the history that it has then seen
pub record IsCommitAt (sound : Map → Type 0) (case : Map → Map → Type 0) (old new : SessionState) (place : ℕ) : Type 0 where
  pub made : Transaction
  pub stands : slice_get new.seen place ≡ Some (commit made)
  -- after all that the session had seen
  pub later : length old.seen ≤ place
  pub extends : IsPrefix old.seen new.seen
  -- and as one more of the session's own
  pub number : new.number ≡ old.number
  pub one_more : commits_of new.number new.mine ≡ commits_of old.number old.mine ++ made ∷ []
  -- where the disk was honest and settled, the case holds from the map before it to the map after
  -- it, and the map is sound after each number of commits
  pub call_is : IsTrue (is_trusted new.seen) → case (latest (take place new.seen)) (apply made (latest (take place new.seen)))
  pub ruled : IsTrue (is_trusted new.seen) → (n : ℕ) → sound (at new.seen n)

-- The receipt is that of such a commit, and the session has no other commits
pub record IsCommitOf (sound : Map → Type 0) (case : Map → Map → Type 0) (old new : SessionState) (receipt : CommitPlace) : Type 0 where
  pub made : IsCommitAt sound case old new receipt.place
  pub exact : IsExact new
  pub front : receipt.front ≡ new.seen
  pub counted : receipt.count ≡ count (take (receipt.place + 1) new.seen)
