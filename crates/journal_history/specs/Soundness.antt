-- The facts of every beginning of the history that anyone has seen, and the entries that may be
-- added to one.
use Rattle.std.specs.Prelude.{ℕ, ◌<◌, IsTrue, List, [], ◌∷◌, ◌++◌, length}
use mathlib.Core.List.{IsPrefix}
use Rattle.journal_world.specs.Maps.{Map}
use Rattle.journal_world.specs.Histories.{Entry, Each, Follows, IsTrueTo, is_trusted, at, latest}

-- Whatever the disk does, each entry may follow those before it. Where the disk was honest and
-- settled, the history is legal, and the rule holds of the map after each number of commits
pub record IsSound (rule : Map → Type 0) (history : List Entry) : Type 0 where
  pub follows : Each Follows history
  pub agrees : IsTrue (is_trusted history) → Each (IsTrueTo rule) history
  pub ruled : IsTrue (is_trusted history) → (n : ℕ) → rule (at history n)

-- a sound history stays sound with this entry at its end
pub record MayAdd (rule : Map → Type 0) (history : List Entry) (e : Entry) : Type 0 where
  pub follows : Follows history e
  pub agrees : IsTrue (is_trusted (history ++ e ∷ [])) → IsTrueTo rule history e
  pub ruled : IsTrue (is_trusted (history ++ e ∷ [])) → rule (latest (history ++ e ∷ []))

-- the second history begins with the first, and goes on
abbrev pub IsLonger : List Entry → List Entry → Type 0
IsLonger history longer = IsPrefix history longer × (length history < length longer)
