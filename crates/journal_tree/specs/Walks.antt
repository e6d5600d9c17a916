-- A walk from a directory up its parents, which decides for RENAME whether it lies below another.
use Rattle.std.specs.Prelude.{◌≢◌, ◌⊎◌, ℕ, zero, suc, ◌≡◌, ◌==◌, Bool, false, ◌||◌, Option, Some, None, Decides}
use Rattle.journal_tree.specs.declared.limits.TheConstants.{ROOT}
use Rattle.journal_tree.specs.Rule.{Stem, Stems, IsBelow, IsTree}

abbrev pub from_parent : (ℕ → Bool) → Option Stem → Bool
from_parent walk None = false
from_parent walk (Some s) = walk s.home.directory

-- n is met from `at` within so many steps up
unfoldable pub meets : Stems → ℕ → ℕ → ℕ → Bool
meets S n zero at = at == n
meets S n (suc steps) at = at == n || from_parent (meets S n steps) (S at)

-- As many steps as there are numbers decide whether e is n or lies below it
abbrev pub WalkDecides : Type 0
WalkDecides = (numbers : ℕ) (S : Stems) (n e : ℕ) (s : Stem) → IsTree numbers S → S n ≡ Some s → Decides (meets S n numbers e) (IsBelow S n e)

-- What is no directory, or hangs in directory e itself, has not e below it
abbrev pub NoWalkNeeded : Type 0
NoWalkNeeded = (numbers : ℕ) (S : Stems) (n e : ℕ) (s t : Stem) (places : ℕ) → IsTree numbers S → S n ≡ Some s → n ≢ ROOT → S e ≡ Some t → t.places ≡ Some places
    → (s.places ≡ None) ⊎ (s.home.directory ≡ e) → IsBelow S n e → ⊥
