-- One pass of a cell knows the counts of all numbers, and each token that of its own. The numbers
-- are those of sessions, whose commits are counted, or those of slots, which commits touch.
use Rattle.std.specs.Prelude.{◌≡◌, ℕ, ◌+◌, ◌-◌, ◌<◌, Bool, true, false, List, [], ◌++◌, length, replicate, slice_index, slice_set}
use mathlib.Core.Option.{some}
use lib.ListN.{get_elem?}
use Rattle.atomic_table.specs.Seated.{TableId}
use Rattle.journal_history.specs.declared.count_cell.View.{View}

abbrev pub view : Bool → List ℕ → Bool → ℕ → ℕ → View
view keeps counts has number count = record { keeps = keeps; counts = counts; has = has; number = number; count = count }

-- the pass that knows the counts of all numbers that were given
abbrev pub keeper : List ℕ → View
keeper counts = view true counts false 0 0

-- the same, with a token that was joined to it
abbrev pub holder : List ℕ → ℕ → ℕ → View
holder counts number count = view true counts true number count

-- a token: a number, and its count
abbrev pub token : ℕ → ℕ → View
token number count = view false [] true number count

-- a pass that knows nothing
abbrev pub nobody : View
nobody = view false [] false 0 0

-- the pass that a cell begins with
abbrev pub first : View
first = keeper []

-- The rule, of one view
pub record KeepsRule (seat : ℕ) (counts : List ℕ) (by : ℕ) (v : View) : Type 0 where
  pub keeps : v.keeps ≡ true → (by ≡ seat) × (v.counts ≡ counts)
  pub agrees : v.has ≡ true → v.count ≡ slice_index counts v.number
  pub given : v.has ≡ true → v.number < length counts

-- One pass at most knows all counts, each token agrees with them, and no number has two tokens
pub record IsKept (seat : ℕ) (counts : List ℕ) (views : List View) : Type 0 where
  pub each : (by : ℕ) (v : View) → get_elem? views by ≡ some v → KeepsRule seat counts by v
  pub once : (by other : ℕ) (v w : View) → get_elem? views by ≡ some v → get_elem? views other ≡ some w → v.has ≡ true → w.has ≡ true → v.number ≡ w.number → by ≡ other

-- the cell's rule: some numbers agree with all passes as `IsKept` says
abbrev pub Kept : List ℕ → List View → Type 0
Kept words views = (seat : ℕ) × (counts : List ℕ) × IsKept seat counts views

-- a look shows that the token agrees
abbrev pub Verifies : View → List ℕ → List ℕ → View → Type 0
Verifies v before after w = (w ≡ v) × (v.keeps ≡ true → v.has ≡ true → (v.count ≡ slice_index v.counts v.number) × (v.number < length v.counts))

-- the count of the joined token's number rises
abbrev pub Touches : View → List ℕ → List ℕ → View → Type 0
Touches v before after w = w ≡ holder (slice_set v.counts v.number (v.count + 1)) v.number (v.count + 1)

-- the numbers below a bound are given, some of them without a token
abbrev pub raised : List ℕ → ℕ → List ℕ
raised counts bound = counts ++ replicate (bound - length counts) 0

-- all numbers below the one that is written were given
abbrev pub Raises : View → List ℕ → List ℕ → View → Type 0
Raises v before after w = w ≡ keeper (raised v.counts (slice_index after 0))

-- The state of a session's token: its number, and how many commits the session has
pub record TokenState : Type 0 where
  pub number : ℕ
  pub count : ℕ

-- A token of this cell: a pass that was split off, whose view is what the token says
pub record IsToken (cell : TableId) (pass_of : TableId) (fresh : Type 0) (v : View) (t : TokenState) : Type 0 where
  pub cell_is : pass_of ≡ cell
  pub apart : fresh
  pub view_is : v ≡ token t.number t.count

-- The pass of this cell that knows all numbers
pub record IsKeeper (cell own pass_of : TableId) (v : View) : Type 0 where
  pub cell_is : own ≡ cell
  pub pass_is : pass_of ≡ cell
  pub view_is : v ≡ keeper v.counts

-- the token agrees with the numbers
abbrev pub HasCount : List ℕ → ℕ → ℕ → Type 0
HasCount counts number count = (number < length counts) × (count ≡ slice_index counts number)
