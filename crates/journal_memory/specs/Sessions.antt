-- How many commits each session has, and which sessions are fenced.
use Rattle.std.specs.Prelude.{ℕ, Bool, true, ◌≡◌, ◌+◌, ◌<◌, ◌==◌, ◌&&◌, ◌||◌, nat_le, nat_lt, if◌then◌else◌, List, length, slice_index}
use Rattle.std.specs.List.{list_any}
use Rattle.journal_world.specs.Histories.{Entry, commits_of, is_fenced}
use Rattle.journal_memory.specs.declared.fenced_sessions.Run.{Run}

-- the number is one of the run's
abbrev pub is_in_run : Run → ℕ → Bool
is_in_run run s = nat_le run.first s && nat_lt s run.end

-- it is one of some run's
abbrev pub is_in_runs : List Run → ℕ → Bool
is_in_runs runs s = list_any (λ run. is_in_run run s) runs

-- The runs of the sessions that are fenced, and for how many more there is room
pub record FencedState : Type 0 where
  pub runs : List Run
  pub spare : ℕ

-- there is room for one more
abbrev pub HasSpareRun : FencedState → Type 0
HasSpareRun f = 0 < f.spare

-- the run from this number up to the session was taken out, if it has any
abbrev pub TakesBelow : ℕ → ℕ → List Run → List Run → Type 0
TakesBelow session first old new = (s : ℕ) → is_in_runs old s ≡ ((nat_le first s && nat_lt s session) || is_in_runs new s)

-- the run of all above the session up to this number was taken out, if it has any
abbrev pub TakesAbove : ℕ → ℕ → List Run → List Run → Type 0
TakesAbove session end old new = (s : ℕ) → is_in_runs old s ≡ ((nat_lt session s && nat_lt s end) || is_in_runs new s)

-- the session is fenced from then on
abbrev pub NotesFence : ℕ → List Run → List Run → Type 0
NotesFence session old new = (s : ℕ) → is_in_runs new s ≡ (if s == session then true else is_in_runs old s)

-- One more commit of the session
abbrev pub CountsOne : ℕ → List ℕ → List ℕ → Type 0
CountsOne session old new = (s : ℕ) → slice_index new s ≡ (if s == session then slice_index old s + 1 else slice_index old s)

-- the numbers of commits are those of the history
abbrev pub AreSessionCounts : List ℕ → List Entry → Type 0
AreSessionCounts counts history = (s : ℕ) → slice_index counts s ≡ length (commits_of s history)

-- the fences are
abbrev pub AreFences : List Run → List Entry → Type 0
AreFences runs history = (s : ℕ) → is_in_runs runs s ≡ is_fenced s history
