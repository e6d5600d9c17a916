-- Which fronts of a history have only marked commits.
use Rattle.std.specs.Prelude.{ℕ, ◌≤◌, ◌+◌, ◌==◌, ◌↔◌, if◌then◌else◌, List, length, take}
use Rattle.journal_world.specs.Histories.{Entry, count, floor}
use Rattle.journal_memory.specs.declared.marked_lengths.MarkedLengths.{MarkedLengths}

-- Of the fronts of the history exactly those of at most `entries` entries have at most n commits
pub record Covers (history : List Entry) (n entries : ℕ) : Type 0 where
  pub within : entries ≤ length history
  pub fronts : (k : ℕ) → k ≤ length history → (k ≤ entries) ↔ (count (take k history) ≤ n)

-- One entry more that is no commit: a front of all entries is one longer
abbrev pub with_non_commit : ℕ → ℕ → ℕ
with_non_commit len entries = if entries == len then len + 1 else entries

-- The lengths of two fronts beside the history: the longest whose commits are all marked, and the
-- longest of the commits that there were at the last cut
pub record KeepsMarkedLengths (lengths : MarkedLengths) (history : List Entry) (commits : ℕ) : Type 0 where
  pub marked : Covers history (floor history) lengths.marked
  pub cut : Covers history commits lengths.cut
  pub rises : floor history ≤ commits
  pub made : commits ≤ count history
