-- Sessions, receipts and notes, by the histories that they have seen.
use Rattle.std.specs.Prelude.{ℕ, ◌≡◌, ◌≢◌, ◌+◌, ◌≤◌, List, [], ◌∷◌, ◌++◌, length, take, Some, slice_get}
use mathlib.Core.List.{IsPrefix}
use Rattle.journal_world.specs.Addresses.{Shape}
use Rattle.journal_world.specs.Maps.{Pair, Transaction}
use Rattle.journal_world.specs.Histories.{Entry, commits_of, count, floor, opened}
use Rattle.journal_world.specs.Histories.Entry.{commit}

-- A session: its number, the history at its last commit, and the history that it has seen
pub record SessionState : Type 0 where
  pub number : ℕ
  pub mine : List Entry
  pub seen : List Entry

-- how many transactions the session has committed
abbrev pub made : SessionState → ℕ
made s = length (commits_of s.number s.mine)

-- the session's commits are all that the seen history has under its number
abbrev pub IsExact : SessionState → Type 0
IsExact s = commits_of s.number s.seen ≡ commits_of s.number s.mine

-- the session may have seen more, and nothing else has changed
pub record OnlyExtends (old new : SessionState) : Type 0 where
  pub number : new.number ≡ old.number
  pub mine : new.mine ≡ old.mine
  pub seen : IsPrefix old.seen new.seen

-- the session's next transaction
abbrev pub next_transaction : SessionState → List Pair → List Pair → Transaction
next_transaction s reads writes = record { session = s.number; number = made s; reads = reads; writes = writes }

-- The invariant of each session, on a disk of a layout, with its number of commits
pub record IsSession (layout : Shape) (commits : ℕ) (s : SessionState) : Type 0 where
  pub counted : commits ≡ made s
  pub own : IsPrefix s.mine s.seen
  pub begun : s.seen ≢ []
  pub on_disk : (opened s.seen).layout ≡ layout

-- A receipt: a history, the place of a commit in it, and how many commits there are up to it
pub record CommitPlace : Type 0 where
  pub front : List Entry
  pub place : ℕ
  pub count : ℕ

-- the entry at the place is a commit
abbrev pub IsCommitAt : List Entry → ℕ → Type 0
IsCommitAt history place = (t : Transaction) × (slice_get history place ≡ Some (commit t))

-- the entry at the receipt's place is a commit, and its count is the commits up to there
pub record IsReceipt (r : CommitPlace) : Type 0 where
  pub stands : IsCommitAt r.front r.place
  pub counted : r.count ≡ count (take (r.place + 1) r.front)

-- The session's transaction was committed: it was added to the whole history, which the session has
-- then seen, after all that it had seen; and it is one more of the session's own
pub record Commits (t : Transaction) (old new : SessionState) (before after : List Entry) : Type 0 where
  pub added : after ≡ before ++ commit t ∷ []
  pub session : new ≡ record { number = old.number; mine = after; seen = after }
  pub later : IsPrefix old.seen before
  pub one_more : commits_of old.number after ≡ commits_of old.number old.mine ++ t ∷ []

-- the receipt is for the transaction, which is last in the history
pub record IsReceiptFor (t : Transaction) (history : List Entry) (place : ℕ) (r : CommitPlace) : Type 0 where
  pub told : r ≡ record { front = history; place = place; count = count history }
  pub stands : slice_get history place ≡ Some (commit t)

-- A note: a history, and a number of commits that it marks as stable
pub record StableCount : Type 0 where
  pub front : List Entry
  pub count : ℕ

-- The writer's knowledge of the whole history on a disk of a layout: how many commits it has, its
-- greatest mark, and the mark that FLOOR has
pub record IsWhole (layout : Shape) (history : List Entry) (commits mark published : ℕ) : Type 0 where
  pub begun : history ≢ []
  pub on_disk : (opened history).layout ≡ layout
  pub counted : commits ≡ count history
  pub marked : mark ≡ floor history
  pub rising : published ≤ mark
