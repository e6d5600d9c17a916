-- The log in memory as contracts see it, and after its calls.
use Rattle.std.specs.Prelude.{ℕ, ◌≢◌, ◌+◌, ◌-◌, ◌<◌, ◌≤◌, ◌^◌, ◌==◌, List, [], ◌∷◌, ◌++◌, length, take, drop, map, not, if◌then◌else◌}
use Rattle.std.specs.List.{All, AllPairs, count_by}
use Rattle.journal_block.specs.declared.update.Update.{Update}
use Rattle.journal_block.specs.Updates.{updates_block}
use Rattle.journal_memlog.specs.declared.bounds.Bounds.{Bounds}

-- A log of a disk with this many blocks. Positions from `start` on each hold an update. Those
-- before `logged` are on the disk, those before `cut` in flight, and the others are the tail
pub record LogState : Type 0 where
  pub blocks : ℕ
  pub start : ℕ
  pub logged : ℕ
  pub cut : ℕ
  -- from `start` on
  pub updates : List Update
  -- how many more updates the log can hold without taking memory
  pub room : ℕ

-- the position after the last
abbrev pub next_position : LogState → ℕ
next_position log = log.start + length log.updates

-- the positions at which its parts begin, as callers are given them
abbrev pub bounds_of : LogState → Bounds
bounds_of log = record { start = log.start; logged = log.logged; cut = log.cut; next = next_position log }

-- the updates that the disk's log has
abbrev pub logged_of : LogState → List Update
logged_of log = take (log.logged - log.start) log.updates

-- the updates that were cut, and those that were not
abbrev pub head_of : LogState → List Update
head_of log = take (log.cut - log.start) log.updates

abbrev pub tail_of : LogState → List Update
tail_of log = drop (log.cut - log.start) log.updates

-- no two of the updates are of one block
abbrev pub HasDistinctBlocks : List Update → Type 0
HasDistinctBlocks updates = AllPairs (λ t u. t.block ≢ u.block) updates

-- each of the updates is of a block of a disk that has this many
abbrev pub AreOnDisk : ℕ → List Update → Type 0
AreOnDisk blocks updates = All (λ u. u.block < blocks) updates

-- The bounds are in their order
pub record HasBounds (log : LogState) : Type 0 where
  pub start_to_logged : log.start ≤ log.logged
  pub logged_to_cut : log.logged ≤ log.cut
  pub cut_to_next : log.cut ≤ next_position log
  pub below : next_position log < 2 ^ 62

-- The invariant of every log
pub record IsMemLog (log : LogState) : Type 0 where
  pub bounds : HasBounds log
  pub on_disk : AreOnDisk log.blocks log.updates
  pub distinct : HasDistinctBlocks (tail_of log)

-- Absorbing

-- u in the place of t, where they are of one block
abbrev pub replaced : Update → Update → Update
replaced u t = if t.block == u.block then u else t

-- the tail once the update is in it: in the place of that of its block, or where there is none at
-- the end
abbrev pub with_update : List Update → Update → List Update
with_update tail u = if updates_block tail u.block then map (replaced u) tail else tail ++ u ∷ []

-- the tail once all of the updates are in it, one after the other
abbrev pub absorbed : List Update → List Update → List Update
absorbed tail [] = tail
absorbed tail (u ∷ later) = absorbed (with_update tail u) later

-- how many of the updates are of blocks that are not in the tail
abbrev pub fresh_count : List Update → List Update → ℕ
fresh_count tail updates = count_by (λ u. not (updates_block tail u.block)) updates

-- The log after each call

-- one that begins at a position, and is empty
abbrev pub empty_log : ℕ → ℕ → ℕ → LogState
empty_log blocks start room =
    record { blocks = blocks; start = start; logged = start; cut = start; updates = []; room = room }

-- with one more position, which is on the disk
abbrev pub with_logged : LogState → Update → ℕ → LogState
with_logged log u room =
    record log { logged = next_position log + 1; cut = next_position log + 1; updates = log.updates ++ u ∷ []; room = room }

-- with this tail, whose new positions take up room
abbrev pub with_tail : LogState → List Update → LogState
with_tail log tail = record log { updates = head_of log ++ tail; room = log.room + length (tail_of log) - length tail }

-- with all of the updates in its tail
abbrev pub appended : LogState → List Update → LogState
appended log updates = with_tail log (absorbed (tail_of log) updates)

-- without the positions before this one, whose room is free again
abbrev pub trimmed : LogState → ℕ → LogState
trimmed log upto =
    record log { start = upto; updates = drop (upto - log.start) log.updates; room = log.room + (upto - log.start) }

-- The log can take the updates without memory: they are of blocks of the disk, there is room, and
-- positions stay below 2^62
pub record CanTake (log : LogState) (updates : List Update) : Type 0 where
  pub on_disk : AreOnDisk log.blocks updates
  pub room : length (absorbed (tail_of log) updates) ≤ length (tail_of log) + log.room
  pub below : next_position (appended log updates) < 2 ^ 62
