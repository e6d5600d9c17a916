-- The buckets of a log's updates, and what a look into one gives.
use Rattle.std.specs.Prelude.{ℕ, ◌≡◌, ◌≢◌, ◌+◌, ◌-◌, ◌<◌, ◌≤◌, ◌%◌, List, [], length, drop, slice_index_or}
use Rattle.journal_block.specs.declared.update.Update.{Update}
use Rattle.journal_memlog.specs.declared.entry.TheConstants.{BUCKETS}
use Rattle.journal_memlog.specs.Logs.{LogState, next_position}

-- the bucket of a block
abbrev pub bucket_of : ℕ → ℕ
bucket_of block = block % BUCKETS

-- the update at a place, and what stands for one where there is none
abbrev pub no_update : Update
no_update = record { block = 0; bytes = [] }

abbrev pub update_at : List Update → ℕ → Update
update_at updates k = slice_index_or updates k no_update

-- the updates from a position on
abbrev pub updates_from : LogState → ℕ → List Update
updates_from log floor = drop (floor - log.start) log.updates

-- The position is that of the last update of the block, and not before the floor
pub record IsLastOf (log : LogState) (b floor position : ℕ) : Type 0 where
  pub from : floor ≤ position
  pub within : position < next_position log
  pub block : (update_at log.updates (position - log.start)).block ≡ b
  pub last : (k : ℕ) → k < length log.updates → position < log.start + k → (update_at log.updates k).block ≢ b
