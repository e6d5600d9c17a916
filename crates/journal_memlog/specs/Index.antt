-- The index of a log: where the last update of each bucket is, and the one before each update.
use Rattle.std.specs.Prelude.{ℕ, ◌≡◌, ◌+◌, ◌-◌, ◌<◌, ◌≤◌, List, length, map, slice_index}
use Rattle.journal_block.specs.declared.update.Update.{Update}
use Rattle.journal_memlog.specs.declared.entry.Entry.{Entry}
use Rattle.journal_memlog.specs.declared.entry.TheConstants.{BUCKETS}
use Rattle.journal_memlog.specs.Logs.{LogState, IsMemLog}
use Rattle.journal_memlog.specs.Buckets.{bucket_of, update_at}

-- the updates of the entries, as contracts see them
abbrev pub updates_of : List Entry → List Update
updates_of entries = map (λ entry. entry.update) entries

abbrev pub earlier_of : List Entry → List ℕ
earlier_of entries = map (λ entry. entry.earlier) entries

abbrev pub state_of_fields : ℕ → ℕ → ℕ → ℕ → List Entry → ℕ → LogState
state_of_fields blocks start logged cut entries room =
    record { blocks = blocks; start = start; logged = logged; cut = cut; updates = updates_of entries; room = room }

-- The place is one more than the position of the bucket's last update among the first `count`, or
-- no more than `start` where it has none there
pub record LeadsTo (start : ℕ) (updates : List Update) (bucket count place : ℕ) : Type 0 where
  pub within : place ≤ start + count
  pub same : start < place → bucket_of (update_at updates (place - 1 - start)).block ≡ bucket
  pub last : (k : ℕ) → k < count → bucket_of (update_at updates k).block ≡ bucket → start + k < place

-- Each bucket leads to its last update, and each update to the one before it in its bucket
pub record IsIndexed (log : LogState) (earlier heads : List ℕ) : Type 0 where
  pub sound : IsMemLog log
  pub buckets : length heads ≡ BUCKETS
  pub chains : (bucket : ℕ) → bucket < BUCKETS
      → LeadsTo log.start log.updates bucket (length log.updates) (slice_index heads bucket)
  pub links : (k : ℕ) → k < length log.updates
      → LeadsTo log.start log.updates (bucket_of (update_at log.updates k).block) k (slice_index earlier k)
