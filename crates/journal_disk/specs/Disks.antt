-- A disk: its blocks at first, the events since, and the content of each block now.
use Rattle.std.specs.Prelude.{ℕ, ◌≡◌, ◌⊎◌, ◌<◌, ◌≤◌, ◌-◌, ◌^◌, ◌==◌, Bool, List, [], ◌∷◌, slice_index_or, if◌then◌else◌}
use Rattle.journal_block.specs.Block.{Bytes}

-- an event of a disk: a write, or a barrier that succeeded
pub data DiskEvent : Type 0 where
  write : (block : ℕ) (bytes : Bytes) → DiskEvent
  barrier : DiskEvent

-- A disk's past: how many blocks it has, what they held at first as they read, what the device had
-- of them, and what happened since, the newest first. The device has something else where writes
-- were lost before, by a barrier that failed: reads still give them, and no barrier makes them
-- stable
pub record Past : Type 0 where
  pub size : ℕ
  pub first : List Bytes
  pub device : List Bytes
  pub events : List DiskEvent

-- The state of a disk that contracts see. If it is not honest, its past says nothing but the size
pub record DiskState : Type 0 where
  pub past : Past
  pub honest : Bool
  pub failures : ℕ

abbrev pub block_at : List Bytes → ℕ → Bytes
block_at blocks b = slice_index_or blocks b []

-- the newest of some writes, the first of the list, or where there is none the block that they
-- overwrite
abbrev pub newest : List Bytes → Bytes → Bytes
newest [] block = block
newest (bytes ∷ older) block = bytes

-- the writes of block b since the last barrier, the newest first
abbrev pub pending_in : List DiskEvent → ℕ → List Bytes
pending_in [] b = []
pending_in (write c bytes ∷ older) b = if b == c then bytes ∷ pending_in older b else pending_in older b
pending_in (barrier ∷ older) b = []

-- the content of block b at the last barrier, or without one its first content, which is given
abbrev pub stable_in : Bytes → List DiskEvent → ℕ → Bytes
stable_in block [] b = block
stable_in block (write c bytes ∷ older) b = stable_in block older b
stable_in block (barrier ∷ older) b = newest (pending_in older b) (stable_in block older b)

-- the content that a read of block b gives: the last of its pending writes, else its stable content
abbrev pub read_in : Bytes → List DiskEvent → ℕ → Bytes
read_in block events b = newest (pending_in events b) (stable_in block events b)

-- the same of a disk: the pending writes of its block, the stable block, and what a read gives
abbrev pub pending_of : Past → ℕ → List Bytes
pending_of p b = pending_in p.events b

abbrev pub stable_of : Past → ℕ → Bytes
stable_of p b = stable_in (block_at p.device b) p.events b

-- the content that a read of the block gave at the last barrier
abbrev pub synced_of : Past → ℕ → Bytes
synced_of p b = stable_in (block_at p.first b) p.events b

-- the content that a read of the block gives: the last pending write, else the stable block
abbrev pub read_of : Past → ℕ → Bytes
read_of p b = read_in (block_at p.first b) p.events b

-- no write is pending, and none is lost
abbrev pub IsSettled : Past → Type 0
IsSettled p = (b : ℕ) → b < p.size → (pending_of p b ≡ []) × (stable_of p b ≡ read_of p b)

-- the device has the content that reads give of the block, or a barrier will give it
abbrev pub IsKeptAt : Past → ℕ → Type 0
IsKeptAt p b = pending_of p b ≡ [] → stable_of p b ≡ read_of p b

-- no write is lost
abbrev pub LostNone : Past → Type 0
LostNone p = (b : ℕ) → b < p.size → IsKeptAt p b

-- the past of a disk that begins with these blocks
abbrev pub past_from : ℕ → List Bytes → Past
past_from size blocks = record { size = size; first = blocks; device = blocks; events = [] }

-- the past once this happened too
abbrev pub past_after : DiskEvent → Past → Past
past_after e p = record p { events = e ∷ p.events }

-- this happened, or nothing did
abbrev pub MayHaveHappened : DiskEvent → Past → Past → Type 0
MayHaveHappened e old new = (new ≡ old) ⊎ (new ≡ past_after e old)

-- The facts that each call keeps, failed or not, whether the disk is honest or not
pub record Keeps (old new : DiskState) : Type 0 where
  pub size : new.past.size ≡ old.past.size
  pub honest : new.honest ≡ old.honest
  pub failures : old.failures ≤ new.failures

-- the number of failures rose, or is at its greatest
abbrev pub HasFailed : DiskState → DiskState → Type 0
HasFailed old new = (old.failures < new.failures) ⊎ (new.failures ≡ 2 ^ 64 - 1)
