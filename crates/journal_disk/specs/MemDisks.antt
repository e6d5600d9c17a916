-- A disk in memory: its pending writes, and the image that a choice names.
use Rattle.std.specs.Prelude.{ℕ, ◌-◌, ◌+◌, ◌^◌, min, true, List, length, map, filter, drop, nat_lt, slice_index_or}
use Rattle.std.specs.List.{range_with_len}
use Rattle.journal_block.specs.Block.{Bytes}
use Rattle.journal_disk.specs.Disks.{DiskEvent, Past, DiskState, block_at, newest, pending_in, stable_in, pending_of, past_from, past_after}

-- The state of a disk in memory that contracts see
pub record MemState : Type 0 where
  pub past : Past
  pub failures : ℕ
  -- which device call from now on is to fail, or 0
  pub fails_in : ℕ

-- its state as any disk's: it is honest
abbrev pub state_of : MemState → DiskState
state_of m = record { past = m.past; honest = true; failures = m.failures }

-- a disk that begins with these blocks: nothing is pending, and no call failed or is to fail
abbrev pub disk_from : ℕ → List Bytes → MemState
disk_from size blocks = record { past = past_from size blocks; failures = 0; fails_in = 0 }

-- once this happened to it
abbrev pub with_event : DiskEvent → MemState → MemState
with_event e m = record m { past = past_after e m.past }

-- after a device call
abbrev pub called : MemState → MemState
called m = record m { fails_in = m.fails_in - 1 }

-- after a device call that failed
abbrev pub failed : MemState → MemState
failed m = record (called m) { failures = min (m.failures + 1) (2 ^ 64 - 1) }

-- a block and the number of its pending writes
abbrev pub count_at : Past → ℕ → ℕ × ℕ
count_at p b = (b, length (pending_of p b))

-- each block below n that has pending writes, and their number, ascending
abbrev pub pending_below : Past → ℕ → List (ℕ × ℕ)
pending_below p n = filter (λ e. nat_lt 0 e.1) (map (count_at p) (range_with_len 0 n))

-- each block that has pending writes, and their number, ascending
abbrev pub pending_blocks : Past → List (ℕ × ℕ)
pending_blocks p = pending_below p p.size

-- block b with only the first k of its pending writes: its stable content for k = 0, the last write
-- if k is too great
abbrev pub chosen_in : Bytes → List DiskEvent → ℕ → ℕ → Bytes
chosen_in block events b k =
    let writes = pending_in events b in newest (drop (length writes - k) writes) (stable_in block events b)

-- the number for a block: the j-th of the choice for the j-th pending block, and 0 where that is
-- missing
abbrev pub number_for : Past → List ℕ → ℕ → ℕ
number_for p choice b = slice_index_or choice (length (pending_below p b)) 0

-- a block of the image that a choice names
abbrev pub chosen : Past → List ℕ → ℕ → Bytes
chosen p choice b = chosen_in (block_at p.device b) p.events b (number_for p choice b)

-- the image that a choice names
abbrev pub image_of : Past → List ℕ → List Bytes
image_of p choice = map (chosen p choice) (range_with_len 0 p.size)
