-- The record of a disk in memory: the meaning of its entries, and how they are linked.
use Rattle.std.specs.Prelude.{ℕ, ◌≡◌, ◌-◌, ◌<◌, ◌==◌, suc, List, [], ◌∷◌, length, map, reverse, take, Option, Some, slice_index, slice_index_or, if◌then◌else◌}
use Rattle.journal_block.specs.Block.{Bytes}
use Rattle.journal_disk.specs.declared.events.Entry.{Entry}
use Rattle.journal_disk.specs.declared.events.Entry.TheVariants.{Write, Barrier}
use Rattle.journal_disk.specs.declared.events.WriteEntry.{WriteEntry}
use Rattle.journal_disk.specs.Disks.{DiskEvent, write, barrier, pending_in}

-- The state of a record that contracts see: the number of blocks, and their events, the newest
-- first
pub record Recorded : Type 0 where
  pub size : ℕ
  pub events : List DiskEvent

abbrev pub event_of : Entry → DiskEvent
event_of (Write w) = write w.block w.bytes
event_of Barrier = barrier

abbrev pub events_of : List Entry → List DiskEvent
events_of entries = reverse (map event_of entries)

-- the events up to the last write of the block
abbrev pub up_to_write : List DiskEvent → ℕ → List DiskEvent
up_to_write [] b = []
up_to_write (write c bytes ∷ older) b = if b == c then write c bytes ∷ older else up_to_write older b
up_to_write (barrier ∷ older) b = up_to_write older b

-- the events up to the last barrier
abbrev pub up_to_barrier : List DiskEvent → List DiskEvent
up_to_barrier [] = []
up_to_barrier (write c bytes ∷ older) = up_to_barrier older
up_to_barrier (barrier ∷ older) = barrier ∷ older

-- there is a write at the place
abbrev pub IsWriteAt : List Entry → ℕ → Type 0
IsWriteAt entries place = (0 < place) × ((w : WriteEntry) × (slice_index_or entries (place - 1) Barrier ≡ Write w))

-- the write at the place has these bytes
abbrev pub WritesAt : List Entry → ℕ → Option Bytes → Type 0
WritesAt entries place bytes = (w : WriteEntry) × (slice_index_or entries (place - 1) Barrier ≡ Write w) × (bytes ≡ Some w.bytes)

-- the write is numbered, and leads to the one before it, as the older events have it
abbrev pub IsLinkOf : List DiskEvent → Entry → Type 0
IsLinkOf older (Write w) = (w.earlier ≡ length (up_to_write older w.block)) × (w.number ≡ suc (length (pending_in older w.block)))
IsLinkOf older Barrier = Unit {0}

-- Each place that a record keeps is the one that it is kept for
pub record IsLinked (entries : List Entry) (synced : ℕ) (last : List ℕ) : Type 0 where
  pub barrier : synced ≡ length (up_to_barrier (events_of entries))
  pub writes : (b : ℕ) → b < length last → slice_index last b ≡ length (up_to_write (events_of entries) b)
  pub links : (k : ℕ) → k < length entries → IsLinkOf (events_of (take k entries)) (slice_index_or entries k Barrier)
