-- The invariant of every circular log: of its numbers, whatever the disk does, and of each image of
-- an honest disk.
use Rattle.std.specs.Prelude.{ℕ, ◌≡◌, ◌≢◌, ◌⊎◌, true, length, ◌<◌, ◌≤◌, ◌+◌, ◌-◌, ◌^◌, false, IsTrue, List}
use Rattle.journal_block.specs.declared.update.Update.{Update}
use Rattle.journal_world.specs.declared.layout.TheConstants.{BLOCK_BYTES, FIRST_HOME, LOG_POSITIONS}
use Rattle.journal_block.specs.Block.{Bytes, u64_at}
use Rattle.journal_block.specs.Updates.{updated}
use Rattle.journal_disk.specs.Disks.{Past, LostNone, block_at, read_of}
use Rattle.journal_disk.specs.Images.{EveryImage}
use Rattle.journal_circ.specs.declared.extent.Extent.{Extent}
use Rattle.journal_circ.specs.Log.{log_block, address, is_sealed, begin_of, tag_in, tag_of, tag_at, home_by, end_by, end_in, start_in, updates_from, HasLabel}
use Rattle.journal_circ.specs.Ring.{Ring}
use Rattle.journal_circ.specs.declared.layout.TheConstants.{MAX_GROUP}

-- the updates from one position to another, as the disk reads
abbrev pub updates_between : Past → Bytes → ℕ → ℕ → List Update
updates_between p header from to = updates_from header (read_of p) from (to - from)

-- the image begins its log at the start, or at the later one
abbrev pub HasStart : Extent → List Bytes → Type 0
HasStart m image = (start_in image ≡ m.start) ⊎ (start_in image ≡ m.freed)

-- it ends its log at the end, or at the coming one
abbrev pub HasEnd : Extent → List Bytes → Type 0
HasEnd m image = (end_in image ≡ m.end) ⊎ (end_in image ≡ m.coming)

-- its block 0 is of the form
abbrev pub HasForm : Bytes → List Bytes → Type 0
HasForm header image = is_sealed (block_at image 0) ≡ is_sealed header

-- it has the words of its positions
abbrev pub HasAddresses : Bytes → Extent → List Bytes → Type 0
HasAddresses header m image = (q : ℕ) → m.start ≤ q → q < end_in image → address (block_at image 0) q ≡ address header q

-- it has the log blocks that are stable
abbrev pub HasLogBlocks : Past → Extent → List Bytes → Type 0
HasLogBlocks p m image = (q : ℕ) → m.start ≤ q → q < m.stable → block_at image (log_block q) ≡ read_of p (log_block q)

-- it has the log blocks of its positions
abbrev pub HasWhole : Past → Extent → List Bytes → Type 0
HasWhole p m image = (q : ℕ) → m.start ≤ q → q < end_in image → block_at image (log_block q) ≡ read_of p (log_block q)

-- the log from a position to the end makes of its home blocks what the whole log makes of those
-- that are read
abbrev pub GivesHomeBlocks : Past → Bytes → Extent → ℕ → List Bytes → Type 0
GivesHomeBlocks p header m from image = (b : ℕ) → FIRST_HOME ≤ b → b < p.size
    → updated (updates_between p header from m.end) b (block_at image b) ≡ updated (updates_between p header m.start m.end) b (read_of p b)

-- it has the home blocks that are read
abbrev pub HasHomeBlocks : Past → List Bytes → Type 0
HasHomeBlocks p image = (b : ℕ) → FIRST_HOME ≤ b → b < p.size → block_at image b ≡ read_of p b

-- The invariant of each image of an honest disk
pub record HasSoundImages (p : Past) (header : Bytes) (m : Extent) : Type 0 where
  pub start : EveryImage p (HasStart m)
  pub end : EveryImage p (HasEnd m)
  pub form : EveryImage p (HasForm header)
  pub addresses : EveryImage p (HasAddresses header m)
  pub log_blocks : EveryImage p (HasLogBlocks p m)
  pub whole : EveryImage p (HasWhole p m)
  pub from_start : EveryImage p (GivesHomeBlocks p header m m.start)
  pub from_freed : EveryImage p (GivesHomeBlocks p header m m.freed)
  pub homes : IsTrue m.homes → EveryImage p (HasHomeBlocks p)

-- while no call has failed, blocks 0 and 1 read as they were put last
pub record HasHeaders (p : Past) (m : Extent) : Type 0 where
  pub end : end_by (read_of p 0) (read_of p) ≡ m.coming
  pub start : u64_at (read_of p 1) 0 ≡ m.freed

-- Of a sealed log: its block 0 names positions within reach, and it wants of the free log blocks
-- the tags that block 0 in memory has for them

abbrev pub HasHold : ℕ → List Bytes → Type 0
HasHold end image = end ≤ begin_of (block_at image 0) + MAX_GROUP

abbrev pub HasWants : Bytes → (start next : ℕ) → List Bytes → Type 0
HasWants header start next image = (q : ℕ) → next ≤ q → q < start + LOG_POSITIONS → tag_in (block_at image 0) q ≡ tag_in header q

pub record HasHolds (p : Past) (header : Bytes) (start end next : ℕ) : Type 0 where
  pub hold : EveryImage p (HasHold end)
  pub wants : EveryImage p (HasWants header start next)

-- The log blocks of the group in flight are as they read, or without the tag that is put for them;
-- the free ones are as they read

abbrev pub HasFlight : Past → Bytes → (end next : ℕ) → List Bytes → Type 0
HasFlight p header end next image = (q : ℕ) → end ≤ q → q < next
    → (block_at image (log_block q) ≡ read_of p (log_block q)) ⊎ (tag_of (block_at image (log_block q)) ≢ tag_in header q)

abbrev pub HasFree : Past → (start next : ℕ) → List Bytes → Type 0
HasFree p start next image = (q : ℕ) → next ≤ q → q < start + LOG_POSITIONS → block_at image (log_block q) ≡ read_of p (log_block q)

pub record HasTags (p : Past) (header tags : Bytes) (start end coming next : ℕ) : Type 0 where
  pub flight : EveryImage p (HasFlight p header end next)
  pub free : EveryImage p (HasFree p start next)
  -- as they read, those of the group in flight have their tags
  pub tagged : (q : ℕ) → end ≤ q → q < next → tag_of (read_of p (log_block q)) ≡ tag_in header q
  pub knows : (q : ℕ) → tag_at tags q ≡ tag_of (read_of p (log_block q))
  -- block 0 as it reads names a last group that is within reach of the coming end
  pub last : coming ≤ begin_of (read_of p 0) + MAX_GROUP

-- The invariant of the numbers, whatever the disk does
pub record HasBounds (size : ℕ) (header : Bytes) (m : Extent) (next : ℕ) : Type 0 where
  pub large : FIRST_HOME < size
  pub few : is_sealed header ≡ true → next ≤ m.end + MAX_GROUP
  pub narrow : is_sealed header ≡ true → size ≤ 2 ^ 40
  pub start_freed : m.start ≤ m.freed
  pub freed_end : m.freed ≤ m.end
  pub end_coming : m.end ≤ m.coming
  pub coming_next : m.coming ≤ next
  pub coming_stable : is_sealed header ≡ false → m.coming ≤ m.stable
  pub stable_next : m.stable ≤ next
  pub fits : next ≤ m.start + LOG_POSITIONS
  pub small : next < 2 ^ 62
  pub addresses : (q : ℕ) → m.start ≤ q → q < next → (FIRST_HOME ≤ home_by header q) × (home_by header q < size)

-- The invariant of every `Circ`
pub record IsCirc (r : Ring) : Type 0 where
  pub form : r.sealed ≡ is_sealed r.header
  pub bounds : HasBounds r.disk.past.size r.header r.extent r.next
  -- no write was lost since the log is open, nor was one when it was opened
  pub lost : IsTrue r.disk.honest → LostNone r.disk.past
  pub sound : IsTrue r.disk.honest → HasSoundImages r.disk.past r.header r.extent
  pub headers : IsTrue r.disk.honest → r.faulted ≡ false → HasHeaders r.disk.past r.extent
  pub label : IsTrue r.disk.honest → EveryImage r.disk.past (HasLabel r.label)
  pub tags_size : length r.tags ≡ BLOCK_BYTES
  pub holds : IsTrue r.disk.honest → is_sealed r.header ≡ true → HasHolds r.disk.past r.header r.extent.start r.extent.end r.next
  pub tags : IsTrue r.disk.honest → r.faulted ≡ false → is_sealed r.header ≡ true
      → HasTags r.disk.past r.header r.tags r.extent.start r.extent.end r.extent.coming r.next
