-- The images that a crash may leave of a disk.
use Rattle.std.specs.Prelude.{ℕ, ◌≡◌, ◌≢◌, ◌⊎◌, ◌<◌, List, [], length, map, Contains}
use Rattle.std.specs.List.{range_with_len}
use Rattle.journal_block.specs.Block.{Bytes}
use Rattle.journal_disk.specs.Disks.{Past, IsKeptAt, block_at, pending_of, stable_of, read_of}

-- a crash may leave this of the block: the stable block, any of its pending writes, or what a read
-- gives
abbrev pub MayLeave : Past → ℕ → Bytes → Type 0
MayLeave p b bytes = (bytes ≡ stable_of p b) ⊎ (Contains (pending_of p b) bytes ⊎ (bytes ≡ read_of p b))

-- An image is what a crash leaves: of each block, whatever it leaves of others, what it may leave
-- of that one
pub record IsImage (p : Past) (image : List Bytes) : Type 0 where
  pub size : length image ≡ p.size
  pub each : (b : ℕ) → b < p.size → MayLeave p b (block_at image b)

-- each image has Q
abbrev pub EveryImage : Past → (List Bytes → Type 0) → Type 0
EveryImage p Q = (image : List Bytes) → IsImage p image → Q image

-- the disk as it reads, which is one of its images
abbrev pub reading : Past → List Bytes
reading p = map (read_of p) (range_with_len 0 p.size)

-- A failed barrier, after which the machine keeps its memory, leaves this to the next opening:
-- reads give the same as before, the device has an image, and nothing is pending
pub record LosesWrites (old new : Past) : Type 0 where
  pub device : IsImage old new.device
  pub is : new ≡ record { size = old.size; first = reading old; device = new.device; events = [] }

-- Blocks were written as they read, and barriers made: reads give the same as before, no image is
-- added, and a kept block stays kept
pub record IsRewritten (old new : Past) : Type 0 where
  pub size : new.size ≡ old.size
  pub reads : (b : ℕ) → read_of new b ≡ read_of old b
  pub images : EveryImage new (IsImage old)
  pub kept : (b : ℕ) → IsKeptAt old b → IsKeptAt new b

-- An image from before a write of these bytes to block c, with that block as it was there or as
-- written
pub record IsOldOrWritten (p : Past) (c : ℕ) (bytes : Bytes) (image : List Bytes) : Type 0 where
  pub old : List Bytes
  pub was : IsImage p old
  pub size : length image ≡ length old
  pub here : (block_at image c ≡ block_at old c) ⊎ (block_at image c ≡ bytes)
  pub others : (b : ℕ) → b ≢ c → block_at image b ≡ block_at old b
