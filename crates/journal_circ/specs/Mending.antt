-- A disk that can be mended: its log names all that a failed barrier may have lost beside the log
-- itself.
use Rattle.std.specs.Prelude.{ℕ, ◌≡◌, ◌≢◌, ◌<◌, ◌≤◌, List}
use Rattle.journal_block.specs.Block.{Bytes}
use Rattle.journal_disk.specs.Disks.{Past, block_at, read_of}
use Rattle.journal_disk.specs.Images.{EveryImage, reading}
use Rattle.journal_circ.specs.Log.{home_by, start_in, end_in}
use Rattle.journal_world.specs.declared.layout.TheConstants.{FIRST_HOME}

-- the log of the image has no update of this home block
abbrev pub LeavesOut : List Bytes → ℕ → Type 0
LeavesOut image b = (q : ℕ) → start_in image ≤ q → q < end_in image → home_by (block_at image 0) q ≢ b

-- Each home block that the log leaves out, as the disk reads, is in each image as it reads
abbrev pub IsMendable : Past → Type 0
IsMendable p = (b : ℕ) → FIRST_HOME ≤ b → b < p.size → LeavesOut (reading p) b
    → EveryImage p (λ image. block_at image b ≡ read_of p b)

-- these are block 0, the start and the end of the log that the disk reads
pub record IsLogOf (p : Past) (header : Bytes) (start end : ℕ) : Type 0 where
  pub header_is : header ≡ read_of p 0
  pub start_is : start ≡ start_in (reading p)
  pub end_is : end ≡ end_in (reading p)
