-- How far the tags of a log's blocks were read.
use Rattle.std.proofs.Common.{◌≡◌, ◌<◌, ℕ, Bool, false, length, IsTrue}
use Rattle.journal_block.specs.Block.{Bytes}
use Rattle.journal_disk.specs.Disks.{DiskState, Keeps, read_of}
use Rattle.journal_circ.specs.Log.{log_block, tag_at, tag_of}

pub record HasRead (old new : DiskState) (faulted : Bool) (tags : Bytes) (to : ℕ) : Type 0 where
  pub keeps : Keeps old new
  pub same : IsTrue old.honest → new.past ≡ old.past
  pub well : faulted ≡ false
  pub size : length tags ≡ 4096
  pub each : IsTrue old.honest → (q : ℕ) → q < to → tag_at tags q ≡ tag_of (read_of old.past (log_block q))
