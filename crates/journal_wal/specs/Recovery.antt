-- The effect of a recovery on the disk, and its progress.
use Rattle.std.specs.Prelude.{ℕ, ◌≡◌, ◌-◌, IsTrue, take}
use Rattle.journal_disk.specs.Disks.{Keeps}
use Rattle.journal_circ.specs.Ring.{Ring, log_of}
use Rattle.journal_memlog.specs.Logs.{LogState, next_position}
use Rattle.journal_tail.specs.Homes.{AreHomes}

-- The disk was read, and nothing else
pub record OnlyReadsRing (old new : Ring) : Type 0 where
  pub same : new ≡ record old { disk = new.disk; faulted = new.faulted }
  pub keeps : Keeps old.disk new.disk
  pub past : IsTrue old.disk.honest → new.disk.past ≡ old.disk.past

-- The log in memory has what the log on the disk has before the position
pub record IsRecovered (ring : Ring) (position : ℕ) (log : LogState) : Type 0 where
  pub blocks : log.blocks ≡ ring.disk.past.size
  pub start : log.start ≡ ring.extent.start
  pub logged : log.logged ≡ position
  pub cut : log.cut ≡ position
  pub next : next_position log ≡ position
  pub homes : AreHomes log.blocks log.updates
  pub updates : IsTrue ring.disk.honest → log.updates ≡ take (position - ring.extent.start) (log_of ring)
