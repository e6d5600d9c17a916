-- How the updates of a log come home, position by position.
use Rattle.std.specs.Prelude.{ℕ, ◌≡◌, ◌<◌, ◌≤◌, ◌-◌, false, IsTrue, List, Some, slice_get}
use Rattle.journal_block.specs.declared.update.Update.{Update}
use Rattle.journal_block.specs.Block.{Bytes}
use Rattle.journal_disk.specs.Disks.{Past, Keeps, IsSettled, read_of}
use Rattle.journal_disk.specs.Images.{EveryImage}
use Rattle.journal_disk.specs.Moments.{LeavesOnly}
use Rattle.journal_circ.specs.Log.{is_sealed, HasLabel}
use Rattle.journal_circ.specs.StandsFor.{StandsFor}
use Rattle.journal_circ.specs.Ring.{Ring, log_of, home_of, blocks_to, SameHomeBut}
use Rattle.journal_world.specs.declared.layout.TheConstants.{FIRST_HOME}

-- Neither cycle of the log is under way, no call failed, and each image stands for the blocks of
-- the log and has the label
pub record Rests (r : Ring) : Type 0 where
  pub freed : r.extent.freed ≡ r.extent.start
  pub coming : r.extent.coming ≡ r.extent.end
  pub next : r.next ≡ r.extent.end
  pub fine : r.faulted ≡ false
  pub stands : IsTrue r.disk.honest → EveryImage r.disk.past (StandsFor r.disk.past.size (blocks_to r r.extent.end))
  pub labels : IsTrue r.disk.honest → EveryImage r.disk.past (HasLabel r.label)

-- the image stands for the blocks of the log, and has the label
abbrev pub IsLogAndLabel : Ring → List Bytes → Type 0
IsLogAndLabel r image = StandsFor r.disk.past.size (blocks_to r r.extent.end) image × HasLabel r.label image

-- at each moment up to the new past each image stands for the blocks of the old log, and has the
-- label
abbrev pub StaysThroughout : Ring → Past → Type 0
StaysThroughout old new = LeavesOnly old.disk.past new (IsLogAndLabel old)

-- the home blocks are as the log up to the position has them
abbrev pub HasHomesTo : Ring → ℕ → Ring → Type 0
HasHomesTo old position new = (b : ℕ) → FIRST_HOME ≤ b → b < old.disk.past.size → home_of new b ≡ blocks_to old position b

-- The update at the position was brought home, and nothing else was done
pub record BringsUpdate (old : Ring) (position : ℕ) (new : Ring) : Type 0 where
  pub same : new ≡ record old { disk = new.disk; extent = record old.extent { homes = false } }
  pub log : IsTrue old.disk.honest → log_of new ≡ log_of old
  pub update : IsTrue old.disk.honest → (u : Update)
      × (slice_get (log_of old) (position - old.extent.start) ≡ Some u) × (home_of new u.block ≡ u.bytes) × SameHomeBut u.block old new

-- The updates before the position were brought home, and the log, its bounds and the label are as
-- before
pub record BringsHome (old : Ring) (position : ℕ) (new : Ring) : Type 0 where
  pub start : new.extent.start ≡ old.extent.start
  pub end : new.extent.end ≡ old.extent.end
  pub coming : new.extent.coming ≡ old.extent.coming
  pub next : new.next ≡ old.next
  pub fine : new.faulted ≡ false
  pub label : new.label ≡ old.label
  pub keeps : Keeps old.disk new.disk
  pub log : IsTrue old.disk.honest → log_of new ≡ log_of old
  pub homes : IsTrue old.disk.honest → HasHomesTo old position new
  pub crash : IsTrue old.disk.honest → StaysThroughout old new.disk.past

-- The log was opened: block 0 is as it reads, and has the form
pub record IsRead (r : Ring) : Type 0 where
  pub form : r.sealed ≡ is_sealed r.header
  pub header : IsTrue r.disk.honest → r.header ≡ read_of r.disk.past 0
  pub settled : IsTrue r.disk.honest → IsSettled r.disk.past

-- The log is empty, no call failed, the label is as before, and the home blocks are as the log had
-- them
pub record IsEmptied (old new : Ring) : Type 0 where
  pub empty : new.extent.start ≡ new.next
  pub fine : new.faulted ≡ false
  pub label : new.label ≡ old.label
  pub homes : IsTrue old.disk.honest → HasHomesTo old old.extent.end new
