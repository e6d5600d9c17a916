-- A circular log as contracts see it, and its steps.
use Rattle.std.specs.Prelude.{ℕ, ◌≡◌, ◌≢◌, ◌⊎◌, ◌<◌, ◌≤◌, ◌-◌, ◌%◌, Bool, false, [], ◌∷◌, if◌then◌else◌, IsTrue, IsErr, IfErr, OnOk, List, take, Result}
use Rattle.journal_world.specs.declared.refusal.Refusal.{Refusal}
use Rattle.journal_world.specs.declared.refusal.Refusal.TheVariants.{NoMemory, DeviceFailed, BadLog}
use Rattle.journal_block.specs.declared.update.Update.{Update}
use Rattle.journal_block.specs.Block.{Bytes, with_bytes}
use Rattle.journal_block.specs.Updates.{Content, with_updates, updates_block}
use Rattle.journal_disk.specs.Disks.{Past, DiskEvent, DiskState, Keeps, HasFailed, read_of, past_after, MayHaveHappened}
use Rattle.journal_disk.specs.Images.{EveryImage, reading}
use Rattle.journal_disk.specs.Moments.{LeavesOnly}
use Rattle.journal_circ.specs.declared.extent.Extent.{Extent}
use Rattle.journal_circ.specs.Log.{updates_from, is_sealed, tag_in, tag_at, tag_of, other_tag, with_tag, with_address, word_of, HasLabel, IsWellFormed}
use Rattle.journal_circ.specs.StandsFor.{StandsFor}
use Rattle.journal_world.specs.declared.layout.TheConstants.{FIRST_HOME, LOG_POSITIONS}

-- The state of a `Circ` that contracts see
pub record Ring : Type 0 where
  pub disk : DiskState
  -- block 0 as the next group has it
  pub header : Bytes
  -- of a sealed log the tag that each log block has as it reads
  pub tags : Bytes
  -- bytes 8 to 4095 of block 1
  pub label : Bytes
  -- the log is of the sealed form
  pub sealed : Bool
  pub extent : Extent
  -- the position that is put next
  pub next : ℕ
  -- a call failed
  pub faulted : Bool

-- the tag that the next log block of a sealed log is put with
abbrev pub next_tag : Ring → ℕ
next_tag r = other_tag (tag_at r.tags r.next) (tag_in r.header r.next)

-- The blocks of an update at the next position: its log block, and block 0 and the tags in memory
-- after it
abbrev pub bytes_put : Ring → Bytes → Bytes
bytes_put r bytes = if r.sealed then with_tag bytes (next_tag r) else bytes

abbrev pub header_put : Ring → ℕ → Bytes → Bytes
header_put r block bytes = with_address r.header r.next (if r.sealed then word_of block 0 (next_tag r) (tag_of bytes) else block)

abbrev pub tags_put : Ring → Bytes
tags_put r = if r.sealed then with_bytes r.tags (r.next % LOG_POSITIONS) (next_tag r ∷ []) else r.tags

-- the updates of the log, from its start to the position that is put next
abbrev pub log_of : Ring → List Update
log_of r = updates_from r.header (read_of r.disk.past) r.extent.start (r.next - r.extent.start)

-- the blocks as the disk reads
abbrev pub home_of : Ring → Content
home_of r = read_of r.disk.past

-- the blocks that the log up to a position stands for
abbrev pub blocks_to : Ring → ℕ → Content
blocks_to r to = with_updates (home_of r) (take (to - r.extent.start) (log_of r))

-- The image stands for the blocks of the log up to one position, or up to the other.
abbrev pub StandsForEither : Ring → ℕ → ℕ → List Bytes → Type 0
StandsForEither r end coming image =
    StandsFor r.disk.past.size (blocks_to r end) image ⊎ StandsFor r.disk.past.size (blocks_to r coming) image

-- a position up to the end has an update of the block
abbrev pub IsLogged : Ring → ℕ → Type 0
IsLogged r b = IsTrue (updates_block (take (r.extent.end - r.extent.start) (log_of r)) b)

-- each home block is as the log up to the position has it
abbrev pub IsInstalled : Ring → ℕ → Type 0
IsInstalled r to = (b : ℕ) → FIRST_HOME ≤ b → b < r.disk.past.size → blocks_to r to b ≡ home_of r b

-- each home block reads as before
abbrev pub SameHome : Ring → Ring → Type 0
SameHome old new = (b : ℕ) → FIRST_HOME ≤ b → b < old.disk.past.size → home_of new b ≡ home_of old b

-- each but one
abbrev pub SameHomeBut : ℕ → Ring → Ring → Type 0
SameHomeBut c old new = (b : ℕ) → FIRST_HOME ≤ b → b < old.disk.past.size → b ≢ c → home_of new b ≡ home_of old b

-- from the end on, the log up to a position stands for what it stood for
abbrev pub SameBlocksTo : Ring → Ring → Type 0
SameBlocksTo old new = (to b : ℕ) → old.extent.end ≤ to → to ≤ old.next → FIRST_HOME ≤ b → b < old.disk.past.size → blocks_to new to b ≡ blocks_to old to b

-- The label is the same, and each image has it at every moment
pub record KeepsLabel (old new : Ring) : Type 0 where
  pub same : new.label ≡ old.label
  pub moments : IsTrue old.disk.honest → LeavesOnly old.disk.past new.disk.past (HasLabel old.label)

-- The clause of each step on images: at every moment of it each stands for the blocks up to the old
-- end or up to the coming one, and has the label
pub record Crashes (coming : ℕ) (old new : Ring) : Type 0 where
  pub keeps : Keeps old.disk new.disk
  pub moments : IsTrue old.disk.honest → LeavesOnly old.disk.past new.disk.past (StandsForEither old old.extent.end coming)
  pub label : KeepsLabel old new
  pub images : IsTrue new.disk.honest → EveryImage new.disk.past (StandsForEither new new.extent.end new.extent.coming)

-- The effect of a step on an honest disk: this event, and nothing else
abbrev pub MakesCall : DiskEvent → DiskState → DiskState → Type 0
MakesCall event old new = IsTrue old.honest → new.past ≡ past_after event old.past

-- this may have happened to it, and nothing else
abbrev pub TriesCall : DiskEvent → DiskState → DiskState → Type 0
TriesCall event old new = IsTrue old.honest → MayHaveHappened event old.past new.past

-- J6, where a call had failed before, or the device failed in this one
abbrev pub IsFault : Bool → DiskState → DiskState → Refusal Unit → Type 0
IsFault faulted old new refusal = (refusal ≡ DeviceFailed tt) × (IsTrue faulted ⊎ HasFailed old new)

-- The clause of each step on its device call: it makes this one and no other. If J6 refuses it, it
-- may have made this one
pub record Steps {A : Type 0} (event : DiskEvent) (result : Result A (Refusal Unit)) (old new : Ring) : Type 0 where
  pub refusal : IfErr result (IsFault old.faulted old.disk new.disk)
  -- once a call failed, none is made
  pub faulted : IsTrue old.faulted → IsErr result × (new ≡ old)
  pub makes : OnOk result (MakesCall event old.disk new.disk)
  pub tries : TriesCall event old.disk new.disk

-- the image stands for the home blocks, and has the label
abbrev pub IsHomeAndLabel : Ring → List Bytes → Type 0
IsHomeAndLabel r image = StandsFor r.disk.past.size (home_of r) image × HasLabel r.label image

-- The clause of a change of the form of an empty log on images: up to one moment, and from it on,
-- each stands for the home blocks, and has the label
abbrev pub ChangesForm : Ring → Past → Type 0
ChangesForm r new = (mid : Past) × (LeavesOnly r.disk.past mid (IsHomeAndLabel r) × LeavesOnly mid new (IsHomeAndLabel r))

-- The log and the home blocks are as before
pub record KeepsLog (old new : Ring) : Type 0 where
  pub log : log_of new ≡ log_of old
  pub home : SameHome old new

-- why a disk is not opened: J1, J6 where it failed, J7 where as it reads it is not well formed
abbrev pub IsOpenRefusal : DiskState → DiskState → Refusal Unit → Type 0
IsOpenRefusal old new NoMemory = Unit {0}
IsOpenRefusal old new (DeviceFailed cause) = HasFailed old new
IsOpenRefusal old new BadLog = IsTrue old.honest → IsWellFormed (reading old.past) → ⊥
IsOpenRefusal old new _ = ⊥

-- a log on which nothing is in flight
abbrev pub at_rest : DiskState → (header tags label : Bytes) → (start end : ℕ) → Ring
at_rest disk header tags label start end = record {
  disk = disk;
  header = header;
  tags = tags;
  label = label;
  sealed = is_sealed header;
  extent = record { start = start; freed = start; end = end; coming = end; stable = end; homes = false };
  next = end;
  faulted = false;
}
