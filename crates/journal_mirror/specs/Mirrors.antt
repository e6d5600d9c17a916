-- A disk whose blocks are also in memory: its past by the calls of it.
use Rattle.std.specs.Prelude.{ℕ, ◌≡◌, ◌<◌, Bool, true, false, List, [], ◌∷◌, length, Option, None, Some, IsTrue}
use Rattle.journal_world.specs.declared.refusal.Refusal.{Refusal}
use Rattle.journal_world.specs.declared.refusal.Refusal.TheVariants.{NoMemory, DeviceFailed}
use Rattle.journal_block.specs.Block.{Bytes}
use Rattle.journal_disk.specs.Disks.{DiskEvent, write, barrier, Past, DiskState, Keeps, HasFailed, block_at, past_from, past_after, read_of}
use Rattle.journal_mirror.specs.declared.call.Call.{Call}

-- the event of a call: a write to a block, or a barrier where none is named
abbrev pub event_by : Option ℕ → Bytes → DiskEvent
event_by None bytes = barrier
event_by (Some b) bytes = write b bytes

abbrev pub event_of : Call → DiskEvent
event_of call = event_by call.block.value call.bytes.value

-- the past once these calls were made, the oldest of them first
abbrev pub past_with : Past → List Call → Past
past_with p [] = p
past_with p (call ∷ calls) = past_with (past_after (event_of call) p) calls

-- The past of a mirror: that of the disk under it if it is honest, and else that of a disk with the
-- blocks that were read at first and the calls since
abbrev pub past_by : Bool → Past → List Bytes → List Call → Past
past_by true past first calls = past
past_by false past first calls = past_with (past_from (length first) first) calls

abbrev pub mirror_past : DiskState → List Bytes → List Call → Past
mirror_past under first calls = past_by under.honest under.past first calls

-- memory has of each block what a read is to give
abbrev pub IsCurrent : List Bytes → Past → Type 0
IsCurrent blocks p = (b : ℕ) → b < p.size → block_at blocks b ≡ read_of p b

-- The past of a mirror, how many of its calls failed, and the state of the disk under it
pub record MirrorState : Type 0 where
  pub past : Past
  pub failures : ℕ
  pub under : DiskState

-- its state as any disk's: it is honest, whatever the disk under it is
abbrev pub mirror_state : MirrorState → DiskState
mirror_state m = record { past = m.past; honest = true; failures = m.failures }

-- why the blocks of a disk were not read: memory is refused, or the device failed
abbrev pub IsReason : DiskState → DiskState → Refusal (Unit {0}) → Type 0
IsReason old new NoMemory = Unit {0}
IsReason old new (DeviceFailed cause) = HasFailed old new
IsReason old new other = ⊥

-- Why no mirror is made of a disk, which is handed back with nothing written
pub record IsMirrorRefusal (old new : DiskState) (why : Refusal (Unit {0})) : Type 0 where
  pub keeps : Keeps old new
  pub same : IsTrue old.honest → new.past ≡ old.past
  pub is : IsReason old new why
