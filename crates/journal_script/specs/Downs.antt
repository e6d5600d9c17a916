-- The effect of a command on a disk that is down, and its answer.
use Rattle.std.specs.Prelude.{ℕ, ◌≡◌, ◌≢◌, ◌⊎◌, ◌<◌, ◌+◌, List, Option, Some, None, length, slice_range}
use Rattle.journal_world.specs.declared.refusal.Refusal.{Refusal}
use Rattle.journal_world.specs.declared.refusal.Refusal.TheVariants.{NoMemory, DeviceFailed, BadLog}
use Rattle.journal_block.specs.Block.{Bytes, with_bytes}
use Rattle.journal_disk.specs.Disks.{Past, read_of}
use Rattle.journal_disk.specs.Images.{reading}
use Rattle.journal_circ.specs.Log.{IsWellFormed}
use Rattle.journal_command.specs.declared.command.Command.{Command}
use Rattle.journal_command.specs.declared.command.Command.TheVariants as commands
use Rattle.journal_script.specs.declared.answer.Answer.{Answer}
use Rattle.journal_script.specs.declared.answer.Answer.TheVariants as answers
use Rattle.journal_script.specs.Answers.{to_no_command}
use Rattle.journal_command.specs.Commands.{LineSays}

-- These bytes of the block were overwritten, and each other block reads as it did
pub record IsPoked (block at : ℕ) (bytes : Bytes) (old new : Past) : Type 0 where
  pub size : new.size ≡ old.size
  pub here : read_of new block ≡ with_bytes (read_of old block) at bytes
  pub others : (b : ℕ) → b < old.size → b ≢ block → read_of new b ≡ read_of old b

-- Each block reads as it did
pub record ReadsAsBefore (old new : Past) : Type 0 where
  pub size : new.size ≡ old.size
  pub reads : (b : ℕ) → b < old.size → read_of new b ≡ read_of old b

-- bytes of a block are shown
abbrev pub ShowsBytes : Past → ℕ → ℕ → ℕ → Answer → Type 0
ShowsBytes p block at len (answers.Value v) = (block < p.size) × (v ≡ slice_range (read_of p block) at (at + len)) × (length v ≡ len)
ShowsBytes p block at len (answers.Refused why) = (block < p.size) × (why ≡ NoMemory)
ShowsBytes p block at len answers.BadLine = block < p.size → ⊥
ShowsBytes p block at len _ = ⊥

-- bytes of a block are overwritten
abbrev pub Pokes : Past → ℕ → ℕ → Bytes → Answer → Past → Type 0
Pokes old block at bytes answers.Done new = (block < old.size) × IsPoked block at bytes old new
Pokes old block at bytes (answers.Refused why) new = (block < old.size) × ((why ≡ NoMemory) ⊎ (why ≡ DeviceFailed tt)) × ReadsAsBefore old new
Pokes old block at bytes answers.BadLine new = (block < old.size → ⊥) × (new ≡ old)
Pokes old block at bytes _ new = ⊥

-- why a disk is not mended: memory is refused, the device failed, or as the disk reads its log is
-- not well formed
abbrev pub IsMendRefusal : Past → Refusal Unit → Type 0
IsMendRefusal old why = (why ≡ NoMemory) ⊎ ((why ≡ DeviceFailed tt) ⊎ ((why ≡ BadLog) × (IsWellFormed (reading old) → ⊥)))

-- a disk of which nothing is lost is mended, or that is refused: it reads as before
abbrev pub MendsWhole : Past → Answer → Past → Type 0
MendsWhole old answers.Done new = ReadsAsBefore old new
MendsWhole old (answers.Refused why) new = IsMendRefusal old why × ReadsAsBefore old new
MendsWhole old _ new = ⊥

-- The answer of a command, and the state after it. `open` has no answer here: the loop that mounts
-- disks gives it
abbrev pub ObeysDown : Past → Command → Option Answer → Past → Type 0
ObeysDown old (commands.Disk block at len) (Some answer) new = ShowsBytes old block at len answer × (new ≡ old)
ObeysDown old (commands.Poke block at v) (Some answer) new = Pokes old block at v.now answer new
ObeysDown old commands.Mend (Some answer) new = MendsWhole old answer new
ObeysDown old commands.Open answer new = (answer ≡ None) × (new ≡ old)
ObeysDown old _ answer new = (answer ≡ Some answers.Down) × (new ≡ old)

-- The line says a command, which is answered so; or it says none, which changes nothing
abbrev pub AnswersDown : Past → List ℕ → Option Answer → Past → Type 0
AnswersDown old line answer new =
    ((command : Command) × LineSays line command × ObeysDown old command answer new)
    ⊎ (((command : Command) → LineSays line command → ⊥) × (answer ≡ Some (to_no_command line)) × (new ≡ old))
