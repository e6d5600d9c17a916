-- The effect of a command on a disk of which writes were lost, and its answer.
use Rattle.std.specs.Prelude.{ℕ, ◌≡◌, ◌⊎◌, ◌<◌, List, Option, Some, None}
use Rattle.journal_world.specs.declared.refusal.Refusal.{Refusal}
use Rattle.journal_world.specs.declared.refusal.Refusal.TheVariants.{NoMemory, DeviceFailed, BadLog}
use Rattle.journal_disk.specs.Disks.{Past}
use Rattle.journal_disk.specs.Images.{IsRewritten, reading}
use Rattle.journal_disk.specs.MemDisks.{MemState, pending_blocks}
use Rattle.journal_circ.specs.Log.{IsWellFormed}
use Rattle.journal_command.specs.declared.command.Choice.{Choice}
use Rattle.journal_command.specs.declared.command.Command.{Command}
use Rattle.journal_command.specs.declared.command.Command.TheVariants as commands
use Rattle.journal_command.specs.Commands.{LineSays}
use Rattle.journal_script.specs.declared.answer.Answer.{Answer}
use Rattle.journal_script.specs.declared.answer.Answer.TheVariants as answers
use Rattle.journal_script.specs.declared.ending.Crash.{Crash}
use Rattle.journal_script.specs.declared.ending.Ending.{Ending}
use Rattle.journal_script.specs.declared.ending.Ending.TheVariants as endings
use Rattle.journal_script.specs.declared.script.Next.{Next}
use Rattle.journal_script.specs.declared.script.Next.TheVariants as nexts
use Rattle.journal_script.specs.Answers.{to_no_command}
use Rattle.journal_script.specs.Endings.{IsChosen, told_of, Leaves}
use Rattle.journal_script.specs.Downs.{ShowsBytes, IsMendRefusal}

-- the line was answered so, and the disk is as it was
abbrev pub Stays : MemState → Answer → Option Answer → Next → Type 0
Stays disk answer told next = (told ≡ Some answer) × (next ≡ nexts.Lost disk)

-- the blocks with pending writes are shown
abbrev pub ShowsPending : MemState → Answer → Type 0
ShowsPending disk (answers.Pending pending) = pending.items ≡ pending_blocks disk.past
ShowsPending disk (answers.Refused why) = why ≡ NoMemory
ShowsPending disk _ = ⊥

-- The disk is mended: it reads as it did, and is down. Or that is refused, and it reads as it did
abbrev pub Mends : MemState → Option Answer → Next → Type 0
Mends disk (Some answers.Done) (nexts.Down left) = IsRewritten disk.past left.past
Mends disk (Some (answers.Refused why)) (nexts.Lost left) = IsMendRefusal disk.past why × IsRewritten disk.past left.past
Mends disk told next = ⊥

-- The disk is left by the image that the choice names, or memory for that is refused
abbrev pub Ends : MemState → Choice → Ending → Option Answer → Next → Type 0
Ends disk choice ending told next =
    ((crash : Crash) × IsChosen choice crash.numbers.items × (crash.ending ≡ ending) × (told ≡ told_of ending) × Leaves crash disk next)
    ⊎ Stays disk (answers.Refused NoMemory) told next

-- why nothing is poked: writes of the disk are lost, or it lacks the block
abbrev pub IsNotPoked : MemState → ℕ → Answer → Type 0
IsNotPoked disk block answers.Lost = block < disk.past.size
IsNotPoked disk block answers.BadLine = block < disk.past.size → ⊥
IsNotPoked disk block _ = ⊥

-- The answer to a command, and the state after it. `None` says that the disk is opened
abbrev pub ObeysLost : MemState → Command → Option Answer → Next → Type 0
ObeysLost disk (commands.Disk block at len) told next = (answer : Answer) × ShowsBytes disk.past block at len answer × Stays disk answer told next
ObeysLost disk commands.Pend told next = (answer : Answer) × ShowsPending disk answer × Stays disk answer told next
ObeysLost disk (commands.Fail call) told next = Stays (record disk { fails_in = call }) answers.Done told next
ObeysLost disk commands.Mend told next = Mends disk told next
ObeysLost disk (commands.Down choice) told next = Ends disk choice endings.Down told next
ObeysLost disk (commands.Crash choice) told next = Ends disk choice endings.Opens told next
ObeysLost disk (commands.Lose choice) told next = Ends disk choice endings.Loses told next
ObeysLost disk (commands.Poke block at v) told next = (answer : Answer) × IsNotPoked disk block answer × Stays disk answer told next
ObeysLost disk command told next = Stays disk answers.Lost told next

-- The line says a command, which is obeyed; or it says none, which changes nothing
abbrev pub AnswersLost : MemState → List ℕ → Option Answer → Next → Type 0
AnswersLost disk line told next =
    ((command : Command) × LineSays line command × ObeysLost disk command told next)
    ⊎ (((command : Command) → LineSays line command → ⊥) × Stays disk (to_no_command line) told next)
