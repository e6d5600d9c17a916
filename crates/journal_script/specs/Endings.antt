-- The crashes that a line asks for, and what is left of the disk.
use Rattle.std.specs.Prelude.{ℕ, ◌≡◌, ◌≤◌, ◌-◌, ◌^◌, List, [], replicate, Option, Some, None}
use Rattle.journal_world.specs.declared.layout.TheConstants.{MIN_BLOCKS}
use Rattle.journal_disk.specs.Disks.{Past, IsSettled}
use Rattle.journal_disk.specs.Images.{LosesWrites}
use Rattle.journal_disk.specs.MemDisks.{MemState, disk_from, image_of}
use Rattle.journal_circ.specs.Mending.{IsMendable}
use Rattle.journal_command.specs.declared.command.Choice.{Choice}
use Rattle.journal_command.specs.declared.command.Choice.TheVariants as choices
use Rattle.journal_script.specs.declared.answer.Answer.{Answer}
use Rattle.journal_script.specs.declared.answer.Answer.TheVariants as answers
use Rattle.journal_script.specs.declared.ending.Crash.{Crash}
use Rattle.journal_script.specs.declared.ending.Ending.{Ending}
use Rattle.journal_script.specs.declared.ending.Ending.TheVariants as endings
use Rattle.journal_script.specs.declared.script.Next.{Next}
use Rattle.journal_script.specs.declared.script.Next.TheVariants as nexts

-- The numbers choose the image: 0 for each block, the last write of each, or what the line lists
abbrev pub IsChosen : Choice → List ℕ → Type 0
IsChosen choices.Stable numbers = numbers ≡ []
IsChosen choices.Last numbers = (blocks : ℕ) × (numbers ≡ replicate blocks (2 ^ 32 - 1))
IsChosen (choices.Listed listed) numbers = numbers ≡ listed.now

-- what a line is answered that asks for this; what comes of an opening answers its own line
abbrev pub told_of : Ending → Option Answer
told_of endings.Opens = None
told_of ending = Some answers.Done

-- a disk that a journal opens: of enough blocks, and nothing is pending on it or lost of it
abbrev pub IsWhole : Past → Type 0
IsWhole p = (MIN_BLOCKS ≤ p.size) × IsSettled p

-- a disk of enough blocks of which writes were lost, and which can be mended
abbrev pub IsToMend : Past → Type 0
IsToMend p = (MIN_BLOCKS ≤ p.size) × IsMendable p

-- the line was answered, or an opening is to answer it, and the disk is as what comes next wants it
abbrev pub IsAnswered : Option Answer → Next → Type 0
IsAnswered None (nexts.Open disk) = IsWhole disk.past
IsAnswered (Some answer) (nexts.Down disk) = IsWhole disk.past
IsAnswered (Some answer) (nexts.Lost disk) = IsToMend disk.past
IsAnswered told next = ⊥

-- Writes of the disk were lost, and its device has the image that the numbers choose
pub record LosesTo (numbers : List ℕ) (old new : MemState) : Type 0 where
  pub loses : LosesWrites old.past new.past
  pub device : new.past.device ≡ image_of old.past numbers
  -- no call of it failed, or is to fail
  pub fresh : (new.failures ≡ 0) × (new.fails_in ≡ 0)

-- the disk that a crash leaves by these numbers
abbrev pub crashed : List ℕ → MemState → MemState
crashed numbers disk = disk_from disk.past.size (image_of disk.past numbers)

-- what is left of a disk, by the numbers
abbrev pub LeavesBy : Ending → List ℕ → MemState → Next → Type 0
LeavesBy endings.Down numbers disk next = next ≡ nexts.Down (crashed numbers disk)
LeavesBy endings.Opens numbers disk next = next ≡ nexts.Open (crashed numbers disk)
LeavesBy endings.Loses numbers disk (nexts.Lost left) = LosesTo numbers disk left
LeavesBy endings.Loses numbers disk next = ⊥

-- the same by a crash that a line asks for
abbrev pub Leaves : Crash → MemState → Next → Type 0
Leaves crash disk next = LeavesBy crash.ending crash.numbers.items disk next
