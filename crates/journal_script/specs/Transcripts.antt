-- The output of a script: for each line of the input its own answer, in order.
use Rattle.std.specs.Prelude.{ℕ, ◌≡◌, ◌⊎◌, ◌<◌, Bool, true, false, ◌||◌, List, [], ◌∷◌, length, Option, Some, None, IfSome, Result, Ok, Err}
use Rattle.std.specs.List.{flat_map, AllByRecursion}
use Rattle.std.specs.Io.KnownBytes.{Keeps, Appends}
use Rattle.std.specs.Io.BufRead.{drop_through}
use Rattle.std.specs.declared.ops.ControlFlow.{ControlFlow}
use Rattle.std.specs.declared.ops.ControlFlow.TheVariants.{Continue, Break}
use Rattle.journal_world.specs.Files.{files}
use Rattle.journal_script.specs.declared.answer.Answer.{Answer}
use Rattle.journal_script.specs.declared.answer.Answer.TheVariants as answers
use Rattle.journal_command.specs.declared.command.Choice.{Choice}
use Rattle.journal_command.specs.declared.command.Command.TheVariants as commands
use Rattle.journal_world.specs.declared.refusal.Refusal.{Refusal}
use Rattle.journal_disk.specs.Disks.{Past, DiskState}
use Rattle.journal_disk.specs.MemDisks.{MemState}
use Rattle.journal_parts.specs.Openings.{IsOpenRefusal}
use Rattle.journal_script.specs.declared.ending.Crash.{Crash}
use Rattle.journal_script.specs.declared.script.Next.{Next}
use Rattle.journal_script.specs.declared.script.Next.TheVariants as nexts
use Rattle.journal_script.specs.declared.script_fault.ScriptFault.{ScriptFault}
use Rattle.journal_script.specs.declared.mounted.Opening.{Opening}
use Rattle.journal_script.specs.declared.mounted.Opening.TheVariants as openings
use Rattle.journal_script.specs.Answers.{answer_line, Refuses}
use Rattle.journal_script.specs.Clients.{ClientState, IsRefused, AnswersLine as AnswersUp}
use Rattle.journal_script.specs.Downs.{AnswersDown}
use Rattle.journal_script.specs.Endings.{told_of, IsWhole, IsToMend}
use Rattle.journal_script.specs.Lost.{AnswersLost}
use Rattle.journal_command.specs.Commands.{LineSays}
use Rattle.journal_command.specs.Lines.{first_line, kept, TakesLine}

-- The view of a console in contracts: the bytes that are left of the input, the line that was read
-- last, and whether some line was bad
pub record ConsoleState : Type 0 where
  pub left : Option (List ℕ)
  pub line : List ℕ
  pub bad : Bool

-- The same, and the bytes that were printed
pub record Streams : Type 0 where
  pub left : Option (List ℕ)
  pub line : List ℕ
  pub bad : Bool
  pub held : Option (List ℕ)

abbrev pub streams : ConsoleState → Option (List ℕ) → Streams
streams c held = record { left = c.left; line = c.line; bad = c.bad; held = held }

-- a journal over some disk replies so to the line, in some state of its client
abbrev pub RepliesUp : List ℕ → ControlFlow Crash Answer → Type 0
RepliesUp line reply = (blocks : ℕ) × (old : ClientState) × (new : ClientState) × AnswersUp (files blocks) old line reply new

-- the line opens the disk, if anything does
abbrev pub IsOpening : List ℕ → Type 0
IsOpening line = LineSays line commands.Open ⊎ ((choice : Choice) × LineSays line (commands.Crash choice))

-- the opening of some disk ends so
abbrev pub IsOpened : Answer → Type 0
IsOpened answers.Opened = Unit {0}
IsOpened answer = (old : DiskState) × (new : DiskState) × IsRefused (IsOpenRefusal (λ _. Unit {0}) old new) answer

-- The line is answered so: by a journal; by a crash that opens no disk; by a disk that is down; by
-- what comes of an opening; or by a disk of which writes were lost
abbrev pub IsAnswerTo : List ℕ → Answer → Type 0
IsAnswerTo line answer =
    RepliesUp line (Continue answer)
    ⊎ (((crash : Crash) × RepliesUp line (Break crash) × (told_of crash.ending ≡ Some answer))
    ⊎ (((old : Past) × (new : Past) × AnswersDown old line (Some answer) new)
    ⊎ ((IsOpening line × IsOpened answer)
    ⊎ ((disk : MemState) × (next : Next) × AnswersLost disk line (Some answer) next))))

-- A line, and what it was answered
pub record Turn : Type 0 where
  pub line : List ℕ
  pub answer : Answer

abbrev pub IsTurn : Turn → Type 0
IsTurn t = IsAnswerTo t.line t.answer

abbrev pub printed : Turn → List ℕ
printed t = answer_line t.answer

-- the answer is `bad line`
abbrev pub is_bad : Answer → Bool
is_bad answers.BadLine = true
is_bad answer = false

-- some line was bad
abbrev pub some_bad : List Turn → Bool
some_bad [] = false
some_bad (t ∷ ts) = is_bad t.answer || some_bad ts

-- the lines of the turns are read of xs, one after another, and ys is left
abbrev pub Consists : List ℕ → List Turn → List ℕ → Type 0
Consists xs [] ys = ys ≡ xs
Consists xs (t ∷ ts) ys = (0 < length xs) × (t.line ≡ kept (first_line xs)) × Consists (drop_through 10 xs) ts ys

-- Lines were read, and each was answered, in order
pub record Talks (old new : Streams) : Type 0 where
  pub turns : List Turn
  pub answered : AllByRecursion IsTurn turns
  pub read : IfSome old.left (λ xs. (ys : List ℕ) × (new.left ≡ Some ys) × Consists xs turns ys)
  pub printed : Appends old.held new.held (flat_map printed turns)
  pub bad : new.bad ≡ (old.bad || some_bad turns)

-- A line was read, and nothing printed
pub record TakesOneLine (old new : Streams) : Type 0 where
  pub read : IfSome old.left (λ xs. TakesLine xs new.line new.left)
  pub quiet : Keeps old.held new.held
  pub bad : new.bad ≡ old.bad

-- A line was read, or there was none any more, and nothing printed
abbrev pub TakesLineOrEnd : Streams → Streams → Bool → Type 0
TakesLineOrEnd old new true = TakesOneLine old new
TakesLineOrEnd old new false = IfSome old.left (λ xs. (xs ≡ []) × (new.left ≡ Some [])) × Keeps old.held new.held × (new.bad ≡ old.bad)

-- The answer was printed, and nothing read
pub record Prints (answer : Answer) (old new : Streams) : Type 0 where
  pub left : new.left ≡ old.left
  pub line : new.line ≡ old.line
  pub printed : Appends old.held new.held (answer_line answer)
  pub bad : new.bad ≡ (old.bad || is_bad answer)

-- The line that was read last was answered
pub record AnswersLastLine (old new : Streams) : Type 0 where
  pub answer : Answer
  pub answered : IsAnswerTo old.line answer
  pub prints : Prints answer old new

-- The output gained the answers of all lines of the input, in order, of which some were bad or none
pub record IsTranscript (left held new : Option (List ℕ)) (bad : Bool) : Type 0 where
  pub turns : List Turn
  pub answered : AllByRecursion IsTurn turns
  pub read : IfSome left (λ xs. Consists xs turns [])
  pub printed : Appends held new (flat_map printed turns)
  pub bad_lines : bad ≡ some_bad turns

-- A script came to its end, with bad lines or with none, or it was given up
abbrev pub Runs : Option (List ℕ) → Option (List ℕ) → Option (List ℕ) → Result Bool ScriptFault → Type 0
Runs left held new (Ok bad) = IsTranscript left held new bad
Runs left held new (Err stop) = Unit {0}

-- All lines were read and answered
abbrev pub TalksToTheEnd : Streams → Streams → Type 0
TalksToTheEnd old new = Talks old new × IfSome old.left (λ _. new.left ≡ Some [])

-- All lines that were read were answered, but the last, which opens the disk
abbrev pub AsksOpening : Streams → Streams → Type 0
AsksOpening old new = (mid : Streams) × Talks old mid × TakesOneLine mid new × IsOpening new.line

-- what comes next, and what was read and printed before
abbrev pub ComesTo : Next → Streams → Streams → Type 0
ComesTo (nexts.Open disk) old new = IsWhole disk.past × AsksOpening old new
ComesTo (nexts.Down disk) old new = IsWhole disk.past × Talks old new
ComesTo (nexts.Lost disk) old new = IsToMend disk.past × Talks old new
ComesTo nexts.End old new = TalksToTheEnd old new

-- the same, by what the line is answered that ended the journal
abbrev pub ComesToBy : Option Answer → Streams → Streams → Type 0
ComesToBy None old new = AsksOpening old new
ComesToBy (Some answer) old new = Talks old new

abbrev pub ComesToCrash : Option Crash → Streams → Streams → Type 0
ComesToCrash (Some crash) old new = ComesToBy (told_of crash.ending) old new
ComesToCrash None old new = TalksToTheEnd old new

-- the line that asked for an opening, where one did, was told of it
abbrev pub TellsOpening : Opening → Streams → Streams → Type 0
TellsOpening openings.First old new = new ≡ old
TellsOpening openings.Asked old new = Prints answers.Opened old new

-- the line that ended the journal was told so, unless what comes of an opening is to tell it
abbrev pub TellsBy : Option Answer → Streams → Streams → Type 0
TellsBy None old new = new ≡ old
TellsBy (Some answer) old new = Prints answer old new

abbrev pub TellsEnd : Crash → Streams → Streams → Type 0
TellsEnd crash old new = TellsBy (told_of crash.ending) old new

-- it was told so, and then what was read and printed until the journal ended
abbrev pub OpensToCrash : Opening → Option Crash → Streams → Streams → Type 0
OpensToCrash opening crash old new = (mid : Streams) × TellsOpening opening old mid × ComesToCrash crash mid new

-- the line that asked for an opening was told why it was refused, and the disk is down
abbrev pub RefusesOpening : {C : Type 0} → Opening → Refusal C → MemState → Streams → Streams → Next → Type 0
RefusesOpening openings.First why disk old new next = ⊥
RefusesOpening openings.Asked why disk old new next = (next ≡ nexts.Down disk) × ((answer : Answer) × Refuses why answer × Prints answer old new)

-- the same from an opening on: the line that asked for it, where one did, is answered first
abbrev pub Opens : Opening → Streams → Streams → Next → Type 0
Opens openings.First old new next = ComesTo next old new
Opens openings.Asked old new next = IsOpening old.line → (mid : Streams) × AnswersLastLine old mid × ComesTo next mid new
