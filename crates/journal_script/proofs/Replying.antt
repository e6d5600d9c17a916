-- Replies to commands and lines, from what the calls behind them answer.
use Rattle.std.proofs.Common.{◌≡◌, ◌⊎◌, inl, inr, ℕ, true, false, List, [], Option, Some, None, Result, Ok, Err, refl, sym, ap, subst}
use Rattle.std.specs.Prelude.{IfOk, IfErr}
use native.Mathlib.Omega.{arith}
use Rattle.std.specs.declared.ops.ControlFlow.{ControlFlow}
use Rattle.std.specs.declared.ops.ControlFlow.TheVariants.{Continue, Break}
use Rattle.journal_world.specs.declared.refusal.Refusal.{Refusal}
use Rattle.journal_world.specs.declared.refusal.Refusal.TheVariants.{NoMemory}
use Rattle.journal_world.specs.Addresses.{Shape}
use Rattle.journal_world.specs.Files.{files}
use Rattle.journal_command.specs.declared.command.Command.{Command}
use Rattle.journal_command.specs.declared.command.Command.TheVariants as commands
use Rattle.journal_script.specs.declared.answer.Answer.{Answer}
use Rattle.journal_script.specs.declared.answer.Answer.TheVariants as answers
use Rattle.journal_script.specs.declared.ending.Crash.{Crash}
use Rattle.journal_script.specs.declared.ending.Ending.{Ending}
use Rattle.journal_script.specs.declared.ending.Ending.TheVariants as endings
use Rattle.journal_disk.specs.Disks.{Past, DiskState}
use Rattle.journal_parts.specs.Openings.{IsOpenRefusal}
use Rattle.journal_disk.specs.MemDisks.{MemState, state_of, disk_from}
use Rattle.journal_script.specs.declared.script.Next.{Next}
use Rattle.journal_script.specs.declared.script.Next.TheVariants as nexts
use Rattle.journal_script.specs.declared.mounted.Opening.{Opening}
use Rattle.journal_script.specs.declared.mounted.Opening.TheVariants as openings
use Rattle.journal_script.proofs.Talking.{talks_none, talks_more, leaves_join, leaves_opened}
use Rattle.journal_script.specs.Downs.{ObeysDown, AnswersDown}
use Rattle.journal_script.specs.Endings.{IsAnswered, IsWhole, told_of}
use Rattle.journal_script.specs.Answers.{Refuses}
use Rattle.journal_command.specs.Commands.{LineSays}
use Rattle.journal_script.specs.Transcripts.{Streams, IsAnswerTo, IsOpening, IsOpened, Talks, TakesOneLine, AsksOpening, Prints, ComesTo, ComesToBy, ComesToCrash, Opens, OpensToCrash, RefusesOpening, TellsBy}
use Rattle.journal_memory.specs.Causes.{CauseState}
use Rattle.journal_script.specs.Clients.{ClientState, IsRefusal, IsRefused, GivesAnswer, Replies, AnswersLine, FlowGoesOn}

-- ---- replies of a journal

-- what a call gave or was refused goes on
pub replies_plain : (layout : Shape) (old : ClientState) (command : Command) (r : Result Answer (Refusal CauseState)) (flow : ControlFlow Crash Answer)
    → ((answer : Answer) → GivesAnswer layout command answer ⊎ IsRefused (IsRefusal command) answer → Replies layout old command (Continue answer) old)
    → IfOk r (GivesAnswer layout command) → IfErr r (IsRefusal command) → FlowGoesOn r flow → Replies layout old command flow old
replies_plain layout old command (Ok answer) flow replies gives refused goes =
    subst (λ (f : ControlFlow Crash Answer). Replies layout old command f old) (sym goes) (replies answer (inl gives))
replies_plain layout old command (Err why) flow replies gives refused goes =
    subst (λ (f : ControlFlow Crash Answer). Replies layout old command f old) (sym goes.2) (replies goes.0 (inr (why, refused, goes.1)))

-- what opens the disk is a crash that is answered by the opening
untold_opens : (ending : Ending) → told_of ending ≡ None → ending ≡ endings.Opens
untold_opens endings.Opens untold = refl
untold_opens endings.Down untold = cc untold
untold_opens endings.Loses untold = cc untold

-- a crash that opens the disk is one that the line names
reply_opens : (layout : Shape) (old new : ClientState) (line : List ℕ) (crash : Crash) → AnswersLine layout old line (Break crash) new → told_of crash.ending ≡ None → IsOpening line
reply_opens layout old new line crash (inl (commands.Down choice, says, replies)) opens = cc (replies.1, untold_opens crash.ending opens)
reply_opens layout old new line crash (inl (commands.Crash choice, says, replies)) opens = inr (choice, says)
reply_opens layout old new line crash (inl (commands.Lose choice, says, replies)) opens = cc (replies.1, untold_opens crash.ending opens)
reply_opens layout old new line crash (inl (command, says, replies)) opens = absurd replies
reply_opens layout old new line crash (inr (none, told, same)) opens = cc told

-- ---- a line that opens a disk

-- it was opened, and lines were answered
opens_up : (opening : Opening) (crash : Option Crash) (a c : Streams) (next : Next) → OpensToCrash opening crash a c → ((old new : Streams) → ComesToCrash crash old new → ComesTo next old new)
    → Opens opening a c next
opens_up openings.First crash a c next (b, same, comes) leaves = subst (λ (s : Streams). ComesTo next s c) same (leaves b c comes)
opens_up openings.Asked crash a c next (b, told, comes) leaves = λ opens.
    (b, record { answer = answers.Opened; answered = inr (inr (inr (inl (opens, tt)))); prints = told }, leaves b c comes)

pub opens_up_ok : {E : Type 0} (r : Result Next E) (opening : Opening) (crash : Option Crash) (a c : Streams) → OpensToCrash opening crash a c → IfOk r (λ next. (old new : Streams) → ComesToCrash crash old new → ComesTo next old new)
    → IfOk r (Opens opening a c)
opens_up_ok (Ok next) opening crash a c told leaves = opens_up opening crash a c next told leaves
opens_up_ok (Err stop) opening crash a c told leaves = tt

told_refused : (line : List ℕ) (before after : DiskState) (why : Refusal CauseState) (answer : Answer) → IsOpenRefusal (λ _. Unit {0}) before after why → Refuses why answer → IsOpened answer
told_refused line before after why (answers.Refused told) refusal refuses = (before, after, (why, refusal, refuses))
told_refused line before after why answer refusal refuses = absurd refuses

-- some disk is opened no further where memory is refused
told_no_memory : (C : Type 0) (answer : Answer) → Refuses {C = C} NoMemory answer → IsOpened answer
told_no_memory C (answers.Refused told) refuses = (state_of (disk_from 532 []), state_of (disk_from 532 []), (NoMemory, (omega arith, omega arith), refuses))
told_no_memory C answer refuses = absurd refuses

-- it was refused
opens_refused : {C : Type 0} (opening : Opening) (a b : Streams) (next : Next) (disk : MemState) (why : Refusal C) → RefusesOpening opening why disk a b next
    → ((answer : Answer) → Refuses why answer → IsOpened answer) → IsWhole disk.past → Opens opening a b next
opens_refused openings.First a b next disk why refused told whole = absurd refused
opens_refused openings.Asked a b next disk why (is, (answer, refuses, prints)) told whole = λ opens. (
  b,
  record { answer = answer; answered = inr (inr (inr (inl (opens, told answer refuses)))); prints = prints },
  subst (λ (n : Next). ComesTo n b b) (sym is) (whole, talks_none b),
)

pub opens_refused_ok : {E : Type 0} (r : Result Next E) (opening : Opening) (a b : Streams) (disk : MemState) (before after : DiskState) (why : Refusal CauseState) → IfOk r (RefusesOpening opening why disk a b)
    → IsOpenRefusal (λ _. Unit {0}) before after why → IsWhole disk.past → IfOk r (Opens opening a b)
opens_refused_ok (Ok next) opening a b disk before after why refused refusal whole =
    opens_refused opening a b next disk why refused (λ answer refuses. told_refused a.line before after why answer refusal refuses) whole
opens_refused_ok (Err stop) opening a b disk before after why refused refusal whole = tt

-- memory was refused before it was opened
pub opens_without_memory_ok : {E : Type 0} (C : Type 0) (r : Result Next E) (opening : Opening) (a b : Streams) (disk : MemState) → IfOk r (RefusesOpening {C = C} opening NoMemory disk a b) → IsWhole disk.past
    → IfOk r (Opens opening a b)
opens_without_memory_ok C (Ok next) opening a b disk refused whole = opens_refused opening a b next disk NoMemory refused (told_no_memory C) whole
opens_without_memory_ok C (Err stop) opening a b disk refused whole = tt

-- ---- from a reply to the streams, where the console's room was used in between

pub asks_at : (b c mid : Streams) → TakesOneLine b c → mid ≡ c → TakesOneLine b mid
asks_at b c mid asks same = subst (λ (s : Streams). TakesOneLine b s) (sym same) asks

-- the line was answered
pub goes_on : (a b c mid d : Streams) (layout : Shape) (laid : (blocks : ℕ) × (layout ≡ files blocks)) (old new : ClientState) (line : List ℕ) (reply : ControlFlow Crash Answer) (answer : Answer) → Talks a b → TakesOneLine b c → mid ≡ c → line ≡ mid.line
    → AnswersLine layout old line reply new → reply ≡ Continue answer → Prints answer mid d → Talks a d
goes_on a b c mid d layout laid old new line reply answer talks asks same is answers goes prints =
    let replied = subst (λ (f : ControlFlow Crash Answer). AnswersLine (files laid.0) old line f new) goes (subst (λ (s : Shape). AnswersLine s old line reply new) laid.1 answers) in
    talks_more a b mid d talks (asks_at b c mid asks same)
    (record { answer = answer; answered = subst (λ l. IsAnswerTo l answer) is (inl (laid.0, old, new, replied)); prints = prints })

-- the line ends the journal
pub ends : (a b c mid d : Streams) (layout : Shape) (laid : (blocks : ℕ) × (layout ≡ files blocks)) (old new : ClientState) (line : List ℕ) (reply : ControlFlow Crash Answer) (crash : Crash) → Talks a b → TakesOneLine b c → mid ≡ c → line ≡ mid.line
    → AnswersLine layout old line reply new → reply ≡ Break crash → TellsBy (told_of crash.ending) mid d → ComesToBy (told_of crash.ending) a d
ends a b c mid d layout laid old new line reply crash talks asks same is replied breaks = by_case (told_of crash.ending) refl
  where
    broken : AnswersLine (files laid.0) old line (Break crash) new
    broken = subst (λ (f : ControlFlow Crash Answer). AnswersLine (files laid.0) old line f new) breaks (subst (λ (s : Shape). AnswersLine s old line reply new) laid.1 replied)

    by_case : (told : Option Answer) → told_of crash.ending ≡ told → TellsBy told mid d → ComesToBy told a d
    by_case None opens quiet =
        subst (λ (s : Streams). AsksOpening a s) (sym quiet) (b, talks, asks_at b c mid asks same, subst IsOpening is (reply_opens (files laid.0) old new line crash broken opens))
    by_case (Some answer) tells prints = talks_more a b mid d talks (asks_at b c mid asks same)
        (record { answer = answer; answered = subst (λ l. IsAnswerTo l answer) is (inr (inl (crash, (laid.0, old, new, broken), tells))); prints = prints })

-- what is left of the disk is what comes next
pub comes_after : (told : Option Answer) (next : Next) (a b : Streams) → IsAnswered told next → ComesToBy told a b → ComesTo next a b
comes_after None (nexts.Open disk) a b ready comes = (ready, comes)
comes_after None (nexts.Down disk) a b ready comes = absurd ready
comes_after None (nexts.Lost disk) a b ready comes = absurd ready
comes_after None nexts.End a b ready comes = absurd ready
comes_after (Some answer) (nexts.Open disk) a b ready comes = absurd ready
comes_after (Some answer) (nexts.Down disk) a b ready comes = (ready, comes)
comes_after (Some answer) (nexts.Lost disk) a b ready comes = (ready, comes)
comes_after (Some answer) nexts.End a b ready comes = absurd ready

-- ---- a disk that is down

down_opens : (old new : Past) (command : Command) (line : List ℕ) → LineSays line command → ObeysDown old command None new → IsOpening line
down_opens old new commands.Open line says obeys = inl says
down_opens old new command line says obeys = cc obeys.0

-- the line was answered
pub down_goes_on : (a b c mid d : Streams) (old new : Past) (line : List ℕ) (told : Option Answer) (answer : Answer) → Talks a b → TakesOneLine b c → mid ≡ c → line ≡ mid.line
    → AnswersDown old line told new → told ≡ Some answer → Prints answer mid d → Talks a d
down_goes_on a b c mid d old new line told answer talks asks same is answers goes prints =
    talks_more a b mid d talks (asks_at b c mid asks same) (record {
      answer = answer;
      answered = subst (λ l. IsAnswerTo l answer) is (inr (inr (inl (old, new, subst (λ (t : Option Answer). AnswersDown old line t new) goes answers))));
      prints = prints;
    })

-- the line opens the disk
pub down_asks : (a b c mid : Streams) (old new : Past) (line : List ℕ) (told : Option Answer) → Talks a b → TakesOneLine b c → mid ≡ c → line ≡ mid.line
    → AnswersDown old line told new → told ≡ None → AsksOpening a mid
down_asks a b c mid old new line told talks asks same is answers opens =
    (b, talks, asks_at b c mid asks same, subst IsOpening is (asked (subst (λ (t : Option Answer). AnswersDown old line t new) opens answers)))
  where
    asked : AnswersDown old line None new → IsOpening line
    asked (inl (command, says, obeys)) = down_opens old new command line says obeys
    asked (inr (none, told, same)) = cc told

-- ---- from line to line

-- a line asked for the opening, and lines were answered from there on
pub leaves_open : (a b c : Streams) (old next : Next) (disk : MemState) → old ≡ nexts.Open disk → ComesTo old a b → Opens openings.Asked b c next → ComesTo next a c
leaves_open a b c old next disk is before opens =
    let asks = (subst (λ (n : Next). ComesTo n a b) is before).1 in
    let more = opens asks.3 in
    leaves_opened next a b more.0 c asks more.1 more.2

-- lines were answered while the disk was down
pub leaves_down : (a b c : Streams) (old next : Next) (disk : MemState) → old ≡ nexts.Down disk → ComesTo old a b → ComesTo next b c → ComesTo next a c
leaves_down a b c old next disk is before more = leaves_join next a b c (subst (λ (n : Next). ComesTo n a b) is before).1 more

-- a line was answered while writes of it were lost
pub leaves_lost : (a b c : Streams) (old next : Next) (disk : MemState) → old ≡ nexts.Lost disk → ComesTo old a b → ComesTo next b c → ComesTo next a c
leaves_lost a b c old next disk is before more = leaves_join next a b c (subst (λ (n : Next). ComesTo n a b) is before).1 more
