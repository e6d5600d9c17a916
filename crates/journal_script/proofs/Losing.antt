-- Lines to a disk of which writes were lost, and what is left of a disk.
use Rattle.std.proofs.Common.{◌≡◌, ◌≤◌, inl, inr, ℕ, List, Option, Some, None, refl, sym, ap, subst, ◌∙◌}
use Rattle.std.specs.Prelude.{IsTrue}
use Rattle.journal_world.specs.declared.layout.TheConstants.{MIN_BLOCKS}
use Rattle.journal_world.specs.declared.refusal.Refusal.{Refusal}
use Rattle.journal_world.specs.declared.refusal.Refusal.TheVariants.{NoMemory, DeviceFailed, BadLog}
use Rattle.journal_block.specs.Block.{Bytes}
use Rattle.journal_disk.specs.Disks.{Past, DiskState, IsSettled, read_of}
use Rattle.journal_disk.specs.Images.{IsImage, IsRewritten}
use Rattle.journal_disk.specs.Laws.{settled_reads}
use Rattle.journal_disk.specs.MemDisks.{MemState, disk_from}
use Rattle.journal_circ.specs.Ring.{IsOpenRefusal}
use Rattle.journal_circ.specs.MendingLaws.{mendable_after_loss, mendable_after_rewrite}
use Rattle.journal_command.specs.declared.command.Choice.{Choice}
use Rattle.journal_command.specs.declared.command.Command.{Command}
use Rattle.journal_command.specs.declared.command.Command.TheVariants as commands
use Rattle.journal_command.specs.Commands.{LineSays}
use Rattle.journal_script.specs.declared.answer.Answer.{Answer}
use Rattle.journal_script.specs.declared.answer.Answer.TheVariants as answers
use Rattle.journal_script.specs.declared.ending.Ending.{Ending}
use Rattle.journal_script.specs.declared.ending.Ending.TheVariants as endings
use Rattle.journal_script.specs.declared.script.Next.{Next}
use Rattle.journal_script.specs.declared.script.Next.TheVariants as nexts
use Rattle.journal_script.specs.Downs.{ReadsAsBefore, IsMendRefusal}
use Rattle.journal_script.specs.Endings.{IsAnswered, IsToMend, LeavesBy, told_of}
use Rattle.journal_script.specs.Lost.{AnswersLost, ObeysLost, Ends}
use Rattle.journal_script.specs.Transcripts.{Streams, IsAnswerTo, IsOpening, TakesOneLine, Prints, ComesTo}
use Rattle.journal_script.proofs.Poking.{begun_first}
use Rattle.journal_script.proofs.Replying.{asks_at, comes_after}
use Rattle.journal_script.proofs.Talking.{talks_none, talks_line}

-- ---- lines

-- no image is chosen for an opening
ends_untold : (disk : MemState) (choice : Choice) (ending : Ending) (next : Next) → told_of ending ≡ Some answers.Done → Ends disk choice ending None next → ⊥
ends_untold disk choice ending next tells (inl (crash, chosen, is, told, leaves)) = cc (told, tells)
ends_untold disk choice ending next tells (inr stays) = cc stays.0

obeys_opening : (disk : MemState) (command : Command) (line : List ℕ) (next : Next) → LineSays line command → ObeysLost disk command None next → IsOpening line
obeys_opening disk (commands.Crash choice) line next says obeys = inr (choice, says)
obeys_opening disk (commands.Disk block at len) line next says obeys = cc obeys.2.0
obeys_opening disk commands.Pend line next says obeys = cc obeys.2.0
obeys_opening disk (commands.Poke block at v) line next says obeys = cc obeys.2.0
obeys_opening disk commands.Mend line next says obeys = absurd obeys
obeys_opening disk (commands.Down choice) line next says obeys = absurd (ends_untold disk choice endings.Down next refl obeys)
obeys_opening disk (commands.Lose choice) line next says obeys = absurd (ends_untold disk choice endings.Loses next refl obeys)
obeys_opening disk command line next says obeys = cc obeys.0

opening : (disk : MemState) (line : List ℕ) (next : Next) → AnswersLost disk line None next → IsOpening line
opening disk line next (inl (command, says, obeys)) = obeys_opening disk command line next says obeys
opening disk line next (inr (none, stays)) = cc stays.0

-- the line was answered
pub lost_answered : (a b mid c : Streams) (disk : MemState) (line : List ℕ) (told : Option Answer) (answer : Answer) (next : Next) → TakesOneLine a b → mid ≡ b → line ≡ mid.line
    → AnswersLost disk line told next → IsAnswered told next → told ≡ Some answer → Prints answer mid c → ComesTo next a c
lost_answered a b mid c disk line told answer next asks same is answers ready tells prints =
    comes_after (Some answer) next a c (subst (λ (t : Option Answer). IsAnswered t next) tells ready)
    (talks_line a mid c (asks_at a b mid asks same) (record {
      answer = answer;
      answered = subst (λ l. IsAnswerTo l answer) is (inr (inr (inr (inr (disk, next, subst (λ (t : Option Answer). AnswersLost disk line t next) tells answers)))));
      prints = prints;
    }))

-- the line opens the disk
pub lost_asks : (a b mid : Streams) (disk : MemState) (line : List ℕ) (told : Option Answer) (next : Next) → TakesOneLine a b → mid ≡ b → line ≡ mid.line
    → AnswersLost disk line told next → IsAnswered told next → told ≡ None → ComesTo next a mid
lost_asks a b mid disk line told next asks same is answers ready opens =
    comes_after None next a mid (subst (λ (t : Option Answer). IsAnswered t next) opens ready)
    (a, talks_none a, asks_at a b mid asks same, subst IsOpening is (opening disk line next (subst (λ (t : Option Answer). AnswersLost disk line t next) opens answers)))

-- ---- what is left

-- it is as what comes next wants it
pub leaves_ready : (ending : Ending) (numbers : List ℕ) (disk : MemState) (next : Next) → IsToMend disk.past → LeavesBy ending numbers disk next → IsAnswered (told_of ending) next
leaves_ready endings.Down numbers disk next (enough, mendable) is = subst (λ (n : Next). IsAnswered (Some answers.Done) n) (sym is) (enough, λ b lt. (refl, refl))
leaves_ready endings.Opens numbers disk next (enough, mendable) is = subst (λ (n : Next). IsAnswered None n) (sym is) (enough, λ b lt. (refl, refl))
leaves_ready endings.Loses numbers disk (nexts.Lost left) (enough, mendable) loses = (
  subst (λ (n : ℕ). MIN_BLOCKS ≤ n) (sym (ap (λ (p : Past). p.size) loses.loses.is)) enough,
  mendable_after_loss disk.past left.past loses.loses mendable,
)
leaves_ready endings.Loses numbers disk next to_mend loses = absurd loses

-- the same of an answer that is known
pub ended_ready : (ending : Ending) (numbers : List ℕ) (disk : MemState) (told : Option Answer) (next : Next) → IsToMend disk.past → LeavesBy ending numbers disk next → told ≡ told_of ending → IsAnswered told next
ended_ready ending numbers disk told next to_mend leaves tells = subst (λ (t : Option Answer). IsAnswered t next) (sym tells) (leaves_ready ending numbers disk next to_mend leaves)

-- ---- a mending

-- a disk of which a mending was refused
pub to_mend_again : (old new : Past) → IsRewritten old new → IsToMend old → IsToMend new
to_mend_again old new rewritten (enough, mendable) = (
  subst (λ (n : ℕ). MIN_BLOCKS ≤ n) (sym rewritten.size) enough,
  mendable_after_rewrite old new rewritten mendable,
)

-- why it is refused
pub mend_refused : (old new : DiskState) (why : Refusal Unit) → IsTrue old.honest → IsOpenRefusal old new why → IsMendRefusal old.past why
mend_refused old new NoMemory honest refusal = inl refl
mend_refused old new (DeviceFailed cause) honest refusal = inr (inl refl)
mend_refused old new BadLog honest refusal = inr (inr (refl, refusal honest))
mend_refused old new why honest refusal = absurd refusal

-- a disk of which nothing is lost reads as before, once writes of what it read were left by a crash
pub mended_reads : (old mid : Past) (new : MemState) (image : List Bytes) → IsSettled old → IsRewritten old mid
    → IsImage mid new.past.first → new ≡ disk_from mid.size image → ReadsAsBefore old new.past
mended_reads old mid new image settled rewritten left anew = record {
  size = ap (λ (m : MemState). m.past.size) anew ∙ rewritten.size;
  reads = λ b lt. ap (λ (p : Past). read_of p b) (begun_first new mid.size image anew)
      ∙ settled_reads old settled new.past.first (rewritten.images new.past.first left) b lt;
}
