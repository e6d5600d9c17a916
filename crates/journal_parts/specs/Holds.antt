-- The holds of the two locks, each as one event: the answer and the effect of a hold of memory
-- alone, of the disk alone, and of both. A hold says nothing of a part that it has not locked.
use Rattle.std.specs.Prelude.{ℕ, ◌≡◌, ◌⊎◌, ◌<◌, true, false, IsTrue, List, map, All, Result, Ok, Err}
use Rattle.journal_world.specs.declared.refusal.Refusal.{Refusal}
use Rattle.journal_world.specs.Addresses.{Shape}
use Rattle.journal_world.specs.Histories.{is_trusted}
use Rattle.journal_block.specs.declared.update.Update.{Update}
use Rattle.journal_disk.specs.Images.{EveryImage}
use Rattle.journal_wal.specs.Wal.{TriesDueCall, TriesAhead, log_call}
use Rattle.journal_tail.specs.Tails.{DropsCuts}
use Rattle.journal_wal.specs.declared.step.GroupStep.{GroupStep}
use Rattle.journal_wal.specs.declared.step.InstallStep.{InstallStep}
use Rattle.journal_objlog.specs.ObjectLogs.{OnlyReads as OnlyReadsLog}
use Rattle.journal_history.specs.Tokens.{SessionState, OnlyExtends}
use Rattle.journal_parts.specs.declared.step.LogStep.{LogStep}
use Rattle.journal_memory.specs.Causes.{CauseState}
use Rattle.journal_memory.specs.Ledgers.{IsStaleRefusal}
use Rattle.journal_parts.specs.Durables.{DurableState, IsDurable, Crashes, LogAnswers, InstallAnswers, IsCallRefusal, IsInstallRefusal, LeavesLog, is_faulted, disk_of}
use Rattle.journal_memory.specs.Fetches.{FetchedState, IsFetched}
use Rattle.journal_memory.specs.Volatiles.{VolatileState, IsVolatile}
use Rattle.journal_parts.specs.Pairs.{Tied, DoesWhatIsDue, IsDueRefusal, IsUntied}
use Rattle.journal_parts.specs.Cores.{Leaves}

-- The invariant of the two parts between any two holds of their locks, whoever made them: each
-- part's own invariant, their tie, and that memory knows of no fault that did not happen. The
-- disk's part may know of one that memory does not know yet
pub record IsBetween (layout : Shape) (v : VolatileState) (d : DurableState) : Type 0 where
  pub volatile : IsVolatile layout v
  pub durable : IsDurable layout d
  pub tied : Tied v d
  pub noted : IsTrue v.faulted → IsTrue (is_faulted d)

-- ---- holds of the disk alone: each makes at most one call of the device that changes the disk

-- Blocks were read as they are logged: they are what the first commits of a front of the history
-- left
pub record FetchesBlocks (layout : Shape) (old : DurableState) (numbers : List ℕ) (f : FetchedState) (new : DurableState) : Type 0 where
  pub named : map (λ (u : Update). u.block) f.updates ≡ numbers
  pub front : f.front ≡ old.front
  pub commits : f.commits ≡ old.logged
  pub objects : IsFetched layout f
  pub fine : is_faulted old ≡ false → is_faulted new ≡ false
  pub reads : OnlyReadsLog old.objects new.objects
  pub others : new ≡ record old { objects = new.objects }
  pub kept : IsDurable layout new
  pub crash : Crashes old new

-- or the device failed
pub record RefusesFetch (layout : Shape) (old : DurableState) (why : Refusal CauseState) (new : DurableState) : Type 0 where
  pub refusal : IsCallRefusal old new why
  pub reads : OnlyReadsLog old.objects new.objects
  pub others : new ≡ record old { objects = new.objects }
  pub kept : IsDurable layout new
  pub crash : Crashes old new

abbrev pub AnswersFetch : Shape → DurableState → List ℕ → Result FetchedState (Refusal CauseState) → DurableState → Type 0
AnswersFetch layout old numbers (Ok f) new = FetchesBlocks layout old numbers f new
AnswersFetch layout old numbers (Err why) new = RefusesFetch layout old why new

-- The device call of the group in flight that was due was made, or none is in flight
pub record MakesGroupCall (layout : Shape) (old : DurableState) (step : GroupStep) (new : DurableState) : Type 0 where
  pub did : LogAnswers old step new
  pub fine : (is_faulted old ≡ false) × (is_faulted new ≡ false)
  pub kept : IsDurable layout new
  pub crash : Crashes old new

-- or the device failed, in the call that was due or before
pub record FailsGroupCall (layout : Shape) (old : DurableState) (why : Refusal CauseState) (new : DurableState) : Type 0 where
  pub refusal : IsCallRefusal old new why
  pub left : LeavesLog old new
  pub tries : TriesDueCall (log_call old.objects) (disk_of old) (disk_of new)
  pub kept : IsDurable layout new
  pub crash : Crashes old new

abbrev pub AnswersGroupCall : Shape → DurableState → Result GroupStep (Refusal CauseState) → DurableState → Type 0
AnswersGroupCall layout old (Ok step) new = MakesGroupCall layout old step new
AnswersGroupCall layout old (Err why) new = FailsGroupCall layout old why new

-- The installer's next device call was made, or nothing is logged that is not at home
pub record MakesHomeCall (layout : Shape) (old : DurableState) (step : InstallStep) (new : DurableState) : Type 0 where
  pub did : InstallAnswers old step new
  pub fine : (is_faulted old ≡ false) × (is_faulted new ≡ false)
  pub kept : IsDurable layout new
  pub crash : Crashes old new

-- or the device failed, or memory for the list of addresses was refused
pub record FailsHomeCall (layout : Shape) (old : DurableState) (why : Refusal CauseState) (new : DurableState) : Type 0 where
  pub refusal : IsInstallRefusal old new why
  pub left : LeavesLog old new
  pub tries : TriesAhead old.objects new.objects
  pub kept : IsDurable layout new
  pub crash : Crashes old new

abbrev pub AnswersHomeCall : Shape → DurableState → Result InstallStep (Refusal CauseState) → DurableState → Type 0
AnswersHomeCall layout old (Ok step) new = MakesHomeCall layout old step new
AnswersHomeCall layout old (Err why) new = FailsHomeCall layout old why new

-- ---- holds of both: no device call is made in any

-- The first was done that was due of a mark, a cut, and a mark of the rest, or none is due
pub record MarksOrCuts (layout : Shape) (v : VolatileState) (d : DurableState) (step : LogStep) (w : VolatileState) (e : DurableState) : Type 0 where
  pub did : DoesWhatIsDue v d step w e
  pub volatile : IsVolatile layout w
  pub durable : IsDurable layout e
  pub tied : Tied v d → Tied w e
  pub crash : Crashes d e

-- or that was refused, and the log on the disk may have other room in memory
pub record RefusesMarkOrCut (layout : Shape) (v : VolatileState) (d : DurableState) (why : Refusal CauseState) (w : VolatileState) (e : DurableState) : Type 0 where
  pub refusal : IsDueRefusal v d why e
  pub volatile : w ≡ v
  pub durable : IsDurable layout e
  pub tied : Tied v d → Tied w e
  pub crash : Crashes d e

abbrev pub AnswersMarkOrCut : Shape → VolatileState → DurableState → Result LogStep (Refusal CauseState) → VolatileState → DurableState → Type 0
AnswersMarkOrCut layout v d (Ok step) w e = MarksOrCuts layout v d step w e
AnswersMarkOrCut layout v d (Err why) w e = RefusesMarkOrCut layout v d why w e

-- The updates that are at home were dropped from memory, and nothing else was done. Each cut that
-- is left ends above the freed positions
pub record Trims (layout : Shape) (v : VolatileState) (d : DurableState) (upto : ℕ) (w : VolatileState) : Type 0 where
  pub drops : DropsCuts v.tail upto w.tail
  pub left : All (λ c. upto < c.end) w.tail.cuts
  pub others : w ≡ record v { tail = w.tail }
  pub kept : IsVolatile layout w
  pub tied : Tied v d → Tied w d

-- A fault of the device was noted in memory, and nothing else was done
pub record NotesFault (v : VolatileState) (d : DurableState) (w : VolatileState) : Type 0 where
  pub fault : IsTrue (is_faulted d)
  pub noted : w ≡ record v { faulted = true }

-- The disk was lent under both, to a session that has then seen the whole history, which has no
-- mark that the disk lacks. Neither part changes
pub record ShowsDisk (v : VolatileState) (d : DurableState) (session after : SessionState) : Type 0 where
  pub shown : after.seen ≡ v.ledger.history
  pub extends : OnlyExtends session after
  pub trusted : is_trusted v.ledger.history ≡ (disk_of d).honest
  pub images : IsTrue (disk_of d).honest → EveryImage (disk_of d).past (Leaves v.ledger.history)

-- or that was refused, which no pair is that is tied, unless the session has seen more
pub record RefusesDisk (v : VolatileState) (d : DurableState) (session : SessionState) (why : Refusal CauseState) (after : SessionState) : Type 0 where
  pub refusal : IsStaleRefusal v.ledger.history why ⊎ (IsUntied v d d.marked why × (Tied v d → ⊥))
  pub extends : OnlyExtends session after

abbrev pub AnswersDisk : {A : Type 0} → VolatileState → DurableState → SessionState → Result A (Refusal CauseState) → SessionState → Type 0
AnswersDisk v d session (Ok disk) after = ShowsDisk v d session after
AnswersDisk v d session (Err why) after = RefusesDisk v d session why after
