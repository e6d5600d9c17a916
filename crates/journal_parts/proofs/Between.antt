-- What holds of the two parts between any two holds: each hold keeps it, whatever holds other
-- threads make before and behind it.
use Rattle.std.proofs.Common.{◌≡◌, ⊎_elim, ◌≤◌, ◌+◌, ℕ, max, Bool, true, false, List, [], ◌∷◌, ◌++◌, IsTrue, Result, Ok, Err, IfOk, IfErr, OnErr, refl, sym, ap, subst, ◌∙◌, arith}
use Rattle.std.proofs.lemmas.Bool.{false≢true}
use Rattle.journal_world.specs.declared.refusal.Refusal.{Refusal}
use Rattle.journal_world.specs.declared.refusal.Refusal.TheVariants.{NoMemory, BadAddress, BadSize, TooLarge, Busy, DeviceFailed, BadLog, BadSuper, Stale, Stranger, Worn, Full, Closed, Fenced}
use Rattle.journal_world.specs.Addresses.{Shape}
use Rattle.journal_world.specs.Histories.{count}
use Rattle.journal_world.specs.Histories.Entry.{fence}
use Rattle.journal_world.proofs.Fences.{floor-fence}
use Rattle.journal_world.proofs.Prefixes.{IsPrefix-trans}
use Rattle.journal_wal.specs.Wal.{with_room, Installing, install_none, install_homes, install_start, install_sync, install_spent, install_steps_by, InstallMoves, Frees}
use Rattle.journal_tail.specs.Tails.{TailState, cut_points}
use Rattle.journal_wal.specs.declared.step.GroupStep.{GroupStep}
use Rattle.journal_wal.specs.declared.step.InstallStep.{InstallStep}
use Rattle.journal_wal.specs.declared.step.InstallStep.TheVariants.{Freed}
use Rattle.journal_memlog.specs.Logs.{LogState}
use Rattle.journal_objlog.specs.ObjectLogs.{OnlyReads as OnlyReadsLog, end_of}
use Rattle.journal_history.specs.Tokens.{SessionState, next_transaction as numbered}
use Rattle.journal_parts.specs.declared.step.LogStep.{LogStep}
use Rattle.journal_parts.specs.declared.step.LogStep.TheVariants.{Idle, Cut, Put, Logged, Marked}
use Rattle.journal_memory.specs.Causes.{CauseState}
use Rattle.journal_memory.specs.Ledgers.{LedgerState}
use Rattle.journal_memory.specs.Fences.{AddsFence, HasFence}
use Rattle.journal_memory.specs.Transactions.{TransactionState}
use Rattle.journal_parts.specs.Durables.{DurableState, IsDurable, Crashes, InstallAnswers, IsCallRefusal, IsInstallRefusal, LeavesLog, is_faulted, disk_of}
use Rattle.journal_memory.specs.Fetches.{FetchedState}
use Rattle.journal_memory.specs.Volatiles.{VolatileState, IsVolatile}
use Rattle.journal_memory.specs.VolatileCommits.{with_room as with_more}
use Rattle.journal_parts.specs.Pairs.{Tied, IsMarkDue, MarksBoth, MarksAll, DoesWhatIsDue, IsMarkingRefusal, IsCutRefusal, IsRestRefusal, IsDueRefusal}
use Rattle.journal_parts.specs.CoreParts.{IsPair}
use Rattle.journal_parts.specs.Holds.{IsBetween, AnswersFetch, AnswersGroupCall, AnswersHomeCall, AnswersMarkOrCut, Trims, NotesFault}
use Rattle.journal_memory.specs.VolatileHolds.{CommitsInMemory, KeepsCopies, FencesSession}
use Rattle.journal_parts.proofs.CallsOfLogs.{stays_install, stays_read, stays_fault}
use Rattle.journal_parts.proofs.Pairing.{tied_logged, tied_stays, tied_committed}
use Rattle.journal_parts.proofs.Faults.{volatile_failed}

-- ---- what is answered, as one event

module _ (layout : Shape) (old new : DurableState) (kept : IsDurable layout new) (crash : Crashes old new) where
  pub answers_mark_or_cut : (v w : VolatileState) (r : Result LogStep (Refusal CauseState)) → IsVolatile layout w → IfOk r (λ step. DoesWhatIsDue v old step w new)
      → IfErr r (λ why. IsDueRefusal v old why new) → OnErr r (w ≡ v) → (Tied v old → Tied w new) → AnswersMarkOrCut layout v old r w new
  answers_mark_or_cut v w (Ok step) held did refusal same tied = record { did = did; volatile = held; durable = kept; tied = tied; crash = crash }
  answers_mark_or_cut v w (Err why) held did refusal same tied = record { refusal = refusal; volatile = same; durable = kept; tied = tied; crash = crash }

-- ---- what each hold keeps

-- why a call is refused that needs the device
pub call_fault : (d e : DurableState) (why : Refusal CauseState) → IsCallRefusal d e why → (is_faulted e ≡ true) × (e ≡ record d { objects = e.objects })
call_fault d e (DeviceFailed cause) it = (it.faulted, it.others)
call_fault d e NoMemory it = absurd it
call_fault d e BadAddress it = absurd it
call_fault d e BadSize it = absurd it
call_fault d e TooLarge it = absurd it
call_fault d e Busy it = absurd it
call_fault d e BadLog it = absurd it
call_fault d e BadSuper it = absurd it
call_fault d e (Stale cause) it = absurd it
call_fault d e (Stranger cause) it = absurd it
call_fault d e (Worn cause) it = absurd it
call_fault d e (Full cause) it = absurd it
call_fault d e (Closed cause) it = absurd it
call_fault d e Fenced it = absurd it

-- and why the installer's call is, where memory is not what it lacked
pub home_faulted : (d e : DurableState) (why : Refusal CauseState) → (why ≡ NoMemory → ⊥) → IsInstallRefusal d e why → is_faulted e ≡ true
home_faulted d e (DeviceFailed cause) room it = it.faulted
home_faulted d e NoMemory room it = absurd (room refl)
home_faulted d e BadAddress room it = absurd it
home_faulted d e BadSize room it = absurd it
home_faulted d e TooLarge room it = absurd it
home_faulted d e Busy room it = absurd it
home_faulted d e BadLog room it = absurd it
home_faulted d e BadSuper room it = absurd it
home_faulted d e (Stale cause) room it = absurd it
home_faulted d e (Stranger cause) room it = absurd it
home_faulted d e (Worn cause) room it = absurd it
home_faulted d e (Full cause) room it = absurd it
home_faulted d e (Closed cause) room it = absurd it
home_faulted d e Fenced room it = absurd it

module _ (n : Shape) (v : VolatileState) (d : DurableState) (between : IsBetween n v d) where
  -- of the disk alone: memory is as it was, whoever has it

  -- no fault was found, so that memory knows of none
  unnoted : is_faulted d ≡ false → (e : DurableState) → IsTrue v.faulted → IsTrue (is_faulted e)
  unnoted fine e noticed = absurd (false≢true (sym fine ∙ between.noted noticed))

  read_on : (e : DurableState) → IsDurable n e → OnlyReadsLog d.objects e.objects → e ≡ record d { objects = e.objects } → IsBetween n v e
  read_on e kept reads others = record {
    volatile = between.volatile;
    durable = kept;
    tied = tied_stays n v d e between.durable others (stays_read d.objects e.objects reads) between.tied;
    noted = λ noticed. reads.stays (between.noted noticed);
  }

  pub between_fetch : (e : DurableState) (numbers : List ℕ) (r : Result FetchedState (Refusal CauseState)) → AnswersFetch n d numbers r e → IsBetween n v e
  between_fetch e numbers (Ok f) it = read_on e it.kept it.reads it.others
  between_fetch e numbers (Err why) it = read_on e it.kept it.reads it.others

  fault_on : (e : DurableState) → IsDurable n e → LeavesLog d e → is_faulted e ≡ true → e ≡ record d { objects = e.objects } → IsBetween n v e
  fault_on e kept left faulted others = record {
    volatile = between.volatile;
    durable = kept;
    tied = tied_stays n v d e between.durable others (stays_fault d.objects e.objects left.log faulted) between.tied;
    noted = λ noticed. faulted;
  }

  pub between_group : (e : DurableState) (r : Result GroupStep (Refusal CauseState)) → AnswersGroupCall n d r e → IsBetween n v e
  between_group e (Ok step) it = record {
    volatile = between.volatile;
    durable = it.kept;
    tied = tied_logged n v d e step between.volatile between.durable it.did between.tied;
    noted = unnoted it.fine.0 e;
  }
  between_group e (Err why) it = let fault = call_fault d e why it.refusal in fault_on e it.kept it.left fault.0 fault.1

  home_fault : (e : DurableState) (why : Refusal CauseState) → IsDurable n e → LeavesLog d e → IsInstallRefusal d e why → IsBetween n v e
  home_fault e NoMemory kept left it = subst (IsBetween n v) (sym it.3) between
  home_fault e (DeviceFailed cause) kept left it = fault_on e kept left it.faulted it.others
  home_fault e BadAddress kept left it = absurd it
  home_fault e BadSize kept left it = absurd it
  home_fault e TooLarge kept left it = absurd it
  home_fault e Busy kept left it = absurd it
  home_fault e BadLog kept left it = absurd it
  home_fault e BadSuper kept left it = absurd it
  home_fault e (Stale cause) kept left it = absurd it
  home_fault e (Stranger cause) kept left it = absurd it
  home_fault e (Worn cause) kept left it = absurd it
  home_fault e (Full cause) kept left it = absurd it
  home_fault e (Closed cause) kept left it = absurd it
  home_fault e Fenced kept left it = absurd it

  pub between_home : (e : DurableState) (r : Result InstallStep (Refusal CauseState)) → AnswersHomeCall n d r e → IsBetween n v e
  between_home e (Ok step) it = record {
    volatile = between.volatile;
    durable = it.kept;
    tied = tied_stays n v d e between.durable it.did.1
        (stays_install d.objects e.objects (Ok step) it.did.0 tt (λ faulted. absurd (false≢true (sym it.fine.0 ∙ faulted)))) between.tied;
    noted = unnoted it.fine.0 e;
  }
  between_home e (Err why) it = home_fault e why it.kept it.left it.refusal

  -- of both

  settled_fault : (w : VolatileState) (e : DurableState) (step : LogStep) → DoesWhatIsDue v d step w e → (w.faulted ≡ v.faulted) × (is_faulted e ≡ is_faulted d)
  settled_fault w e Idle does = (ap (λ (x : VolatileState). x.faulted) does.1, ap is_faulted does.2)
  settled_fault w e Cut does = (ap (λ (x : VolatileState). x.faulted) does.1.volatile, ap (λ r. r.faulted) does.1.group.taken.disk)
  settled_fault w e Put does = absurd does
  settled_fault w e Logged does = absurd does
  settled_fault w e (Marked k) does = ⊎_elim
      (λ (both : (k ≡ d.logged) × MarksBoth v d w e). (ap (λ (x : VolatileState). x.faulted) both.1.volatile, ap is_faulted both.1.durable))
      (λ (all : (k ≡ count v.ledger.history) × (IsMarkDue v d → ⊥) × MarksAll v d w e). (ap (λ (x : VolatileState). x.faulted) all.2.volatile, ap is_faulted all.2.durable))
      does

  unsettled_fault : (e : DurableState) (why : Refusal CauseState) → IsDueRefusal v d why e → is_faulted e ≡ is_faulted d
  unsettled_fault e why it = ⊎_elim
      (λ (mark : IsMarkingRefusal v d why × (e ≡ d)). ap is_faulted mark.1)
      (λ other. ⊎_elim
      (λ (cut : (IsMarkDue v d → ⊥) × IsCutRefusal v d why × (e ≡ record d { objects = with_room d.objects e.objects.log.room })). ap is_faulted cut.2)
      (λ (rest : (IsMarkDue v d → ⊥) × IsRestRefusal v d why × (e ≡ d)). ap is_faulted rest.2)
      other)
      it

  same_noted : (w : VolatileState) (e : DurableState) → w.faulted ≡ v.faulted → is_faulted e ≡ is_faulted d → IsTrue w.faulted → IsTrue (is_faulted e)
  same_noted w e memory disk noticed = disk ∙ between.noted (sym memory ∙ noticed)

  pub between_mark_or_cut : (w : VolatileState) (e : DurableState) (r : Result LogStep (Refusal CauseState)) → AnswersMarkOrCut n v d r w e → IsBetween n w e
  between_mark_or_cut w e (Ok step) it = let stays = settled_fault w e step it.did in record {
    volatile = it.volatile;
    durable = it.durable;
    tied = it.tied between.tied;
    noted = same_noted w e stays.0 stays.1;
  }
  between_mark_or_cut w e (Err why) it = record {
    volatile = subst (IsVolatile n) (sym it.volatile) between.volatile;
    durable = it.durable;
    tied = it.tied between.tied;
    noted = same_noted w e (ap (λ (x : VolatileState). x.faulted) it.volatile) (unsettled_fault e why it.refusal);
  }

  pub between_trimmed : (w : VolatileState) (upto : ℕ) → Trims n v d upto w → IsBetween n w d
  between_trimmed w upto it = record {
    volatile = it.kept;
    durable = between.durable;
    tied = it.tied between.tied;
    noted = same_noted w d (ap (λ (x : VolatileState). x.faulted) it.others) refl;
  }

  -- the gap between a failing call and its note is closed
  pub between_noted : (w : VolatileState) → NotesFault v d w → IsBetween n w d
  between_noted w it = subst (λ (x : VolatileState). IsBetween n x d) (sym it.noted) (record {
    volatile = volatile_failed n v between.volatile;
    durable = between.durable;
    tied = record {
      begins = between.tied.begins;
      marked = between.tied.marked;
      trimmed = between.tied.trimmed;
      cut = between.tied.cut;
      position = between.tied.position;
      logged = between.tied.logged;
    };
    noted = λ noticed. it.fault;
  })

  -- of memory alone: the disk's part is as it was, whoever has it, and a call of the device may be
  -- under way

  pub between_commit : (w : VolatileState) (s after : SessionState) (t : TransactionState) → CommitsInMemory n v s t w after → IsBetween n w d
  between_commit w s after t it = record {
    volatile = it.kept;
    durable = between.durable;
    tied = tied_committed v w d (numbered s t.reads t.writes) it.committed.committed.added (ap (λ (x : VolatileState). x.ledger.cut) it.committed.others)
        (ap (λ (x : TailState). x.trimmed) it.committed.logs.appends) (ap cut_points it.committed.logs.appends) (ap (λ (x : TailState). x.log.cut) it.committed.logs.appends) between.tied;
    noted = same_noted w d (ap (λ (x : VolatileState). x.faulted) it.committed.others) refl;
  }

  pub between_roomed : (w : VolatileState) (room : ℕ) → IsVolatile n w → w ≡ with_more v room → IsBetween n w d
  between_roomed w room kept same = record {
    volatile = kept;
    durable = between.durable;
    tied = subst (λ (x : VolatileState). Tied x d) (sym same) (record {
      begins = between.tied.begins;
      marked = between.tied.marked;
      trimmed = between.tied.trimmed;
      cut = between.tied.cut;
      position = between.tied.position;
      logged = between.tied.logged;
    });
    noted = same_noted w d (ap (λ (x : VolatileState). x.faulted) same) refl;
  }

  pub between_copied : (w : VolatileState) → KeepsCopies n v w → IsBetween n w d
  between_copied w it = record {
    volatile = it.kept;
    durable = between.durable;
    tied = subst (λ (x : VolatileState). Tied x d) (sym it.others) (record {
      begins = between.tied.begins;
      marked = between.tied.marked;
      trimmed = between.tied.trimmed;
      cut = between.tied.cut;
      position = between.tied.position;
      logged = between.tied.logged;
    });
    noted = same_noted w d (ap (λ (x : VolatileState). x.faulted) it.others) refl;
  }

  -- a session began, or it was stopped
  volatile_counted : (next : ℕ) (closed : Bool) → IsVolatile n (record v { ledger = record v.ledger { next = next; closed = closed } })
  volatile_counted next closed = record {
    size = between.volatile.size;
    begun = between.volatile.begun;
    on_disk = between.volatile.on_disk;
    made = between.volatile.made;
    cut_to_next = between.volatile.cut_to_next;
    small = between.volatile.small;
    cuts = λ k c lt. let was = between.volatile.cuts k c lt in record { above = was.above; below = was.below; earlier = was.earlier };
    updates = λ trusted. let has = between.volatile.updates trusted in record { since = has.since; since_last = has.since_last };
    known = between.volatile.known;
  }

  pub between_counted : (next : ℕ) (closed : Bool) → IsBetween n (record v { ledger = record v.ledger { next = next; closed = closed } }) d
  between_counted next closed = record {
    volatile = volatile_counted next closed;
    durable = between.durable;
    tied = record {
      begins = between.tied.begins;
      marked = between.tied.marked;
      trimmed = between.tied.trimmed;
      cut = between.tied.cut;
      position = between.tied.position;
      logged = between.tied.logged;
    };
    noted = between.noted;
  }

  tied_fenced : (session next : ℕ) → Tied (record v { ledger = record v.ledger { history = v.ledger.history ++ fence session ∷ []; next = next } }) d
  tied_fenced session next = record {
    begins = IsPrefix-trans d.front v.ledger.history (v.ledger.history ++ fence session ∷ []) between.tied.begins (fence session ∷ [], refl);
    marked = floor-fence v.ledger.history session ∙ between.tied.marked;
    trimmed = between.tied.trimmed;
    cut = between.tied.cut;
    position = between.tied.position;
    logged = between.tied.logged;
  }

  pub between_fenced : (session : ℕ) (w : VolatileState) → FencesSession n session v w → IsBetween n w d
  between_fenced session w it = record {
    volatile = it.kept;
    durable = between.durable;
    tied = subst (λ (x : VolatileState). Tied x d) (sym it.others) (⊎_elim
        (λ (adds : AddsFence session v.ledger w.ledger).
        subst (λ (m : LedgerState). Tied (record v { ledger = m }) d) (sym adds.fenced) (tied_fenced session (max v.ledger.next (session + 1))))
        (λ (has : HasFence session v.ledger w.ledger). subst (λ (m : LedgerState). Tied (record v { ledger = m }) d) (sym has.same) between.tied)
        it.did);
    noted = same_noted w d (ap (λ (x : VolatileState). x.faulted) it.others) refl;
  }

-- a pair that knows of the same faults
pub between_pair : (n : Shape) (v : VolatileState) (d : DurableState) → IsPair n v d → IsBetween n v d
between_pair n v d pair = record {
  volatile = pair.volatile;
  durable = pair.durable;
  tied = pair.tied;
  noted = λ noticed. sym pair.fault ∙ noticed;
}

-- ---- no hold makes another disk of it

pub fetch_honest : (n : Shape) (d e : DurableState) (numbers : List ℕ) (r : Result FetchedState (Refusal CauseState)) → AnswersFetch n d numbers r e → (disk_of e).honest ≡ (disk_of d).honest
fetch_honest n d e numbers (Ok f) it = it.crash.keeps.honest
fetch_honest n d e numbers (Err why) it = it.crash.keeps.honest

pub group_honest : (n : Shape) (d e : DurableState) (r : Result GroupStep (Refusal CauseState)) → AnswersGroupCall n d r e → (disk_of e).honest ≡ (disk_of d).honest
group_honest n d e (Ok step) it = it.crash.keeps.honest
group_honest n d e (Err why) it = it.crash.keeps.honest

pub home_honest : (n : Shape) (d e : DurableState) (r : Result InstallStep (Refusal CauseState)) → AnswersHomeCall n d r e → (disk_of e).honest ≡ (disk_of d).honest
home_honest n d e (Ok step) it = it.crash.keeps.honest
home_honest n d e (Err why) it = it.crash.keeps.honest

pub mark_or_cut_honest : (n : Shape) (v : VolatileState) (d : DurableState) (w : VolatileState) (e : DurableState) (r : Result LogStep (Refusal CauseState)) → AnswersMarkOrCut n v d r w e
    → (disk_of e).honest ≡ (disk_of d).honest
mark_or_cut_honest n v d w e (Ok step) it = it.crash.keeps.honest
mark_or_cut_honest n v d w e (Err why) it = it.crash.keeps.honest

-- ---- what is freed is logged, so that memory may be trimmed up to there

abbrev sync_of : Installing → ℕ
sync_of (install_sync upto) = upto
sync_of install_none = 0
sync_of (install_homes upto plan) = 0
sync_of (install_start upto) = 0
sync_of install_spent = 0

pub freed_to : (d e : DurableState) (upto : ℕ) → InstallAnswers d (Freed upto) e → upto ≤ end_of e.objects
freed_to d e upto it =
    let frees : Frees d.objects e.objects = subst (λ (n : ℕ). InstallMoves n d.objects e.objects) (ap install_steps_by it.0.1) it.0.0.moves in
    let is : frees.upto ≡ upto = ap sync_of (sym frees.upto_is ∙ it.0.1) in
    omega (arith, frees.below, is, ap (λ (l : LogState). l.logged) frees.log)
