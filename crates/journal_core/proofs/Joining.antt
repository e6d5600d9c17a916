-- What the calls of the two parts do, as the core's.
use Rattle.std.proofs.Common.{◌≡◌, ◌⊎◌, inl, inr, ⊎_elim, ◌<◌, ◌≤◌, ◌+◌, ◌-◌, ℕ, zero, suc, Bool, true, false, List, [], ◌∷◌, drop, length, IsTrue, None, Option, Result, Ok, Err, OnOk, OnErr, IfOk, IfErr, refl, sym, ap, subst, ◌∙◌, arith}
use Rattle.std.proofs.lemmas.Bool.{false≢true, cases_lt}
use Rattle.std.proofs.lemmas.List.{drop_all, drop-drop}
use Rattle.journal_world.specs.Addresses.{Shape}
use Rattle.journal_memory.specs.Causes.{CauseState}
use Rattle.journal_world.specs.declared.refusal.Refusal.{Refusal}
use Rattle.journal_world.specs.declared.refusal.Refusal.TheVariants.{NoMemory, BadAddress, BadSize, TooLarge, Busy, DeviceFailed, BadLog, BadSuper, Stale, Stranger, Worn, Full, Closed, Fenced}
use Rattle.journal_world.specs.Histories.{is_trusted, count, floor}
use Rattle.journal_disk.specs.Images.{EveryImage}
use Rattle.journal_memory.proofs.Fronts.{trusted-longer}
use Rattle.journal_block.specs.declared.update.Update.{Update}
use Rattle.journal_block.specs.Block.{Bytes}
use Rattle.journal_disk.specs.Disks.{DiskEvent, DiskState}
use Rattle.journal_disk.specs.Laws.{leaves_also}
use Rattle.journal_memlog.specs.Logs.{LogState, next_position, tail_of}
use Rattle.journal_wal.specs.Wal.{WalState, Logging, log_blocks, log_end, log_sync, log_spent, Installing, install_none, install_homes, install_start, install_sync, install_spent, log_steps, log_steps_by, log_call_by, install_steps_by, with_room, free_positions, TriesDueCall, InstallMoves, Frees}
use Rattle.journal_wal.specs.Groups.{FitsGroup}
use Rattle.journal_tail.specs.Tails.{DropsCuts}
use Rattle.journal_wal.specs.declared.step.GroupStep.TheVariants.{Put as GroupPut, Logged as GroupLogged}
use Rattle.journal_wal.specs.declared.step.InstallStep.{InstallStep}
use Rattle.journal_wal.specs.declared.step.InstallStep.TheVariants.{Freed}
use Rattle.journal_objlog.specs.ObjectLogs.{IsCutLogged, KeepsMaps, OnlyReads as OnlyReadsLog, is_faulted as is_log_faulted, end_of, disk_of as log_disk}
use Rattle.journal_objlog.specs.MapLaws.{KeepsMaps-refl}
use Rattle.journal_parts.specs.declared.step.LogStep.{LogStep}
use Rattle.journal_parts.specs.declared.step.LogStep.TheVariants.{Idle, Cut, Put, Logged, Marked}
use Rattle.journal_memory.specs.Ledgers.{IsMarkRefusal}
use Rattle.journal_parts.specs.Durables.{DurableState, IsDurable, IsFault, IsCallRefusal, IsRoomRefusal, is_faulted, disk_of, Leaves, Crashes as CrashesDurable, LogAnswers as DurableAnswers, InstallAnswers as DurableInstalls, IsInstallRefusal as IsDurableRefusal, LeavesLog as DurableLeaves}
use Rattle.journal_memory.specs.Volatiles.{VolatileState, IsVolatile, outset_of}
use Rattle.journal_parts.specs.Pairs.{Tied, IsMarkDue, IsCutDue, IsRestDue, IsNothingDue, CutsBoth, MarksBoth, MarksAll, DoesWhatIsDue, IsUntied, IsCutRefusal, IsMarkingRefusal, IsRestRefusal, IsDueRefusal}
use Rattle.journal_parts.specs.Cores.{Leaves as LeavesHistory}
use Rattle.journal_parts.specs.CoreStates.{CoreState, IsRunning, with_wal, Crashes, disk_of as core_disk}
use Rattle.journal_parts.specs.CoreParts.{IsPair, core_of, outset}
use Rattle.journal_core.specs.Steps.{GoesOnLogging, EndsCycle, CutsGroup, HasLogged, HasUnmarked, MarksDue, LogAnswers, IsLogRefusal, LeavesLog, TriesToLog, IsDeviceRefusal, InstallAnswers, IsInstallRefusal}
use Rattle.journal_parts.proofs.Enduring.{StaysCut, crashes_noted}
use Rattle.journal_parts.proofs.CallsOfLogs.{stays_install, stays_read}
use Rattle.journal_parts.proofs.Pairing.{begins_not, untied_not, leaves_history, made_in, place_of, tied_stays}
use Rattle.journal_parts.proofs.Faults.{failed, volatile_failed}

-- ---- of every pair

-- both parts judge by the same
pub same_outset : (layout : Shape) (v : VolatileState) (d : DurableState) → IsPair layout v d → outset_of v ≡ outset (core_of v d)
same_outset layout v d pair = λ i. record {
  closed = v.ledger.closed;
  faulted = pair.fault i;
  history = v.ledger.history;
  tail = tail_of v.tail.log;
  next = here i;
}
  where
    here : next_position v.tail.log ≡ next_position d.objects.log + length (tail_of v.tail.log)
    here = omega (arith, place_of layout v pair.volatile, pair.tied.position)

-- what a crash leaves of the durable part
pub crashes_pair : (layout : Shape) (v w : VolatileState) (d e : DurableState) → IsPair layout v d → IsPair layout w e → CrashesDurable d e
    → Crashes (core_of v d) (core_of w e)
crashes_pair layout v w d e pair now crash = record {
  keeps = crash.keeps;
  moments = λ honest. leaves_also (disk_of d).past (disk_of e).past (Leaves d) (LeavesHistory v.ledger.history) (crash.moments honest)
      (λ image left. leaves_history layout d v.ledger.history image pair.durable pair.tied.begins (omega (arith, pair.tied.marked)) left);
  images = λ honest image one.
      leaves_history layout e w.ledger.history image now.durable now.tied.begins (omega (arith, now.tied.marked)) (crash.images honest image one);
}

-- where no device call was made
pub crashes_memory : (layout : Shape) (v w : VolatileState) (d : DurableState) → IsPair layout v d → IsPair layout w d → Crashes (core_of v d) (core_of w d)
crashes_memory layout v w d pair now = crashes_pair layout v w d d pair now (crashes_noted layout d d d pair.durable refl pair.durable refl)

tied_failed : (v : VolatileState) (d : DurableState) → Tied v d → Tied (failed v) d
tied_failed v d tied = record {
  begins = tied.begins;
  marked = tied.marked;
  trimmed = tied.trimmed;
  cut = tied.cut;
  position = tied.position;
  logged = tied.logged;
}

nil_of : {X : Type 0} (xs : List X) → length xs ≡ 0 → xs ≡ []
nil_of [] none = refl
nil_of (x ∷ xs) none = absurd (omega (arith, none))

-- where no group is in flight, no call of the logger is due
no_call_by : (sealed : Bool) (logging : Logging) (group left : ℕ) (put after : DiskEvent) (header : Bytes) → log_steps_by sealed logging group left ≡ 0
    → log_call_by logging group left put after header ≡ None
no_call_by sealed log_blocks zero left put after header none = refl
no_call_by sealed log_blocks (suc group) left put after header none = absurd (omega (arith, none))
no_call_by sealed log_end group left put after header none = absurd (omega (arith, none))
no_call_by sealed log_sync group left put after header none = absurd (omega (arith, none))
no_call_by sealed log_spent group left put after header none = refl

-- ---- of a pair that goes on

module _ (layout : Shape) (v : VolatileState) (d : DurableState) (pair : IsPair layout v d) (running : IsRunning (core_of v d)) (e : DurableState) where
  -- a call without a fault, of the durable part alone
  pub pair_on : IsDurable layout e → Tied v e → is_faulted e ≡ false → IsPair layout v e
  pair_on kept tied fine = record { volatile = pair.volatile; durable = kept; tied = tied; fault = pair.fault ∙ running.1 ∙ sym fine }

  -- a fault
  pub pair_failed : IsDurable layout e → e ≡ record d { objects = e.objects } → StaysCut d.objects e.objects → is_faulted e ≡ true → IsPair layout (failed v) e
  pair_failed kept same stays faulted = record {
    volatile = volatile_failed layout v pair.volatile;
    durable = kept;
    tied = tied_failed v e (tied_stays layout v d e pair.durable same stays pair.tied);
    fault = sym faulted;
  }

  pub fails_as : (reached : Type 0) (cause : CauseState) → reached → IsFault d e cause → IsDeviceRefusal reached (core_of v d) (core_of (failed v) e) cause
  fails_as reached cause far fault = record {
    unexplained = fault.unexplained;
    not_closed = running.0;
    fault = ⊎_elim (λ was. inl was) (λ now. inr (far, now)) fault.fault;
    faulted = fault.faulted;
    others = ap (core_of v) fault.others;
  }

  -- a refused call of either
  pub leaves_as : (w : VolatileState) → DurableLeaves d e → e ≡ record d { objects = e.objects } → core_of w e ≡ core_of v e → LeavesLog (core_of v d) (core_of w e)
  leaves_as w leaves same unmoved = record {
    log = ap (λ (l : LogState). record l { room = e.objects.log.room }) leaves.log;
    maps = leaves.maps;
    others = unmoved ∙ ap (core_of v) same;
  }

  -- the logger's calls

  pub logs_put : DurableAnswers d GroupPut e → GoesOnLogging (core_of v d) (core_of v e)
  logs_put it = record { group = it.0; others = ap (core_of v) it.1 }

  pub logs_end : DurableAnswers d GroupLogged e → EndsCycle (core_of v d) (core_of v e)
  logs_end it = record {
    group = it.0;
    others = ap (core_of v) it.1 ∙ ap (λ (n : ℕ). record (with_wal (core_of v d) e.objects) { logged = n }) (sym pair.tied.cut);
  }

  pub log_fails : (why : Refusal CauseState) → IsCallRefusal d e why → IsLogRefusal (core_of v d) (core_of (failed v) e) why
  log_fails (DeviceFailed cause) it = fails_as (Unit {0}) cause tt it
  log_fails NoMemory it = absurd it
  log_fails BadAddress it = absurd it
  log_fails BadSize it = absurd it
  log_fails TooLarge it = absurd it
  log_fails Busy it = absurd it
  log_fails BadLog it = absurd it
  log_fails BadSuper it = absurd it
  log_fails (Stale cause) it = absurd it
  log_fails (Stranger cause) it = absurd it
  log_fails (Worn cause) it = absurd it
  log_fails (Full cause) it = absurd it
  log_fails (Closed cause) it = absurd it
  log_fails Fenced it = absurd it

  pub call_faulted : (why : Refusal CauseState) → IsCallRefusal d e why → (is_faulted e ≡ true) × (e ≡ record d { objects = e.objects })
  call_faulted (DeviceFailed cause) it = (it.faulted, it.others)
  call_faulted NoMemory it = absurd it
  call_faulted BadAddress it = absurd it
  call_faulted BadSize it = absurd it
  call_faulted TooLarge it = absurd it
  call_faulted Busy it = absurd it
  call_faulted BadLog it = absurd it
  call_faulted BadSuper it = absurd it
  call_faulted (Stale cause) it = absurd it
  call_faulted (Stranger cause) it = absurd it
  call_faulted (Worn cause) it = absurd it
  call_faulted (Full cause) it = absurd it
  call_faulted (Closed cause) it = absurd it
  call_faulted Fenced it = absurd it

  -- what is due where no group is in flight
  module _ (none : log_steps d.objects ≡ 0) where
    cut_logged : IsCutLogged d.objects
    cut_logged = pair.durable.idle running.1 none

    all_logged : v.ledger.cut ≡ d.logged
    all_logged = pair.tied.cut ∙ sym (pair.durable.rest cut_logged)

    unmarked_not : (IsMarkDue v d → ⊥) → v.ledger.cut ≤ floor v.ledger.history
    unmarked_not other = ⊎_elim
        (λ (more : floor v.ledger.history < d.logged). absurd (other (record { cut = all_logged; more = more })))
        (λ (le : d.logged ≤ floor v.ledger.history). omega (arith, le, all_logged))
        (cases_lt (floor v.ledger.history) d.logged)

    idle_tail : IsNothingDue v d
        → ((length (tail_of v.tail.log) ≡ 0) × (count v.ledger.history ≤ floor v.ledger.history)) ⊎ (free_positions d.objects < length (tail_of v.tail.log))
    idle_tail nothing = ⊎_elim
        (λ (some : 0 < length (tail_of v.tail.log)). ⊎_elim
        (λ (more : free_positions d.objects < length (tail_of v.tail.log)). inr more)
        (λ (le : length (tail_of v.tail.log) ≤ free_positions d.objects).
        absurd (nothing.cut (record { logged = omega (arith, all_logged); fits = record { rest = none; some = some; fits = le } })))
        (cases_lt (free_positions d.objects) (length (tail_of v.tail.log))))
        (λ (zero_le : length (tail_of v.tail.log) ≤ 0).
        let empty : length (tail_of v.tail.log) ≡ 0 = omega (arith, zero_le) in ⊎_elim
        (λ (more : floor v.ledger.history < count v.ledger.history). absurd (nothing.rest (record {
          logged = omega (arith, all_logged);
          rest = cut_logged;
          tail = nil_of (tail_of v.tail.log) empty;
          more = more;
        })))
        (λ (le : count v.ledger.history ≤ floor v.ledger.history). inl (empty, le))
        (cases_lt (floor v.ledger.history) (count v.ledger.history)))
        (cases_lt 0 (length (tail_of v.tail.log)))

    module _ (w : VolatileState) where
      due_cut : (IsMarkDue v d → ⊥) → CutsBoth v d w e → CutsGroup (core_of v d) (core_of w e)
      due_cut other cuts = record {
        place = record { marked = unmarked_not other; fits = cuts.due.fits };
        group = cuts.group.taken;
        others = (λ i. core_of (cuts.volatile i) (cuts.group.others i))
            ∙ ap (λ (us : List Update). record (core_of v d) { objects = record { wal = e.objects; tail = us }; cut = count v.ledger.history })
            (drop_all (next_position v.tail.log - v.tail.log.start) v.tail.log.updates (omega arith));
      }

      due_mark : MarksBoth v d w e → MarksDue d.logged (core_of v d) (core_of w e)
      due_mark marks = record {
        steps = none;
        marks = record {
          rises = omega (arith, marks.due.more);
          made = made_in layout d v.ledger.history pair.durable pair.tied.begins;
          marked = λ i. core_of (marks.volatile i) (marks.durable i);
        };
        due = inl (sym all_logged, omega (arith, marks.due.more, all_logged));
      }

      due_rest : (IsMarkDue v d → ⊥) → MarksAll v d w e → MarksDue (count v.ledger.history) (core_of v d) (core_of w e)
      due_rest other marks = record {
        steps = none;
        marks = record {
          rises = omega (arith, marks.due.more);
          made = omega arith;
          marked = λ i. core_of (marks.volatile i) (marks.durable i);
        };
        due = inr (refl, record { marked = unmarked_not other; tail = ap length marks.due.tail; more = marks.due.more });
      }

      pub due_done : (step : LogStep) → DoesWhatIsDue v d step w e → LogAnswers (core_of v d) step (core_of w e)
      due_done Idle does = (
        record { steps = none; marked = unmarked_not does.0.mark; tail = idle_tail does.0 },
        λ i. core_of (does.1 i) (does.2 i),
      )
      due_done Cut does = due_cut does.0 does.1
      due_done Put does = absurd does
      due_done Logged does = absurd does
      due_done (Marked n) does = ⊎_elim
          (λ (both : (n ≡ d.logged) × MarksBoth v d w e). subst (λ (k : ℕ). MarksDue k (core_of v d) (core_of w e)) (sym both.0) (due_mark both.1))
          (λ (all : (n ≡ count v.ledger.history) × (IsMarkDue v d → ⊥) × MarksAll v d w e).
          subst (λ (k : ℕ). MarksDue k (core_of v d) (core_of w e)) (sym all.0) (due_rest all.1 all.2))
          does

      -- none of these touches the device
      pub due_fault : (step : LogStep) → DoesWhatIsDue v d step w e → (w.faulted ≡ v.faulted) × (is_faulted e ≡ is_faulted d)
      due_fault Idle does = (ap (λ (x : VolatileState). x.faulted) does.1, ap is_faulted does.2)
      due_fault Cut does = (ap (λ (x : VolatileState). x.faulted) does.1.volatile, ap (λ r. r.faulted) does.1.group.taken.disk)
      due_fault Put does = absurd does
      due_fault Logged does = absurd does
      due_fault (Marked n) does = ⊎_elim
          (λ (both : (n ≡ d.logged) × MarksBoth v d w e). (ap (λ (x : VolatileState). x.faulted) both.1.volatile, ap is_faulted both.1.durable))
          (λ (all : (n ≡ count v.ledger.history) × (IsMarkDue v d → ⊥) × MarksAll v d w e). (ap (λ (x : VolatileState). x.faulted) all.2.volatile, ap is_faulted all.2.durable))
          does

    -- a mark that was due is refused
    mark_refused : (why : Refusal CauseState) → IsMarkRefusal v.ledger.history why → HasLogged (core_of v d) ⊎ HasUnmarked (core_of v d) → core_of v e ≡ core_of v d
        → IsLogRefusal (core_of v d) (core_of v e) why
    mark_refused (Worn cause) it due same = (running, none, due, it, same)
    mark_refused (Stale cause) it due same = (running, none, due, it, same)
    mark_refused NoMemory it due same = absurd it
    mark_refused BadAddress it due same = absurd it
    mark_refused BadSize it due same = absurd it
    mark_refused TooLarge it due same = absurd it
    mark_refused Busy it due same = absurd it
    mark_refused (DeviceFailed cause) it due same = absurd it
    mark_refused BadLog it due same = absurd it
    mark_refused BadSuper it due same = absurd it
    mark_refused (Stranger cause) it due same = absurd it
    mark_refused (Full cause) it due same = absurd it
    mark_refused (Closed cause) it due same = absurd it
    mark_refused Fenced it due same = absurd it

    -- room for the tail is refused for want of memory alone
    room_refused : (why : Refusal CauseState) → IsRoomRefusal d (length (tail_of v.tail.log)) why → (why ≡ NoMemory) × FitsGroup d.objects (length (tail_of v.tail.log))
    room_refused NoMemory it = (refl, it.1)
    room_refused (DeviceFailed cause) it = absurd (false≢true (sym running.1 ∙ it.0))
    room_refused (Worn cause) it = absurd (omega (arith, it.2, place_of layout v pair.volatile, pair.tied.position, pair.volatile.small))
    room_refused BadAddress it = absurd it
    room_refused BadSize it = absurd it
    room_refused TooLarge it = absurd it
    room_refused Busy it = absurd it
    room_refused BadLog it = absurd it
    room_refused BadSuper it = absurd it
    room_refused (Stale cause) it = absurd it
    room_refused (Stranger cause) it = absurd it
    room_refused (Full cause) it = absurd it
    room_refused (Closed cause) it = absurd it
    room_refused Fenced it = absurd it

    cut_refused : (why : Refusal CauseState) → (IsMarkDue v d → ⊥) → IsCutRefusal v d why → e ≡ record d { objects = with_room d.objects e.objects.log.room }
        → IsLogRefusal (core_of v d) (core_of v e) why
    cut_refused why other it same = ⊎_elim
        (λ (untied : IsUntied v d d.marked why). absurd (untied_not v d d.marked why (omega arith) pair.tied untied))
        (λ rest. ⊎_elim
        (λ (room : IsRoomRefusal d (length (tail_of v.tail.log)) why). let is = room_refused why room in by is.0 is.1)
        (λ (memory : IsCutDue v d × (why ≡ NoMemory)). by memory.1 memory.0.fits)
        rest)
        it
      where
        by : why ≡ NoMemory → FitsGroup d.objects (length (tail_of v.tail.log)) → IsLogRefusal (core_of v d) (core_of v e) why
        by is fits = subst (IsLogRefusal (core_of v d) (core_of v e)) (sym is)
            (running, record { marked = unmarked_not other; fits = fits }, ap (core_of v) same)

    pub due_refused : (why : Refusal CauseState) → IsDueRefusal v d why e → IsLogRefusal (core_of v d) (core_of v e) why
    due_refused why it = ⊎_elim
        (λ (mark : IsMarkingRefusal v d why × (e ≡ d)). ⊎_elim
        (λ (untied : IsUntied v d d.logged why). absurd (untied_not v d d.logged why pair.durable.marked_to_logged pair.tied untied))
        (λ (due : IsMarkDue v d × IsMarkRefusal v.ledger.history why).
        mark_refused why due.1 (inl (omega (arith, due.0.more, due.0.cut))) (ap (core_of v) mark.1))
        mark.0)
        (λ other. ⊎_elim
        (λ (cut : (IsMarkDue v d → ⊥) × IsCutRefusal v d why × (e ≡ record d { objects = with_room d.objects e.objects.log.room })). cut_refused why cut.0 cut.1 cut.2)
        (λ (rest : (IsMarkDue v d → ⊥) × IsRestRefusal v d why × (e ≡ d)). ⊎_elim
        (λ front. absurd (begins_not v.ledger.history d.front why front pair.tied.begins))
        (λ (due : IsRestDue v d × IsMarkRefusal v.ledger.history why).
        mark_refused why due.1 (inr (record { marked = unmarked_not rest.0; tail = ap length due.0.tail; more = due.0.more })) (ap (core_of v) rest.2))
        rest.1)
        other)
        it

    roomed_same : e ≡ d → e ≡ record d { objects = with_room d.objects e.objects.log.room }
    roomed_same same = ap (λ (x : DurableState). record x { objects = with_room x.objects e.objects.log.room }) same

    pub due_roomed : (why : Refusal CauseState) → IsDueRefusal v d why e → e ≡ record d { objects = with_room d.objects e.objects.log.room }
    due_roomed why it = ⊎_elim
        (λ (mark : IsMarkingRefusal v d why × (e ≡ d)). roomed_same mark.1)
        (λ other. ⊎_elim
        (λ (cut : (IsMarkDue v d → ⊥) × IsCutRefusal v d why × (e ≡ record d { objects = with_room d.objects e.objects.log.room })). cut.2)
        (λ (rest : (IsMarkDue v d → ⊥) × IsRestRefusal v d why × (e ≡ d)). roomed_same rest.2)
        other)
        it

    -- what a refusal of what is due leaves
    module _ (same : e ≡ record d { objects = with_room d.objects e.objects.log.room }) where
      objects_roomed : e.objects ≡ with_room d.objects e.objects.log.room
      objects_roomed = ap (λ (x : DurableState). x.objects) same

      pub roomed_leaves : LeavesLog (core_of v d) (core_of v e)
      roomed_leaves = record {
        log = ap (λ (w : WalState). w.log) objects_roomed;
        maps = λ honest. subst (KeepsMaps d.objects) (sym objects_roomed) (keeps_roomed (KeepsMaps-refl d.objects));
        others = ap (core_of v) same ∙ ap (with_wal (core_of v d)) (sym objects_roomed);
      }
        where
          keeps_roomed : KeepsMaps d.objects d.objects → KeepsMaps d.objects (with_room d.objects e.objects.log.room)
          keeps_roomed keeps = record { now = keeps.now; cut = keeps.cut; logged = keeps.logged }

      pub roomed_tries : TriesToLog (core_of v d) (core_of v e)
      roomed_tries = inr (subst (λ (call : Option DiskEvent). TriesDueCall call (disk_of d) (disk_of e))
          (sym (no_call_by d.objects.ring.sealed d.objects.logging (d.objects.log.cut - d.objects.log.logged) (d.objects.log.cut - d.objects.ring.next) _ _ _ none))
          (λ honest. ap (λ (w : WalState). (log_disk w).past) objects_roomed))

      pub roomed_fault : is_faulted e ≡ is_faulted d
      roomed_fault = ap is_log_faulted objects_roomed

    -- the same of any answer
    module _ (w : VolatileState) where
      pub due_ok : (r : Result LogStep (Refusal CauseState)) → IfOk r (λ step. DoesWhatIsDue v d step w e) → IfOk r (λ step. LogAnswers (core_of v d) step (core_of w e))
      due_ok (Ok step) does = due_done w step does
      due_ok (Err why) does = tt

      pub due_err : (r : Result LogStep (Refusal CauseState)) → IfErr r (λ why. IsDueRefusal v d why e) → OnErr r (w ≡ v) → IfErr r (IsLogRefusal (core_of v d) (core_of w e))
      due_err (Ok step) it same = tt
      due_err (Err why) it same = subst (λ (x : VolatileState). IsLogRefusal (core_of v d) (core_of x e) why) (sym same) (due_refused why it)

      pub due_kept : (r : Result LogStep (Refusal CauseState)) → IfOk r (λ step. DoesWhatIsDue v d step w e) → IfErr r (λ why. IsDueRefusal v d why e) → OnErr r (w ≡ v)
          → (w.faulted ≡ v.faulted) × (is_faulted e ≡ is_faulted d)
      due_kept (Ok step) does it same = due_fault w step does
      due_kept (Err why) does it same = (ap (λ (x : VolatileState). x.faulted) same, roomed_fault (due_roomed why it))

      pub due_left : (r : Result LogStep (Refusal CauseState)) → IfErr r (λ why. IsDueRefusal v d why e) → OnErr r (w ≡ v)
          → OnErr r (LeavesLog (core_of v d) (core_of w e) × TriesToLog (core_of v d) (core_of w e))
      due_left (Ok step) it same = tt
      due_left (Err why) it same = subst (λ (x : VolatileState). LeavesLog (core_of v d) (core_of x e) × TriesToLog (core_of v d) (core_of x e)) (sym same)
          (roomed_leaves (due_roomed why it), roomed_tries (due_roomed why it))

  -- what a call of the logger that is due, or what else is, does to a pair
  pub pair_due : (w : VolatileState) → IsVolatile layout w → IsDurable layout e → Tied w e → w.faulted ≡ v.faulted → is_faulted e ≡ is_faulted d → IsPair layout w e
  pair_due w volatile durable tied memory disk = record {
    volatile = volatile;
    durable = durable;
    tied = tied;
    fault = memory ∙ pair.fault ∙ sym disk;
  }

  -- the installer's calls

  installs_stay : (step : InstallStep) → DurableInstalls d step e → StaysCut d.objects e.objects
  installs_stay step it = stays_install d.objects e.objects (Ok step) it.0 tt (λ faulted. absurd (false≢true (sym running.1 ∙ faulted)))

  pub installs_tied : (step : InstallStep) → DurableInstalls d step e → Tied v e
  installs_tied step it = tied_stays layout v d e pair.durable it.1 (installs_stay step it) pair.tied

  pub installs_as : (w : VolatileState) (step : InstallStep) → DurableInstalls d step e → core_of w e ≡ core_of v e → InstallAnswers (core_of v d) step (core_of w e)
  installs_as w step it same = (it.0, same ∙ ap (core_of v) it.1)

  -- what is freed is logged
  abbrev sync_of : Installing → ℕ
  sync_of (install_sync upto) = upto
  sync_of install_none = 0
  sync_of (install_homes upto plan) = 0
  sync_of (install_start upto) = 0
  sync_of install_spent = 0

  pub freed_logged : (upto : ℕ) → DurableInstalls d (Freed upto) e → upto ≤ end_of e.objects
  freed_logged upto it =
      let frees : Frees d.objects e.objects = subst (λ (n : ℕ). InstallMoves n d.objects e.objects) (ap install_steps_by it.0.1) it.0.0.moves in
      let is : frees.upto ≡ upto = ap sync_of (sym frees.upto_is ∙ it.0.1) in
      omega (arith, frees.below, is, ap (λ (l : LogState). l.logged) frees.log)

  -- what is dropped from memory is not in the tail
  pub tail_trimmed : (w : VolatileState) (upto : ℕ) → IsVolatile layout w → DropsCuts v.tail upto w.tail → tail_of w.tail.log ≡ tail_of v.tail.log
  tail_trimmed w upto kept drops =
      ap (λ (l : LogState). tail_of l) drops.log
      ∙ drop-drop (v.tail.log.cut - w.tail.log.start) (w.tail.log.start - v.tail.log.start) v.tail.log.updates
      ∙ ap (λ (n : ℕ). drop n v.tail.log.updates) place
    where
      start_to_cut : w.tail.log.start ≤ w.tail.log.cut
      start_to_cut = (kept.cuts 0 (record { end = 0; commits = 0 }) (omega arith)).below

      place : (w.tail.log.start - v.tail.log.start) + (v.tail.log.cut - w.tail.log.start) ≡ v.tail.log.cut - v.tail.log.start
      place = omega (arith, drops.above, start_to_cut, ap (λ (l : LogState). l.cut) drops.log)

  pub trims_as : (w : VolatileState) (upto : ℕ) → IsVolatile layout w → DropsCuts v.tail upto w.tail → w ≡ record v { tail = w.tail } → core_of w e ≡ core_of v e
  trims_as w upto kept drops same =
      ap (λ (x : VolatileState). core_of x e) same
      ∙ ap (λ (us : List Update). record (core_of v e) { objects = record { wal = e.objects; tail = us } }) (tail_trimmed w upto kept drops)

  pub pair_trimmed : (w : VolatileState) → IsVolatile layout w → IsDurable layout e → Tied w e → w ≡ record v { tail = w.tail } → is_faulted e ≡ false → IsPair layout w e
  pair_trimmed w volatile durable tied same fine = record {
    volatile = volatile;
    durable = durable;
    tied = tied;
    fault = ap (λ (x : VolatileState). x.faulted) same ∙ pair.fault ∙ running.1 ∙ sym fine;
  }

  pub install_fails : (cause : CauseState) → IsDurableRefusal d e (DeviceFailed cause) → IsInstallRefusal (core_of v d) (core_of (failed v) e) (DeviceFailed cause)
  install_fails cause it = fails_as (Unit {0}) cause tt it

  -- for want of memory nothing is done
  pub install_unmade : (why : Refusal CauseState) → ((cause : CauseState) → why ≡ DeviceFailed cause → ⊥) → IsDurableRefusal d e why
      → IsInstallRefusal (core_of v d) (core_of v e) why × (e ≡ d)
  install_unmade NoMemory other it = ((running, it.1, it.2, ap (core_of v) it.3), it.3)
  install_unmade (DeviceFailed cause) other it = absurd (other cause refl)
  install_unmade BadAddress other it = absurd it
  install_unmade BadSize other it = absurd it
  install_unmade TooLarge other it = absurd it
  install_unmade Busy other it = absurd it
  install_unmade BadLog other it = absurd it
  install_unmade BadSuper other it = absurd it
  install_unmade (Stale cause) other it = absurd it
  install_unmade (Stranger cause) other it = absurd it
  install_unmade (Worn cause) other it = absurd it
  install_unmade (Full cause) other it = absurd it
  install_unmade (Closed cause) other it = absurd it
  install_unmade Fenced other it = absurd it

  -- a fetch

  pub pair_fetched : IsDurable layout e → e ≡ record d { objects = e.objects } → OnlyReadsLog d.objects e.objects → is_faulted e ≡ false → IsPair layout v e
  pair_fetched kept same reads fine = pair_on kept (tied_stays layout v d e pair.durable same (stays_read d.objects e.objects reads) pair.tied) fine

-- ---- of the core, seen from outside

module _ (layout : Shape) (v : VolatileState) (d : DurableState) (now : CoreState) (pair : IsPair layout v d) (is : core_of v d ≡ now) where
  pub crashes_still : Crashes now now
  crashes_still = subst (λ (c : CoreState). Crashes c c) is (crashes_memory layout v v d pair pair)

  pub crashes_seen : (w : VolatileState) (e : DurableState) → IsPair layout w e → CrashesDurable d e → Crashes now (core_of w e)
  crashes_seen w e after crash = subst (λ (c : CoreState). Crashes c (core_of w e)) is (crashes_pair layout v w d e pair after crash)

  pub crashes_noticed : (w : VolatileState) → IsPair layout w d → Crashes now (core_of w d)
  crashes_noticed w after = subst (λ (c : CoreState). Crashes c (core_of w d)) is (crashes_memory layout v w d pair after)

  pub leaves_lent : (IsTrue (disk_of d).honest → EveryImage (disk_of d).past (Leaves d)) → IsTrue (core_disk now).honest
      → EveryImage (core_disk now).past (LeavesHistory now.history)
  leaves_lent images = subst (λ (c : CoreState). IsTrue (core_disk c).honest → EveryImage (core_disk c).past (LeavesHistory c.history)) is
      (λ honest image one. leaves_history layout d v.ledger.history image pair.durable pair.tied.begins (omega (arith, pair.tied.marked)) (images honest image one))

  pub leaves_given : (disk : DiskState) → (IsTrue disk.honest → EveryImage disk.past (Leaves d)) → IsTrue disk.honest → EveryImage disk.past (LeavesHistory now.history)
  leaves_given disk images = subst (λ (c : CoreState). IsTrue disk.honest → EveryImage disk.past (LeavesHistory c.history)) is
      (λ honest image one. leaves_history layout d v.ledger.history image pair.durable pair.tied.begins (omega (arith, pair.tied.marked)) (images honest image one))

  pub trusted_seen : is_trusted now.history ≡ (core_disk now).honest
  trusted_seen = subst (λ (c : CoreState). is_trusted c.history ≡ (core_disk c).honest) is
      (trusted-longer d.front v.ledger.history pair.durable.begun pair.tied.begins ∙ pair.durable.trusted)

  pub size_seen : (core_disk now).past.size ≡ layout.blocks
  size_seen = subst (λ (c : CoreState). (core_disk c).past.size ≡ layout.blocks) is pair.durable.size

  pub outset_seen : outset_of v ≡ outset now
  outset_seen = same_outset layout v d pair ∙ ap outset is

-- a session began, or it was stopped
module _ (layout : Shape) (v : VolatileState) (d : DurableState) (pair : IsPair layout v d) where
  pub pair_noted : (next : ℕ) (closed : Bool) → IsPair layout (record v { ledger = record v.ledger { next = next; closed = closed } }) d
  pair_noted next closed = record {
    volatile = record {
      size = pair.volatile.size;
      begun = pair.volatile.begun;
      on_disk = pair.volatile.on_disk;
      made = pair.volatile.made;
      cut_to_next = pair.volatile.cut_to_next;
      small = pair.volatile.small;
      cuts = λ k c lt. let was = pair.volatile.cuts k c lt in record { above = was.above; below = was.below; earlier = was.earlier };
      updates = λ trusted. let has = pair.volatile.updates trusted in record { since = has.since; since_last = has.since_last };
      known = pair.volatile.known;
    };
    durable = pair.durable;
    tied = record {
      begins = pair.tied.begins;
      marked = pair.tied.marked;
      trimmed = pair.tied.trimmed;
      cut = pair.tied.cut;
      position = pair.tied.position;
      logged = pair.tied.logged;
    };
    fault = pair.fault;
  }

  pub pair_joined : {T E : Type 0} (w : VolatileState) (r : Result T E) → OnOk r (w ≡ record v { ledger = record v.ledger { next = v.ledger.next + 1 } }) → OnErr r (w ≡ v)
      → IsPair layout w d
  pair_joined w (Ok value) joined same = subst (λ (x : VolatileState). IsPair layout x d) (sym joined) (pair_noted (v.ledger.next + 1) v.ledger.closed)
  pair_joined w (Err why) joined same = subst (λ (x : VolatileState). IsPair layout x d) (sym same) pair
