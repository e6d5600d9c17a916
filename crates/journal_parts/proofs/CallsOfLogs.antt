-- Which calls of an object log let no group come or go.
use Rattle.std.proofs.Common.{inl, ◌≡◌, ◌-◌, ℕ, zero, suc, Bool, true, false, drop, length, IsTrue, Result, Ok, Err, IsErr, OnErr, IfOk, IfErr, refl, sym, ap, subst, ◌∙◌, arith, length-drop}
use Rattle.std.proofs.lemmas.Bool.{false≢true}
use Rattle.journal_world.specs.declared.refusal.Refusal.{Refusal}
use Rattle.journal_world.specs.declared.refusal.Refusal.TheVariants.{NoMemory, BadAddress, BadSize, TooLarge, Busy, DeviceFailed, BadLog, BadSuper, Stale, Stranger, Worn, Full, Closed, Fenced}
use Rattle.journal_memlog.specs.Logs.{LogState, next_position, tail_of}
use Rattle.journal_wal.specs.declared.step.GroupStep.{GroupStep}
use Rattle.journal_wal.specs.declared.step.GroupStep.TheVariants.{Idle as LogIdle, Put as LogPut, Logged}
use Rattle.journal_wal.specs.declared.step.InstallStep.{InstallStep}
use Rattle.journal_wal.specs.declared.step.InstallStep.TheVariants.{Idle, Put, Freed}
use Rattle.journal_disk.specs.Disks.{DiskState, Keeps}
use Rattle.journal_wal.specs.Wal.{WalState, with_room, log_steps, install_steps, tail_length, LogsOn, LogAnswers, InstallMoves, Frees, InstallAnswers, IsInstallRefusal}
use Rattle.journal_objlog.specs.ObjectLogs.{OnlyReads, KeepsMaps, LogsMaps, is_faulted, disk_of as log_disk}
use Rattle.journal_parts.specs.Durables.{DurableState, LeavesLog, LogAnswers as DurableAnswers}
use Rattle.journal_memory.proofs.Stepping.{of_err}
use Rattle.journal_parts.proofs.Enduring.{StaysCut}
use Rattle.journal_parts.proofs.Resting.{rests_install}

-- the log in memory stays
stays_log : (old new : WalState) → new.log ≡ old.log
    → (is_faulted new ≡ false → log_steps new ≡ 0 → (is_faulted old ≡ false) × (log_steps old ≡ 0)) → StaysCut old new
stays_log old new log idle = record {
  tail = λ empty ends. ap (λ (l : LogState). length (tail_of l)) log ∙ empty;
  logged = ap (λ (l : LogState). l.logged) log;
  cut = ap (λ (l : LogState). l.cut) log;
  next = λ is ends. ap next_position log ∙ is ∙ sym (ap (λ (l : LogState). l.cut) log);
  idle = idle;
}

pub stays_same : (old new : WalState) → new ≡ old → StaysCut old new
stays_same old new same = stays_log old new (ap (λ (w : WalState). w.log) same) (λ fine none. (sym (ap is_faulted same) ∙ fine, sym (ap log_steps same) ∙ none))

pub stays_put : (old new : WalState) → LogsOn old new → StaysCut old new
stays_put old new puts = stays_log old new puts.log (λ fine none. absurd (omega (arith, puts.left, none)))

pub stays_fault : (old new : WalState) → new.log ≡ old.log → is_faulted new ≡ true → StaysCut old new
stays_fault old new log faulted = stays_log old new log (λ fine none. absurd (false≢true (sym fine ∙ faulted)))

pub stays_read : (old new : WalState) → OnlyReads old new → StaysCut old new
stays_read old new reads = record {
  tail = λ empty ends. ap tail_length reads.same ∙ empty;
  logged = ap (λ (w : WalState). w.log.logged) reads.same;
  cut = ap (λ (w : WalState). w.log.cut) reads.same;
  next = λ is ends. ap (λ (w : WalState). next_position w.log) reads.same ∙ is ∙ sym (ap (λ (w : WalState). w.log.cut) reads.same);
  idle = λ fine none. (by (is_faulted old) refl fine, sym (ap log_steps reads.same) ∙ none);
}
  where
    by : (b : Bool) → is_faulted old ≡ b → is_faulted new ≡ false → is_faulted old ≡ false
    by true is fine = absurd (false≢true (sym fine ∙ reads.stays is))
    by false is fine = is

-- the positions before the end are free
stays_freed : (old new : WalState) → Frees old new → (is_faulted new ≡ false → log_steps new ≡ 0 → (is_faulted old ≡ false) × (log_steps old ≡ 0)) → StaysCut old new
stays_freed old new frees idle = record {
  tail = λ empty ends. omega (
    arith,
    ap (λ (l : LogState). length (tail_of l)) frees.log,
    length-drop (old.log.cut - frees.upto) (drop (frees.upto - old.log.start) old.log.updates),
    length-drop (frees.upto - old.log.start) old.log.updates,
    length-drop (old.log.cut - old.log.start) old.log.updates,
    empty,
    ends,
    frees.above,
    frees.below,
  );
  logged = ap (λ (l : LogState). l.logged) frees.log;
  cut = ap (λ (l : LogState). l.cut) frees.log;
  next = λ is ends. omega (
    arith,
    ap next_position frees.log,
    ap (λ (l : LogState). l.cut) frees.log,
    length-drop (frees.upto - old.log.start) old.log.updates,
    is,
    ends,
    frees.above,
    frees.below,
  );
  idle = idle;
}

module _ (old new : WalState) (idle : is_faulted new ≡ false → log_steps new ≡ 0 → (is_faulted old ≡ false) × (log_steps old ≡ 0)) where
  stays_moved : (left : ℕ) → InstallMoves left old new → StaysCut old new
  stays_moved zero moves = stays_log old new moves.log idle
  stays_moved (suc zero) moves = stays_freed old new moves idle
  stays_moved (suc (suc left)) moves = stays_log old new moves.log idle

  stays_step : (r : Result InstallStep (Refusal Unit)) → IfOk r (λ step. InstallAnswers old step new) → IfErr r (IsInstallRefusal old new) → StaysCut old new
  stays_step (Ok Idle) ok err = stays_same old new ok.1
  stays_step (Ok Put) ok err = stays_moved (install_steps old) ok.0.moves
  stays_step (Ok (Freed upto)) ok err = stays_moved (install_steps old) ok.0.moves
  stays_step (Err NoMemory) ok err = stays_same old new err.1
  stays_step (Err (DeviceFailed cause)) ok err = stays_fault old new err.1.log err.1.faulted
  stays_step (Err BadAddress) ok err = absurd err
  stays_step (Err BadSize) ok err = absurd err
  stays_step (Err TooLarge) ok err = absurd err
  stays_step (Err Busy) ok err = absurd err
  stays_step (Err BadLog) ok err = absurd err
  stays_step (Err BadSuper) ok err = absurd err
  stays_step (Err (Stale cause)) ok err = absurd err
  stays_step (Err (Stranger cause)) ok err = absurd err
  stays_step (Err (Worn cause)) ok err = absurd err
  stays_step (Err (Full cause)) ok err = absurd err
  stays_step (Err (Closed cause)) ok err = absurd err
  stays_step (Err Fenced) ok err = absurd err

pub stays_install : (old new : WalState) (r : Result InstallStep (Refusal Unit)) → IfOk r (λ step. InstallAnswers old step new)
    → IfErr r (IsInstallRefusal old new) → (IsTrue (is_faulted old) → IsErr r × (new ≡ old)) → StaysCut old new
stays_install old new r ok err stays = stays_step old new (rests_install old new r ok err stays) r ok err

-- more room in memory is none of the log's
pub reads_room : (old new : WalState) → new ≡ with_room old new.log.room → OnlyReads old new
reads_room old new same = record {
  same = same ∙ (λ i. record old {
    ring = record old.ring { disk = sym (ap (λ (w : WalState). w.ring.disk) same) i; faulted = sym (ap (λ (w : WalState). w.ring.faulted) same) i };
    log = record old.log { room = new.log.room };
  });
  keeps = subst (λ (s : DiskState). Keeps old.ring.disk s) (sym (ap (λ (w : WalState). w.ring.disk) same)) (record { size = refl; honest = refl; failures = omega arith });
  past = λ _. ap (λ (w : WalState). w.ring.disk.past) same;
  fault = λ faulted. inl (subst IsTrue (ap (λ (w : WalState). w.ring.faulted) same) faulted);
  stays = λ faulted. subst IsTrue (sym (ap (λ (w : WalState). w.ring.faulted) same)) faulted;
}

-- where it has no tail, the logger's step that does not end a group is none, or the device call
-- that was due
module _ (old new : WalState) (empty : tail_length old ≡ 0) where
  pub stays_logging : (step : GroupStep) → (step ≡ Logged → ⊥) → LogAnswers old step new → StaysCut old new
  stays_logging LogIdle other answers = stays_same old new answers.1
  stays_logging LogPut other answers = stays_put old new answers
  stays_logging Logged other answers = absurd (other refl)

  pub keeps_logging : (step : GroupStep) → (step ≡ Logged → ⊥) → LogAnswers old step new → LogsMaps old step new → KeepsMaps old new
  keeps_logging LogIdle other answers maps = maps
  keeps_logging LogPut other answers maps = maps
  keeps_logging Logged other answers maps = absurd (other refl)

  answered : (d : DurableState) → old ≡ d.objects → (step : GroupStep) → (step ≡ Logged → ⊥) → LogAnswers old step new
      → DurableAnswers d step (record d { objects = new })
  answered d is LogIdle other answers = (ap log_steps (sym is) ∙ answers.0.steps, ap (λ (w : WalState). record d { objects = w }) (answers.1 ∙ is))
  answered d is LogPut other answers = (subst (λ (w : WalState). LogsOn w new) is answers, refl)
  answered d is Logged other answers = absurd (other refl)

  -- the same, seen from outside
  pub answers_logging : (inside now : DurableState) → inside ≡ now → old ≡ inside.objects → (step : GroupStep) → (step ≡ Logged → ⊥) → LogAnswers old step new
      → DurableAnswers now step (record inside { objects = new })
  answers_logging inside now seen is step other answers =
      subst (λ (d : DurableState). DurableAnswers d step (record inside { objects = new })) seen (answered inside is step other answers)

-- what a refused call leaves is so from outside
pub leaves_seen : (inside now : DurableState) → inside ≡ now → (new : WalState)
    → (new.log ≡ inside.objects.log) × (IsTrue (log_disk inside.objects).honest → KeepsMaps inside.objects new)
    → LeavesLog now (record inside { objects = new })
leaves_seen inside now seen new left =
    subst (λ (d : DurableState). LeavesLog d (record inside { objects = new })) seen (record { log = left.0; maps = left.1 })

-- what follows from a fact of the lower refusal holds of this one
pub on_refused : {T E F P Q : Type 0} (r : Result T E) (s : Result T F) → (IsErr s → IsErr r) → OnErr r P → (P → Q) → OnErr s Q
on_refused r (Ok value) only left then = tt
on_refused r (Err e) only left then = then (of_err r (only refl) left)

pub on_any : {T E P : Type 0} (r : Result T E) → P → OnErr r P
on_any (Ok value) holds = tt
on_any (Err e) holds = holds
