-- What the holds of the two parts do, as the steps of one thread, of a pair that goes on.
use Rattle.std.proofs.Common.{◌≡◌, ◌⊎◌, ⊎_elim, ◌<◌, ◌≤◌, ℕ, false, true, Result, Ok, Err, OnOk, OnErr, IfOk, IfErr, sym, ap, subst, ◌∙◌}
use Rattle.std.proofs.lemmas.Bool.{false≢true}
use Rattle.journal_world.specs.declared.refusal.Refusal.{Refusal}
use Rattle.journal_world.specs.declared.refusal.Refusal.TheVariants.{NoMemory, BadAddress, BadSize, TooLarge, Busy, DeviceFailed, BadLog, BadSuper, Stale, Stranger, Worn, Full, Closed, Fenced}
use Rattle.journal_world.specs.Addresses.{Shape}
use Rattle.journal_world.specs.Histories.{count}
use Rattle.journal_wal.specs.Wal.{log_steps}
use Rattle.journal_parts.specs.declared.step.LogStep.{LogStep}
use Rattle.journal_parts.specs.declared.step.LogStep.TheVariants.{Idle, Cut, Put, Logged, Marked}
use Rattle.journal_memory.specs.Causes.{CauseState}
use Rattle.journal_memory.specs.Volatiles.{VolatileState, IsVolatile}
use Rattle.journal_parts.specs.Durables.{DurableState, Crashes, is_faulted, IsInstallRefusal as IsDurableRefusal}
use Rattle.journal_parts.specs.Pairs.{IsMarkDue, MarksBoth, MarksAll, DoesWhatIsDue}
use Rattle.journal_parts.specs.CoreStates.{IsRunning}
use Rattle.journal_parts.specs.CoreParts.{IsPair, core_of}
use Rattle.journal_core.specs.Steps.{LogAnswers, IsLogRefusal, LeavesLog, TriesToLog, IsInstallRefusal}
use Rattle.journal_parts.specs.Holds.{AnswersMarkOrCut}
use Rattle.journal_parts.proofs.Faults.{failed}
use Rattle.journal_core.proofs.Joining.{pair_due, due_done, due_fault, due_refused, due_roomed, roomed_leaves, roomed_tries, roomed_fault, install_fails, install_unmade}

module _ (n : Shape) (v : VolatileState) (d : DurableState) (pair : IsPair n v d) (running : IsRunning (core_of v d)) (none : log_steps d.objects ≡ 0) (w : VolatileState) (e : DurableState) where
  -- a stop is no hold of both
  due_closed : (step : LogStep) → DoesWhatIsDue v d step w e → w.ledger.closed ≡ v.ledger.closed
  due_closed Idle does = ap (λ (x : VolatileState). x.ledger.closed) does.1
  due_closed Cut does = ap (λ (x : VolatileState). x.ledger.closed) does.1.volatile
  due_closed Put does = absurd does
  due_closed Logged does = absurd does
  due_closed (Marked k) does = ⊎_elim
      (λ (both : (k ≡ d.logged) × MarksBoth v d w e). ap (λ (x : VolatileState). x.ledger.closed) both.1.volatile)
      (λ (all : (k ≡ count v.ledger.history) × (IsMarkDue v d → ⊥) × MarksAll v d w e). ap (λ (x : VolatileState). x.ledger.closed) all.2.volatile)
      does

  pub mark_or_cut_ok : (r : Result LogStep (Refusal CauseState)) → AnswersMarkOrCut n v d r w e → IfOk r (λ step. LogAnswers (core_of v d) step (core_of w e))
  mark_or_cut_ok (Ok step) it = due_done n v d pair running e none w step it.did
  mark_or_cut_ok (Err why) it = tt

  pub mark_or_cut_running : (r : Result LogStep (Refusal CauseState)) → AnswersMarkOrCut n v d r w e → OnOk r (IsRunning (core_of w e))
  mark_or_cut_running (Ok step) it = (due_closed step it.did ∙ running.0, (due_fault n v d pair running e none w step it.did).1 ∙ running.1)
  mark_or_cut_running (Err why) it = tt

  pub mark_or_cut_fine : (r : Result LogStep (Refusal CauseState)) → AnswersMarkOrCut n v d r w e → OnOk r (w.faulted ≡ false)
  mark_or_cut_fine (Ok step) it = (due_fault n v d pair running e none w step it.did).0 ∙ pair.fault ∙ running.1
  mark_or_cut_fine (Err why) it = tt

  pub mark_or_cut_refusal : (r : Result LogStep (Refusal CauseState)) → AnswersMarkOrCut n v d r w e → IfErr r (IsLogRefusal (core_of v d) (core_of w e))
  mark_or_cut_refusal (Ok step) it = tt
  mark_or_cut_refusal (Err why) it =
      subst (λ (x : VolatileState). IsLogRefusal (core_of v d) (core_of x e) why) (sym it.volatile) (due_refused n v d pair running e none why it.refusal)

  pub mark_or_cut_left : (r : Result LogStep (Refusal CauseState)) → AnswersMarkOrCut n v d r w e → OnErr r (LeavesLog (core_of v d) (core_of w e))
  mark_or_cut_left (Ok step) it = tt
  mark_or_cut_left (Err why) it =
      subst (λ (x : VolatileState). LeavesLog (core_of v d) (core_of x e)) (sym it.volatile)
      (roomed_leaves n v d pair running e none (due_roomed n v d pair running e none why it.refusal))

  pub mark_or_cut_tries : (r : Result LogStep (Refusal CauseState)) → AnswersMarkOrCut n v d r w e → OnErr r (TriesToLog (core_of v d) (core_of w e))
  mark_or_cut_tries (Ok step) it = tt
  mark_or_cut_tries (Err why) it =
      subst (λ (x : VolatileState). TriesToLog (core_of v d) (core_of x e)) (sym it.volatile)
      (roomed_tries n v d pair running e none (due_roomed n v d pair running e none why it.refusal))

  pub mark_or_cut_pair : (r : Result LogStep (Refusal CauseState)) → AnswersMarkOrCut n v d r w e → IsPair n w e
  mark_or_cut_pair (Ok step) it =
      let stays = due_fault n v d pair running e none w step it.did in
      pair_due n v d pair running e w it.volatile it.durable (it.tied pair.tied) stays.0 stays.1
  mark_or_cut_pair (Err why) it =
      pair_due n v d pair running e w (subst (IsVolatile n) (sym it.volatile) pair.volatile) it.durable (it.tied pair.tied)
      (ap (λ (x : VolatileState). x.faulted) it.volatile) (roomed_fault n v d pair running e none (due_roomed n v d pair running e none why it.refusal))

pub mark_or_cut_crash : (n : Shape) (v : VolatileState) (d : DurableState) (w : VolatileState) (e : DurableState) (r : Result LogStep (Refusal CauseState)) → AnswersMarkOrCut n v d r w e → Crashes d e
mark_or_cut_crash n v d w e (Ok step) it = it.crash
mark_or_cut_crash n v d w e (Err why) it = it.crash

module _ (n : Shape) (v : VolatileState) (d : DurableState) (pair : IsPair n v d) (running : IsRunning (core_of v d)) (e : DurableState) where
  -- the device failed in a call of the installer
  pub install_failed : (why : Refusal CauseState) → is_faulted e ≡ true → IsDurableRefusal d e why
      → IsInstallRefusal (core_of v d) (core_of (failed v) e) why × (e ≡ record d { objects = e.objects })
  install_failed (DeviceFailed cause) faulted it = (install_fails n v d pair running e cause it, it.others)
  install_failed NoMemory faulted it = absurd (false≢true (sym (ap is_faulted it.3 ∙ it.0) ∙ faulted))
  install_failed BadAddress faulted it = absurd it
  install_failed BadSize faulted it = absurd it
  install_failed TooLarge faulted it = absurd it
  install_failed Busy faulted it = absurd it
  install_failed BadLog faulted it = absurd it
  install_failed BadSuper faulted it = absurd it
  install_failed (Stale cause) faulted it = absurd it
  install_failed (Stranger cause) faulted it = absurd it
  install_failed (Worn cause) faulted it = absurd it
  install_failed (Full cause) faulted it = absurd it
  install_failed (Closed cause) faulted it = absurd it
  install_failed Fenced faulted it = absurd it

  -- a refusal of want of memory is none of the device
  abbrev is_no_memory : Refusal CauseState → Type 0
  is_no_memory NoMemory = Unit {0}
  is_no_memory other = ⊥

  pub install_starved : IsDurableRefusal d e NoMemory → IsInstallRefusal (core_of v d) (core_of v e) NoMemory × (e ≡ d)
  install_starved it = install_unmade n v d pair running e NoMemory (λ cause is. subst is_no_memory is tt) it
