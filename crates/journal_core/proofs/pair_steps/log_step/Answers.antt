use Rattle.std.proofs.Common.{◌≡◌, inr, false, true, ap, sym, subst, ◌∙◌}
use Rattle.journal_world.specs.declared.refusal.Refusal.{Refusal}
use Rattle.journal_wal.specs.Wal.{log_steps}
use Rattle.journal_wal.specs.declared.step.GroupStep.TheVariants.{Idle, Put, Logged}
use Rattle.journal_parts.specs.declared.due.LogCall.{LogCall}
use Rattle.journal_memory.specs.Causes.{CauseState}
use Rattle.journal_memory.specs.Volatiles.{VolatileState}
use Rattle.journal_parts.specs.Durables.{DurableState, Crashes as CrashesDurable}
use Rattle.journal_parts.specs.CallAnswers.{log_step_of}
use Rattle.journal_parts.specs.CoreStates.{IsRunning}
use Rattle.journal_parts.specs.CoreParts.{IsPair, core_of}
use Rattle.journal_core.specs.Steps.{IsLogRefusal, LeavesLog, TriesToLog}
use Rattle.journal_parts.specs.Holds.{MakesGroupCall, FailsGroupCall, AnswersMarkOrCut}
use Rattle.journal_parts.proofs.CallsOfLogs.{stays_fault}
use Rattle.journal_parts.proofs.Pairing.{tied_logged}
use Rattle.journal_parts.proofs.Faults.{failed}
use Rattle.journal_core.proofs.Joining.{crashes_pair, pair_on, pair_failed, call_faulted, logs_put, logs_end, log_fails, leaves_as}
use Rattle.journal_core.proofs.OneThread.{mark_or_cut_ok, mark_or_cut_running, mark_or_cut_fine, mark_or_cut_refusal, mark_or_cut_left, mark_or_cut_tries, mark_or_cut_pair, mark_or_cut_crash}
use Rattle.journal_core.proofs.pair_steps.log_step.Goals as goal

pub returns-in-Ok-Put : goal.returns-in-Ok-Put
returns-in-Ok-Put g c =
    let n = g.J.Naming.layout in
    let v = c.args.volatile.now in
    let d = c.args.durable.now in
    let e = c.log_call.new.self in
    let was = c.requires.pair in
    let it : MakesGroupCall n d Put e = subst (λ (call : LogCall). MakesGroupCall n d (log_step_of call) e) c.in-Ok-Put.field-0-is c.in-Ok-Put.ensures.event in
    let pair : IsPair n v e = pair_on n v d was c.requires.running e it.kept (tied_logged n v d e Put was.volatile was.durable it.did was.tied) it.fine.1 in
    record {
      ok = logs_put n v d was c.requires.running e it.did;
      running = (c.requires.running.0, it.fine.1);
      refusal = tt;
      left = tt;
      tries = tt;
      pair = pair;
      fine = was.fault ∙ c.requires.running.1;
      crash = crashes_pair n v v d e was pair it.crash;
    }

pub returns-in-Ok-Logged : goal.returns-in-Ok-Logged
returns-in-Ok-Logged g c =
    let n = g.J.Naming.layout in
    let v = c.args.volatile.now in
    let d = c.args.durable.now in
    let e = c.log_call.new.self in
    let was = c.requires.pair in
    let it : MakesGroupCall n d Logged e = subst (λ (call : LogCall). MakesGroupCall n d (log_step_of call) e) c.in-Ok-Logged.field-0-is c.in-Ok-Logged.ensures.event in
    let pair : IsPair n v e = pair_on n v d was c.requires.running e it.kept (tied_logged n v d e Logged was.volatile was.durable it.did was.tied) it.fine.1 in
    record {
      ok = logs_end n v d was c.requires.running e it.did;
      running = (c.requires.running.0, it.fine.1);
      refusal = tt;
      left = tt;
      tries = tt;
      pair = pair;
      fine = was.fault ∙ c.requires.running.1;
      crash = crashes_pair n v v d e was pair it.crash;
    }

pub returns-in-Ok-AtRest : goal.returns-in-Ok-AtRest
returns-in-Ok-AtRest g c =
    let n = g.J.Naming.layout in
    let v = c.args.volatile.now in
    let d = c.args.durable.now in
    let w = c.mark_or_cut.new.volatile in
    let e = c.mark_or_cut.new.self in
    let r = c.mark_or_cut.result in
    let was = c.requires.pair in
    let on = c.requires.running in
    let it : MakesGroupCall n d Idle c.log_call.new.self =
    subst (λ (call : LogCall). MakesGroupCall n d (log_step_of call) c.log_call.new.self) c.in-Ok-AtRest.field-0-is c.in-Ok-AtRest.ensures.event in
    let none : log_steps d.objects ≡ 0 = it.did.0 in
    let marks_or_cuts : AnswersMarkOrCut n v d r w e = subst (λ (x : DurableState). AnswersMarkOrCut n v x r w e) it.did.1 c.mark_or_cut.ensures.event in
    let pair : IsPair n w e = mark_or_cut_pair n v d was on none w e r marks_or_cuts in
    record {
      ok = mark_or_cut_ok n v d was on none w e r marks_or_cuts;
      running = mark_or_cut_running n v d was on none w e r marks_or_cuts;
      refusal = mark_or_cut_refusal n v d was on none w e r marks_or_cuts;
      left = mark_or_cut_left n v d was on none w e r marks_or_cuts;
      tries = mark_or_cut_tries n v d was on none w e r marks_or_cuts;
      pair = pair;
      fine = mark_or_cut_fine n v d was on none w e r marks_or_cuts;
      crash = crashes_pair n v w d e was pair (mark_or_cut_crash n v d w e r marks_or_cuts);
    }

pub returns-in-Err : goal.returns-in-Err
returns-in-Err g c =
    let n = g.J.Naming.layout in
    let v = c.args.volatile.now in
    let d = c.args.durable.now in
    let e = c.log_call.new.self in
    let w = c.note_fault-why.new.volatile in
    let why = c.note_fault-why.result in
    let was = c.requires.pair in
    let on = c.requires.running in
    let it : FailsGroupCall n d c.in-Err.fault e = c.in-Err.ensures.event in
    let faulted = call_faulted n v d was on e c.in-Err.fault it.refusal in
    let pair : IsPair n (failed v) e = pair_failed n v d was on e it.kept faulted.1 (stays_fault d.objects e.objects it.left.log faulted.0) faulted.0 in
    let after : IsPair n w e = subst (λ (x : VolatileState). IsPair n x e) (sym c.note_fault-why.ensures.event.noted) pair in
    let same : core_of w e ≡ core_of v e = ap (λ (x : VolatileState). core_of x e) c.note_fault-why.ensures.event.noted in
    record {
      ok = tt;
      running = tt;
      refusal = subst (λ (x : VolatileState). IsLogRefusal (core_of v d) (core_of x e) why) (sym c.note_fault-why.ensures.event.noted)
          (subst (λ (x : Refusal CauseState). IsLogRefusal (core_of v d) (core_of (failed v) e) x) (sym c.note_fault-why.ensures.refusal) (log_fails n v d was on e c.in-Err.fault it.refusal));
      left = leaves_as n v d was on e w it.left faulted.1 same;
      tries = inr it.tries;
      pair = after;
      fine = tt;
      crash = crashes_pair n v w d e was after it.crash;
    }
