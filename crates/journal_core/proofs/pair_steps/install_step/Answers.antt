use Rattle.std.proofs.Common.{◌≡◌, ◌≤◌, true, refl, ap, sym, subst, ◌∙◌}
use Rattle.journal_world.specs.declared.refusal.Refusal.{Refusal}
use Rattle.journal_world.specs.declared.refusal.Refusal.TheVariants.{NoMemory}
use Rattle.journal_objlog.specs.ObjectLogs.{end_of}
use Rattle.journal_wal.specs.declared.step.InstallStep.{InstallStep}
use Rattle.journal_wal.specs.declared.step.InstallStep.TheVariants.{Idle, Put, Freed}
use Rattle.journal_parts.specs.declared.due.InstallCall.{InstallCall}
use Rattle.journal_parts.specs.declared.due.InstallFault.{InstallFault}
use Rattle.journal_memory.specs.Causes.{CauseState}
use Rattle.journal_memory.specs.Volatiles.{VolatileState}
use Rattle.journal_parts.specs.Durables.{DurableState, is_faulted}
use Rattle.journal_parts.specs.CallAnswers.{install_step_of, install_refusal_of, IfFreed, IfFailed}
use Rattle.journal_parts.specs.CoreParts.{IsPair, core_of}
use Rattle.journal_core.specs.Steps.{InstallAnswers, IsInstallRefusal}
use Rattle.journal_parts.specs.Holds.{MakesHomeCall, FailsHomeCall}
use Rattle.journal_parts.proofs.CallsOfLogs.{stays_fault}
use Rattle.journal_parts.proofs.Faults.{failed}
use Rattle.journal_core.proofs.Joining.{crashes_pair, pair_on, pair_failed, pair_trimmed, installs_tied, installs_as, trims_as, leaves_as}
use Rattle.journal_core.proofs.OneThread.{install_failed, install_starved}
use Rattle.journal_core.proofs.pair_steps.install_step.Goals as goal

pub returns-in-Ok-Idle : goal.returns-in-Ok-Idle
returns-in-Ok-Idle g c =
    let n = g.J.Naming.layout in
    let v = c.args.volatile.now in
    let d = c.args.durable.now in
    let e = c.install_call.new.self in
    let was = c.requires.pair in
    let on = c.requires.running in
    let it : MakesHomeCall n d Idle e = subst (λ (call : InstallCall). MakesHomeCall n d (install_step_of call) e) c.in-Ok-Idle.field-0-is c.in-Ok-Idle.ensures.event in
    let pair : IsPair n v e = pair_on n v d was on e it.kept (installs_tied n v d was on e Idle it.did) it.fine.1 in
    record {
      ok = installs_as n v d was on e v Idle it.did refl;
      running = (on.0, it.fine.1);
      refusal = tt;
      left = tt;
      tries = tt;
      pair = pair;
      crash = crashes_pair n v v d e was pair it.crash;
    }

pub returns-in-Ok-Put : goal.returns-in-Ok-Put
returns-in-Ok-Put g c =
    let n = g.J.Naming.layout in
    let v = c.args.volatile.now in
    let d = c.args.durable.now in
    let e = c.install_call.new.self in
    let was = c.requires.pair in
    let on = c.requires.running in
    let it : MakesHomeCall n d Put e = subst (λ (call : InstallCall). MakesHomeCall n d (install_step_of call) e) c.in-Ok-Put.field-0-is c.in-Ok-Put.ensures.event in
    let pair : IsPair n v e = pair_on n v d was on e it.kept (installs_tied n v d was on e Put it.did) it.fine.1 in
    record {
      ok = installs_as n v d was on e v Put it.did refl;
      running = (on.0, it.fine.1);
      refusal = tt;
      left = tt;
      tries = tt;
      pair = pair;
      crash = crashes_pair n v v d e was pair it.crash;
    }

pub trim-requires : goal.trim-requires
trim-requires g c = record {
  home = subst (λ (call : InstallCall). IfFreed (λ upto. upto ≤ end_of c.install_call.new.self.objects) call) c.in-Ok-Freed.field-0-is c.in-Ok-Freed.ensures.home;
}

pub returns-in-Ok-Freed : goal.returns-in-Ok-Freed
returns-in-Ok-Freed g c =
    let n = g.J.Naming.layout in
    let v = c.args.volatile.now in
    let d = c.args.durable.now in
    let e = c.install_call.new.self in
    let w = c.trim.new.volatile in
    let upto = c.in-Ok-Freed.freed in
    let was = c.requires.pair in
    let on = c.requires.running in
    let trims = c.trim.ensures.event in
    let it : MakesHomeCall n d (Freed upto) e = subst (λ (call : InstallCall). MakesHomeCall n d (install_step_of call) e) c.in-Ok-Freed.field-0-is c.in-Ok-Freed.ensures.event in
    let pair : IsPair n w e = pair_trimmed n v d was on e w trims.kept it.kept (trims.tied (installs_tied n v d was on e (Freed upto) it.did)) trims.others it.fine.1 in
    record {
      ok = subst (λ (step : InstallStep). InstallAnswers (core_of v d) step (core_of w e)) (sym c.trim.ensures.told)
          (installs_as n v d was on e w (Freed upto) it.did (trims_as n v d was on e w upto trims.kept trims.drops trims.others));
      running = (ap (λ (x : VolatileState). x.ledger.closed) trims.others ∙ on.0, it.fine.1);
      refusal = tt;
      left = tt;
      tries = tt;
      pair = pair;
      crash = crashes_pair n v w d e was pair it.crash;
    }

pub returns-in-Err-NoMemory : goal.returns-in-Err-NoMemory
returns-in-Err-NoMemory g c =
    let n = g.J.Naming.layout in
    let v = c.args.volatile.now in
    let d = c.args.durable.now in
    let e = c.install_call.new.self in
    let was = c.requires.pair in
    let on = c.requires.running in
    let it : FailsHomeCall n d NoMemory e =
    subst (λ (fault : InstallFault (Refusal CauseState)). FailsHomeCall n d (install_refusal_of fault) e) c.in-Err-NoMemory.field-0-is c.in-Err-NoMemory.ensures.event in
    let unmade = install_starved n v d was on e it.refusal in
    let pair : IsPair n v e = subst (IsPair n v) (sym unmade.1) was in
    record {
      ok = tt;
      running = tt;
      refusal = unmade.0;
      left = leaves_as n v d was on e v it.left (ap (λ (x : DurableState). record x { objects = e.objects }) unmade.1) refl;
      tries = it.tries;
      pair = pair;
      crash = crashes_pair n v v d e was pair it.crash;
    }

pub returns-in-Err-Failed : goal.returns-in-Err-Failed
returns-in-Err-Failed g c =
    let n = g.J.Naming.layout in
    let v = c.args.volatile.now in
    let d = c.args.durable.now in
    let e = c.install_call.new.self in
    let w = c.note_fault-why.new.volatile in
    let fault = c.in-Err-Failed.fault in
    let was = c.requires.pair in
    let on = c.requires.running in
    let it : FailsHomeCall n d fault e =
    subst (λ (fault : InstallFault (Refusal CauseState)). FailsHomeCall n d (install_refusal_of fault) e) c.in-Err-Failed.field-0-is c.in-Err-Failed.ensures.event in
    let faulted : is_faulted e ≡ true = subst (IfFailed (is_faulted e ≡ true)) c.in-Err-Failed.field-0-is c.in-Err-Failed.ensures.fault in
    let refused = install_failed n v d was on e fault faulted it.refusal in
    let pair : IsPair n (failed v) e = pair_failed n v d was on e it.kept refused.1 (stays_fault d.objects e.objects it.left.log faulted) faulted in
    let after : IsPair n w e = subst (λ (x : VolatileState). IsPair n x e) (sym c.note_fault-why.ensures.event.noted) pair in
    record {
      ok = tt;
      running = tt;
      refusal = subst (λ (x : VolatileState). IsInstallRefusal (core_of v d) (core_of x e) c.note_fault-why.result) (sym c.note_fault-why.ensures.event.noted)
          (subst (λ (x : Refusal CauseState). IsInstallRefusal (core_of v d) (core_of (failed v) e) x) (sym c.note_fault-why.ensures.refusal) refused.0);
      left = leaves_as n v d was on e w it.left refused.1 (ap (λ (x : VolatileState). core_of x e) c.note_fault-why.ensures.event.noted);
      tries = it.tries;
      pair = after;
      crash = crashes_pair n v w d e was after it.crash;
    }
