use Rattle.std.proofs.Common.{sym, ap, subst, ◌∙◌, rules}
use Rattle.journal_world.specs.declared.refusal.Refusal.{Refusal}
use Rattle.journal_wal.specs.declared.step.InstallStep.{InstallStep}
use Rattle.journal_wal.specs.declared.step.InstallStep.TheVariants.{Freed}
use Rattle.journal_memory.specs.Causes.{CauseState}
use Rattle.journal_parts.specs.Durables.{InstallAnswers, IsInstallRefusal}
use Rattle.journal_parts.proofs.Between.{home_faulted, freed_to}
use Rattle.journal_parts.proofs.durable.Durable.install_call.Goals as goal

pub returns-in-Ok-Idle-clause-event : goal.returns-in-Ok-Idle-clause-event
returns-in-Ok-Idle-clause-event g c = record {
  did = subst (λ (s : InstallStep). InstallAnswers c.args.self.now s c.advance_install.new.self) c.in-Ok-Idle.field-0-is c.in-Ok-Idle.ensures.ok;
  fine = c.in-Ok-Idle.ensures.fine;
  kept = c.prove_invariant.ensures;
  crash = c.advance_install.ensures.crash;
}

pub returns-in-Ok-Put-clause-event : goal.returns-in-Ok-Put-clause-event
returns-in-Ok-Put-clause-event g c = record {
  did = subst (λ (s : InstallStep). InstallAnswers c.args.self.now s c.advance_install.new.self) c.in-Ok-Put.field-0-is c.in-Ok-Put.ensures.ok;
  fine = c.in-Ok-Put.ensures.fine;
  kept = c.prove_invariant-in-Ok-Put.ensures;
  crash = c.advance_install.ensures.crash;
}

pub returns-in-Ok-Freed-clause-event : goal.returns-in-Ok-Freed-clause-event
returns-in-Ok-Freed-clause-event g c = record {
  did = subst (λ (s : InstallStep). InstallAnswers c.args.self.now s c.advance_install.new.self) (c.in-Ok-Freed.field-0-is ∙ ap Freed (sym c.new-upto.ensures)) c.in-Ok-Freed.ensures.ok;
  fine = c.in-Ok-Freed.ensures.fine;
  kept = c.prove_invariant-in-Ok-Freed.ensures;
  crash = c.advance_install.ensures.crash;
}

pub returns-in-Ok-Freed-clause-home : goal.returns-in-Ok-Freed-clause-home
returns-in-Ok-Freed-clause-home g c =
    freed_to c.args.self.now c.advance_install.new.self c.new-upto.result
    (subst (λ (s : InstallStep). InstallAnswers c.args.self.now s c.advance_install.new.self) (c.in-Ok-Freed.field-0-is ∙ ap Freed (sym c.new-upto.ensures)) c.in-Ok-Freed.ensures.ok)

pub returns-in-Err-NoMemory-clause-event : goal.returns-in-Err-NoMemory-clause-event
returns-in-Err-NoMemory-clause-event g c = record {
  refusal = subst (λ (why : Refusal CauseState). IsInstallRefusal c.args.self.now c.advance_install.new.self why) c.in-Err-NoMemory.field-0-is c.in-Err-NoMemory.ensures.refusal;
  left = c.in-Err-NoMemory.ensures.left;
  tries = c.in-Err-NoMemory.ensures.tries;
  kept = c.prove_invariant-in-Err-NoMemory.ensures;
  crash = c.advance_install.ensures.crash;
}

pub returns-in-Err-clause-event : goal.returns-in-Err-clause-event
returns-in-Err-clause-event g c = record {
  refusal = c.in-Err.ensures.refusal;
  left = c.in-Err.ensures.left;
  tries = c.in-Err.ensures.tries;
  kept = c.prove_invariant-in-Err.ensures;
  crash = c.advance_install.ensures.crash;
}

pub returns-in-Err-clause-fault : goal.returns-in-Err-clause-fault
returns-in-Err-clause-fault g c = home_faulted c.args.self.now c.advance_install.new.self c.in-Err.why (λ is. search rules) c.in-Err.ensures.refusal
