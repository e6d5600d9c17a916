use Rattle.std.proofs.Common.{subst}
use Rattle.journal_wal.specs.declared.step.GroupStep.{GroupStep}
use Rattle.journal_parts.specs.Durables.{LogAnswers}
use Rattle.journal_parts.proofs.Between.{call_fault}
use Rattle.journal_parts.proofs.durable.Durable.log_call.Goals as goal

pub returns-in-Ok-Put-clause-event : goal.returns-in-Ok-Put-clause-event
returns-in-Ok-Put-clause-event g c = record {
  did = subst (λ (s : GroupStep). LogAnswers c.args.self.now s c.advance_log.new.self) c.in-Ok-Put.field-0-is c.in-Ok-Put.ensures.ok;
  fine = c.in-Ok-Put.ensures.fine;
  kept = c.prove_invariant.ensures;
  crash = c.advance_log.ensures.crash;
}

pub returns-in-Ok-Logged-clause-event : goal.returns-in-Ok-Logged-clause-event
returns-in-Ok-Logged-clause-event g c = record {
  did = subst (λ (s : GroupStep). LogAnswers c.args.self.now s c.advance_log.new.self) c.in-Ok-Logged.field-0-is c.in-Ok-Logged.ensures.ok;
  fine = c.in-Ok-Logged.ensures.fine;
  kept = c.prove_invariant-in-Ok-Logged.ensures;
  crash = c.advance_log.ensures.crash;
}

pub returns-in-Ok-Idle-clause-event : goal.returns-in-Ok-Idle-clause-event
returns-in-Ok-Idle-clause-event g c = record {
  did = subst (λ (s : GroupStep). LogAnswers c.args.self.now s c.advance_log.new.self) c.in-Ok-Idle.field-0-is c.in-Ok-Idle.ensures.ok;
  fine = c.in-Ok-Idle.ensures.fine;
  kept = c.prove_invariant-in-Ok-Idle.ensures;
  crash = c.advance_log.ensures.crash;
}

pub returns-in-Err-clause-event : goal.returns-in-Err-clause-event
returns-in-Err-clause-event g c = record {
  refusal = c.in-Err.ensures.refusal;
  left = c.in-Err.ensures.left;
  tries = c.in-Err.ensures.tries;
  kept = c.prove_invariant-in-Err.ensures;
  crash = c.advance_log.ensures.crash;
}

pub returns-in-Err-clause-fault : goal.returns-in-Err-clause-fault
returns-in-Err-clause-fault g c = (call_fault c.args.self.now c.advance_log.new.self c.in-Err.why c.in-Err.ensures.refusal).0
