use Rattle.std.proofs.Common.{IsErr, refl}
use Rattle.journal_wal.specs.declared.step.GroupStep.{GroupStep}
use Rattle.journal_wal.specs.declared.step.GroupStep.TheVariants.{Logged}
use Rattle.journal_wal.specs.Wal.{LogAnswers as WalLogs}
use Rattle.journal_objlog.specs.ObjectLogs.{LogsMaps}
use Rattle.journal_objlog.specs.StepLaws.{may_crash, logs_maps, fails_maps}
use Rattle.journal_parts.proofs.Enduring.{kept_call, kept_logged, crashes_call}
use Rattle.journal_parts.proofs.CallsOfLogs.{leaves_seen, on_any, stays_fault, stays_logging, keeps_logging, answers_logging}
use Rattle.journal_memory.proofs.Stepping.{of_err, of_ok}
use Rattle.journal_parts.proofs.durable.Durable.advance_log.Goals as goal

-- the device failed

pub invariant_of-self : goal.invariant_of-self
invariant_of-self g c =
    let err : IsErr c.log_step.result = c.in_err-step.ensures.only_err refl in
    kept_call g.J.Naming.layout _ c.self.invariant c.log_step.new.self (may_crash c.self.inside.objects.log c.log_step.new.self c.log_step.ensures.crash)
    (λ honest. of_err c.log_step.result err (fails_maps c.self.inside.objects.log c.log_step.new.self honest c.log_step.result c.log_step.ensures.err))
    (stays_fault c.self.inside.objects.log c.log_step.new.self (of_err c.log_step.result err c.log_step.ensures.err).log (of_err c.log_step.result err c.log_step.ensures.err).faulted)

pub returns-in_err-step-clause-left : goal.returns-in_err-step-clause-left
returns-in_err-step-clause-left g c =
    let err : IsErr c.log_step.result = c.in_err-step.ensures.only_err refl in
    let fails = of_err c.log_step.result err c.log_step.ensures.err in
    on_any c.from_residual.result
    (leaves_seen _ _ c.self.view_is c.log_step.new.self
    (fails.log, λ honest. of_err c.log_step.result err (fails_maps c.self.inside.objects.log c.log_step.new.self honest c.log_step.result c.log_step.ensures.err)))

pub returns-in_err-step-clause-crash : goal.returns-in_err-step-clause-crash
returns-in_err-step-clause-crash g c =
    crashes_call g.J.Naming.layout _ _ _ c.self.invariant c.self.view_is (invariant_of-self g c)
    (may_crash c.self.inside.objects.log c.log_step.new.self c.log_step.ensures.crash)

-- the call that ends the group

pub invariant_of-self-in-Logged : goal.invariant_of-self-in-Logged
invariant_of-self-in-Logged g c =
    kept_logged g.J.Naming.layout _ c.self.invariant c.log_step.new.self (may_crash c.self.inside.objects.log c.log_step.new.self c.log_step.ensures.crash)
    (λ honest. of_ok (λ (step : GroupStep). LogsMaps c.self.inside.objects.log step c.log_step.new.self) c.log_step.result c.in_ok-step.step Logged c.in_ok-step.ensures.only_ok c.in-Logged.is (logs_maps c.self.inside.objects.log c.log_step.new.self honest c.log_step.result c.log_step.ensures.ok))
    (of_ok (λ (step : GroupStep). WalLogs c.self.inside.objects.log step c.log_step.new.self) c.log_step.result c.in_ok-step.step Logged c.in_ok-step.ensures.only_ok c.in-Logged.is c.log_step.ensures.ok)

pub returns-in-Logged-clause-crash : goal.returns-in-Logged-clause-crash
returns-in-Logged-clause-crash g c =
    crashes_call g.J.Naming.layout _ _ _ c.self.invariant c.self.view_is (invariant_of-self-in-Logged g c)
    (may_crash c.self.inside.objects.log c.log_step.new.self c.log_step.ensures.crash)

-- none, or another call

pub invariant_of-self-in_default : goal.invariant_of-self-in_default
invariant_of-self-in_default g c =
    let answers = of_ok (λ (step : GroupStep). WalLogs c.self.inside.objects.log step c.log_step.new.self) c.log_step.result c.in_ok-step.step c.in_ok-step.step c.in_ok-step.ensures.only_ok refl c.log_step.ensures.ok in
    kept_call g.J.Naming.layout _ c.self.invariant c.log_step.new.self (may_crash c.self.inside.objects.log c.log_step.new.self c.log_step.ensures.crash)
    (λ honest. keeps_logging c.self.inside.objects.log c.log_step.new.self c.self.invariant.tail c.in_ok-step.step c.in_default.not-Logged answers
    (of_ok (λ (step : GroupStep). LogsMaps c.self.inside.objects.log step c.log_step.new.self) c.log_step.result c.in_ok-step.step c.in_ok-step.step c.in_ok-step.ensures.only_ok refl (logs_maps c.self.inside.objects.log c.log_step.new.self honest c.log_step.result c.log_step.ensures.ok)))
    (stays_logging c.self.inside.objects.log c.log_step.new.self c.self.invariant.tail c.in_ok-step.step c.in_default.not-Logged answers)

pub returns-in_default-clause-ok : goal.returns-in_default-clause-ok
returns-in_default-clause-ok g c =
    let answers = of_ok (λ (step : GroupStep). WalLogs c.self.inside.objects.log step c.log_step.new.self) c.log_step.result c.in_ok-step.step c.in_ok-step.step c.in_ok-step.ensures.only_ok refl c.log_step.ensures.ok in
    answers_logging c.self.inside.objects.log c.log_step.new.self c.self.invariant.tail _ c.args.self.now c.self.view_is refl c.in_ok-step.step c.in_default.not-Logged answers

pub returns-in_default-clause-crash : goal.returns-in_default-clause-crash
returns-in_default-clause-crash g c =
    crashes_call g.J.Naming.layout _ _ _ c.self.invariant c.self.view_is (invariant_of-self-in_default g c)
    (may_crash c.self.inside.objects.log c.log_step.new.self c.log_step.ensures.crash)
