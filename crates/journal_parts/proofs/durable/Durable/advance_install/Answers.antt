use Rattle.journal_objlog.specs.StepLaws.{may_crash, installs_maps, leaves_install}
use Rattle.journal_parts.proofs.Enduring.{kept_call, crashes_call}
use Rattle.journal_parts.proofs.CallsOfLogs.{stays_install, leaves_seen, on_refused}
use Rattle.journal_parts.proofs.durable.Durable.advance_install.Goals as goal

pub invariant_of-self : goal.invariant_of-self
invariant_of-self g c =
    kept_call g.J.Naming.layout _ c.self.invariant c.install_step.new.self
    (may_crash c.self.inside.objects.log c.install_step.new.self c.install_step.ensures.crash)
    (λ honest. installs_maps c.self.inside.objects.log c.install_step.new.self honest c.install_step.result c.install_step.ensures.ok c.install_step.ensures.refusal)
    (stays_install c.self.inside.objects.log c.install_step.new.self c.install_step.result c.install_step.ensures.ok c.install_step.ensures.refusal c.install_step.ensures.faulted)

pub returns-clause-left : goal.returns-clause-left
returns-clause-left g c =
    on_refused c.install_step.result c.raise.result c.raise.ensures.only_err
    (leaves_install c.self.inside.objects.log c.install_step.new.self c.install_step.result c.install_step.ensures.refusal)
    (leaves_seen _ _ c.self.view_is c.install_step.new.self)

pub returns-clause-crash : goal.returns-clause-crash
returns-clause-crash g c =
    crashes_call g.J.Naming.layout _ _ _ c.self.invariant c.self.view_is (invariant_of-self g c)
    (may_crash c.self.inside.objects.log c.install_step.new.self c.install_step.ensures.crash)
