use Rattle.journal_parts.proofs.Lending.{disk_lent, disk_unshown}
use Rattle.journal_parts.proofs.durable.Durable.show_disk.Goals as goal

pub returns-in_err-show_step-clause-event : goal.returns-in_err-show_step-clause-event
returns-in_err-show_step-clause-event g c =
    disk_unshown c.args.volatile.now c.args.self.now c.args.session.now c.show_step.new.session c.from_residual.result c.in_err-show_step.field-0.0 c.from_residual.ensures.1
    c.in_err-show_step.ensures.refusal c.show_step.ensures.extends

pub returns-clause-event : goal.returns-clause-event
returns-clause-event g c =
    disk_lent c.args.volatile.now c.args.self.now c.args.session.now c.show_step.new.session c.disk_under.result c.in_ok-show_step.ensures.shown c.show_step.ensures.extends
    c.disk_under.ensures.trusted c.disk_under.ensures.images c.disk_under.ensures.refusal c.disk_under.ensures.only
