use Rattle.journal_twophase.proofs.Failing.{close_refused}
use Rattle.journal_twophase.proofs.device.show_images.Goals as goal

pub returns-in-Err-clause-refusal : goal.returns-in-Err-clause-refusal
returns-in-Err-clause-refusal g c =
    close_refused c.args.volatile.now.ledger.history c.args.volatile.now c.args.durable.now c.args.durable.now.marked c.in-Err.why c.in-Err.ensures.refusal
