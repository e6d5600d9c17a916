use Rattle.journal_command.proofs.Behind.{fail_at_zero}
use Rattle.journal_command.proofs.command.read_fail.Goals as goal

pub returns-then-call-eq0-clause-none : goal.returns-then-call-eq0-clause-none
returns-then-call-eq0-clause-none c = fail_at_zero _ _ _ c.in_ok-call.ensures.found.1 c.if-call-eq0.true
