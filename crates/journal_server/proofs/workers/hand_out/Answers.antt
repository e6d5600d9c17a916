use Rattle.std.proofs.Common.{arith}
use Rattle.journal_server.proofs.Steps.{puts}
use Rattle.journal_server.proofs.workers.hand_out.Goals as goal

pub send_as-requires-clause-rule : goal.send_as-requires-clause-rule
send_as-requires-clause-rule g c =
    let p = c.loop-number.invariant.1 in
    (puts _ _ _ _ (omega (arith, p, c.requires.idle.0)), λ items views b at. tt)
