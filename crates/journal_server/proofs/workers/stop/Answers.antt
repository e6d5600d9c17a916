use Rattle.std.proofs.Common.{arith}
use Rattle.journal_server.proofs.Steps.{puts}
use Rattle.journal_server.proofs.workers.stop.Goals as goal

pub send_as-requires-clause-rule : goal.send_as-requires-clause-rule
send_as-requires-clause-rule g c =
    let q = c.requires.1 in
    (puts _ _ _ _ (omega arith), λ items views b at. tt)
