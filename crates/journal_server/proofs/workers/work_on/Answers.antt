use Rattle.std.proofs.Common.{arith}
use Rattle.journal_server.proofs.Steps.{takes}
use Rattle.journal_server.proofs.workers.work_on.Goals as goal

pub recv_as-requires-clause-rule : goal.recv_as-requires-clause-rule
recv_as-requires-clause-rule g c =
    let p = c.loop.invariant.3 in
    (takes _ _ (omega arith), λ items views b at. tt)
