use Rattle.std.proofs.Common.{arith}
use Rattle.journal_server.proofs.Steps.{takes, learns}
use Rattle.journal_server.proofs.workers.is_drained.Goals as goal

pub try_recv_as-requires-clause-rule : goal.try_recv_as-requires-clause-rule
try_recv_as-requires-clause-rule g c =
    let p = c.requires.1 in
    (takes _ _ (omega arith), learns _ _ p)
