use Rattle.std.proofs.Common.{◌≡◌, ◌+◌, []}
use Rattle.crossbeam_channel.specs.Claims.{view, IsSeatAt}
use Rattle.crossbeam_channel.specs.Ends.{sends_on}
use Rattle.journal_server.specs.Queues.{below}
use Rattle.journal_server.proofs.workers.hand_out.Given as goal

abbrev pub invariant-loop-number : goal.invariant-loop-number
invariant-loop-number g l =
    IsSeatAt (sends_on l.queue) l.pass × ((view l.pass).parts ≡ (view l.fn.pass).parts) × ((view l.pass).taken ≡ []) × ((view l.pass).put ≡ below l.number)
    × (g.I.Source.given l.source ≡ g.I.Source.given l.fn.source + l.number)
