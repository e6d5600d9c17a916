use Rattle.std.proofs.Common.{◌≡◌, [], true}
use Rattle.crossbeam_channel.specs.Claims.{view, IsSeatAt}
use Rattle.crossbeam_channel.specs.Ends.{receives_on}
use Rattle.journal_server.specs.Queues.{numbers_by, note_number}
use Rattle.journal_server.proofs.workers.work_on.Given as goal

abbrev pub invariant-loop : goal.invariant-loop
invariant-loop g l =
    (goal.iterator-loop g).can_next l.iterator' × (goal.iterator-loop g).is_finite l.iterator'
    × IsSeatAt (receives_on l.queue) l.pass × ((view l.pass).parts ≡ 1) × ((view l.pass).put ≡ [])
    × (l.is_whole ≡ true → (view l.pass).taken ≡ numbers_by note_number l.notes.items)
