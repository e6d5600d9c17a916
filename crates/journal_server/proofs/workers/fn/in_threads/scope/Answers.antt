use Rattle.journal_server.specs.Queues.{note_number}
use Rattle.journal_server.proofs.Steps.{all_below_given}
use Rattle.journal_server.proofs.workers.fn.in_threads.scope.Goals as goal

pub returns : goal.returns
returns g c =
    all_below_given _ note_number _ c.join_workers-notes.result _ _ _ c.hand_out-given.ensures.given c.join_workers-notes.ensures
