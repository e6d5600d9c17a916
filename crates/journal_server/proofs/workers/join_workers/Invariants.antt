use Rattle.std.proofs.Common.{◌≡◌, ◌+◌, ◌<◌, length}
use Rattle.std.specs.List.{All}
use Rattle.std.specs.Vec.Iter.{into_iter_items}
use Rattle.crossbeam_channel.specs.Claims.{view, IsSeatAt}
use Rattle.crossbeam_channel.specs.Ends.{sends_on}
use Rattle.journal_server.specs.Queues.{numbers_by, note_number}
use Rattle.journal_server.proofs.workers.join_workers.Given as goal

-- the part of each worker that has ended is taken in, and what it took is noted
abbrev pub invariant-loop-worker : goal.invariant-loop-worker
invariant-loop-worker g l = record {
  seat : IsSeatAt (sends_on l.sender) l.pass;
  parts : (view l.pass).parts + length (into_iter_items l.worker-iterator) ≡ 65;
  some : 0 < (view l.pass).parts;
  put : (view l.pass).put ≡ (view l.fn.pass).put;
  taken : (view l.pass).taken ≡ numbers_by note_number l.notes.items;
  promised : All (λ w. w.promise.0.now ≡ l.queue) (into_iter_items l.worker-iterator);
}
