use Rattle.std.proofs.Common.{◌≡◌, ◌+◌, [], length}
use Rattle.std.specs.List.{All}
use Rattle.crossbeam_channel.specs.Claims.{view, IsSeatAt}
use Rattle.crossbeam_channel.specs.Ends.{sends_on}
use Rattle.journal_server.proofs.workers.spawn_workers.Given as goal

-- a part was cut off for each worker that was begun
abbrev pub invariant-loop-begun : goal.invariant-loop-begun
invariant-loop-begun g l = record {
  seat : IsSeatAt (sends_on l.sender) l.pass;
  parts : (view l.pass).parts + l._begun ≡ 65;
  put : (view l.pass).put ≡ [];
  taken : (view l.pass).taken ≡ [];
  number : length l.workers.items ≡ l._begun;
  promised : All (λ w. w.promise.0.now ≡ l.queue) l.workers.items;
}
