use Rattle.std.proofs.Common.{◌≡◌, vec_len}
use Rattle.journal_lockmap.proofs.map.padded_locks.Given as goal

abbrev pub invariant-loop : goal.invariant-loop
invariant-loop g l = vec_len l.locks ≡ l.counter
