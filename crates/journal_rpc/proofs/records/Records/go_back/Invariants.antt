use Rattle.std.proofs.Common.{◌≡◌, length}
use Rattle.std.specs.VecDeque.{deque_len}
use Rattle.journal_rpc.specs.Stream.{Stream, ExtendsStream}
use Rattle.journal_rpc.proofs.Streams.{stream}
use Rattle.journal_rpc.proofs.records.Records.go_back.Given as goal

abbrev pub invariant-loop-self : goal.invariant-loop-self
invariant-loop-self l = (old : Stream) → length old.records ≡ l.records → ExtendsStream old l.fn.self
    → ExtendsStream old (stream l.self-inside.marking l.self-inside.waiting.items l.self-inside.begun.items l.self-inside.part)

abbrev pub decreases-loop-self : goal.decreases-loop-self
decreases-loop-self l = deque_len l.self-inside.waiting
