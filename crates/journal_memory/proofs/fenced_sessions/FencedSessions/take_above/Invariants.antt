use Rattle.std.proofs.Common.{◌≡◌}
use Rattle.journal_memory.proofs.fenced_sessions.FencedSessions.take_above.Given as goal

abbrev pub invariant-loop-index : goal.invariant-loop-index
invariant-loop-index l = l.self-inside ≡ l.initial.self-inside
