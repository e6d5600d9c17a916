use Rattle.std.proofs.Common.{◌≡◌, drop}
use Rattle.journal_memory.specs.Sessions.{is_in_runs}
use Rattle.journal_memory.proofs.fenced_sessions.FencedSessions.has.Given as goal

-- none of the runs that are not left has it
abbrev pub invariant-loop-run : goal.invariant-loop-run
invariant-loop-run l = is_in_runs l.fn.self.runs l.session ≡ is_in_runs (drop l.run-index l.run-items) l.session
