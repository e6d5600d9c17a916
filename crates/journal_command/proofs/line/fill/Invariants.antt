use Rattle.std.specs.Io.Buffered.{reader_remaining}
use Rattle.std.specs.Io.KnownBytes.{Keeps}
use Rattle.journal_command.proofs.line.fill.Given as goal

abbrev pub invariant-loop : goal.invariant-loop
invariant-loop g l = Keeps (reader_remaining g.I.Read.remaining l.fn.input) (reader_remaining g.I.Read.remaining l.input)
