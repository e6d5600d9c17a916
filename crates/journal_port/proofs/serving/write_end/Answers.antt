use Rattle.std.proofs.KnownBytes.{Appends-nil}
use Rattle.journal_port.proofs.serving.write_end.Goals as goal
