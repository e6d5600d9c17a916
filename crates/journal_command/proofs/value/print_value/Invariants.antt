use Rattle.std.proofs.Common.{◌≡◌, ◌++◌, List, ℕ, length}
use Rattle.std.specs.Io.KnownBytes.{Appends}
use Rattle.journal_command.specs.Values.{text_of}
use Rattle.journal_command.proofs.value.print_value.Given as goal

abbrev pub invariant-loop-byte : goal.invariant-loop-byte
invariant-loop-byte g l = (bs : List ℕ) × Appends (g.W.Write.contents l.initial.output) (g.W.Write.contents l.output) bs × (text_of l.value ≡ bs ++ text_of l.rest)

abbrev pub decreases-loop-byte : goal.decreases-loop-byte
decreases-loop-byte g l = length l.rest
