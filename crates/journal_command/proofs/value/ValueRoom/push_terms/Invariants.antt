use Rattle.std.proofs.Common.{length, take}
use Rattle.journal_command.proofs.Parts.{AreTerms, parts}
use Rattle.journal_command.proofs.value.ValueRoom.push_terms.Given as goal

abbrev pub invariant-loop-term : goal.invariant-loop-term
invariant-loop-term l = AreTerms (take (length l.yielded) (parts l.text)) l.self.bytes.items
