use Rattle.std.proofs.Common.{length, take}
use Rattle.journal_command.proofs.Listing.{AreNumbers, parts}
use Rattle.journal_command.proofs.choice.ChoiceRoom.push_numbers.Given as goal

abbrev pub invariant-loop-part : goal.invariant-loop-part
invariant-loop-part l = AreNumbers (take (length l.yielded) (parts l.text)) l.self.numbers.items
