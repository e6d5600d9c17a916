use Rattle.std.proofs.Common.{length}
use Rattle.journal_command.proofs.Terms.{HasRead}
use Rattle.journal_command.proofs.value.ValueRoom.push_bytes.Given as goal

abbrev pub invariant-loop-rest : goal.invariant-loop-rest
invariant-loop-rest l = HasRead l.digits l.rest l.initial.self.bytes.items l.self.bytes.items

abbrev pub decreases-loop-rest : goal.decreases-loop-rest
decreases-loop-rest l = length l.rest
