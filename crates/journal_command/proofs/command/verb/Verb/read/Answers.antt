use Rattle.std.proofs.Common.{arith}
use Rattle.journal_command.proofs.Verbs.{no_verb}
use Rattle.journal_command.proofs.command.verb.Verb.read.Goals as goal

pub returns-clause-none : goal.returns-clause-none
returns-clause-none c = no_verb _ (λ k lt. c.loop-verb.invariant k (omega arith))
