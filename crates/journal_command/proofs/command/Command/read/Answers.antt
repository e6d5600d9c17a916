use Rattle.journal_command.proofs.Verbs.{none_said}
use Rattle.journal_command.proofs.command.Command.read.Goals as goal

pub returns-clause-none : goal.returns-clause-none
returns-clause-none c = none_said _ _ c.read_words.ensures.none
