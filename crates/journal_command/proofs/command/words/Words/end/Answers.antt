use Rattle.std.proofs.Common.{sym, ap, ◌∙◌}
use Rattle.std.specs.Option.{option_copied}
use Rattle.journal_command.specs.Commands.{words_left}
use Rattle.journal_command.proofs.Words.{words_some}
use Rattle.journal_command.proofs.command.words.Words.end.Goals as goal

pub returns-in-Some : goal.returns-in-Some
returns-in-Some c none =
    words_some c.in-Some.field-0.now (sym (ap (λ r. words_left (option_copied r)) c.in-Some.is) ∙ c.self.view_is ∙ none)
