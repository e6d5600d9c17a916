use Rattle.std.proofs.Common.{sym, ap, ◌∙◌}
use Rattle.std.specs.Option.{option_copied}
use Rattle.journal_command.specs.Commands.{words_left}
use Rattle.journal_command.proofs.Words.{words-first, words-last}
use Rattle.journal_command.proofs.command.words.Words.word.Goals as goal

pub returns-in-Some : goal.returns-in-Some
returns-in-Some c =
    sym c.self.view_is ∙ ap (λ r. words_left (option_copied r)) c.in_ok-rest.was ∙ words-first _ _ (sym c.first_space.ensures ∙ c.in-Some.is)

pub returns-in-None : goal.returns-in-None
returns-in-None c =
    sym c.self.view_is ∙ ap (λ r. words_left (option_copied r)) c.in_ok-rest.was ∙ words-last _ (sym c.first_space.ensures ∙ c.in-None.is)
