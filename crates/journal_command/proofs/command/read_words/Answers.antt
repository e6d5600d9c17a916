use Rattle.std.proofs.Common.{◌≡◌, ◌∷◌}
use Rattle.journal_command.specs.Commands.{line_words as words_of}
use Rattle.journal_command.proofs.Verbs.{says_none-no_verb, says_none-read, says-read}
use Rattle.journal_command.proofs.command.read_words.Goals as goal

pub returns-in_err-verb-clause-none : goal.returns-in_err-verb-clause-none
returns-in_err-verb-clause-none c =
    let is : words_of c.args.line.now ≡ c.in_ok-word.field-0.now ∷ c.word.new.self = cc c.in_ok-word.ensures in
    rw c.from_residual-in_err-verb.ensures (says_none-no_verb _ _ _ is c.in_err-verb.ensures.none)

pub returns-clause-none : goal.returns-clause-none
returns-clause-none c =
    let is : words_of c.args.line.now ≡ c.in_ok-word.field-0.now ∷ c.word.new.self = cc c.in_ok-word.ensures in
    says_none-read _ _ _ _ _ is c.in_ok-verb.ensures.found c.read_behind.ensures.none

pub returns-clause-found : goal.returns-clause-found
returns-clause-found c =
    let is : words_of c.args.line.now ≡ c.in_ok-word.field-0.now ∷ c.word.new.self = cc c.in_ok-word.ensures in
    says-read _ _ _ _ _ is c.in_ok-verb.ensures.found c.read_behind.ensures.found
