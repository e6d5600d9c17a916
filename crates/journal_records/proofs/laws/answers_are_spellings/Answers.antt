use Rattle.journal_records.proofs.Spelling.{answer_laws, answer_length, unsure_has}
use Rattle.journal_records.proofs.laws.answers_are_spellings.Goals as goal

pub returns-clause-item : goal.returns-clause-item
returns-clause-item c = answer_laws

pub returns-clause-short : goal.returns-clause-short
returns-clause-short c = answer_length

pub returns-clause-unsure : goal.returns-clause-unsure
returns-clause-unsure c = λ place commits small few.
    let has = unsure_has place commits small few in
    record { has = has; short = answer_length _ has }
