use Rattle.journal_records.proofs.Spelling.{request_laws, unknown_is_none}
use Rattle.journal_records.proofs.laws.requests_are_spellings.Goals as goal

pub returns-clause-item : goal.returns-clause-item
returns-clause-item c = request_laws

pub returns-clause-unknown : goal.returns-clause-unknown
returns-clause-unknown c = unknown_is_none
