use Rattle.journal_records.proofs.Streams.{single, pieces}
use Rattle.journal_records.proofs.laws.cuttings_do_not_matter.Goals as goal

pub returns-clause-single : goal.returns-clause-single
returns-clause-single c = single

pub returns-clause-pieces : goal.returns-clause-pieces
returns-clause-pieces c = pieces
