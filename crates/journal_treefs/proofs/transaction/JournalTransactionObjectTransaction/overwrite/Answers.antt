use Rattle.std.proofs.lemmas.Bool.{and_parts}
use Rattle.journal_treefs.proofs.transaction.JournalTransactionObjectTransaction.overwrite.Goals as goal

pub overwrite-requires : goal.overwrite-requires
overwrite-requires g c = record { kind = λ valid. (and_parts _ _ c.requires.object).1 }
