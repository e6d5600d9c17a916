use Rattle.journal_tree.proofs.Exclusive.{calls-give-verifiers}
use Rattle.journal_tree.proofs.Growing.{changes-take-verifiers}
use Rattle.journal_tree.proofs.law.verifiers_are_of_creations.Goals as goal

pub returns : goal.returns
returns c = record { new = calls-give-verifiers; changes = changes-take-verifiers }
