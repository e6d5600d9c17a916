use Rattle.journal_tree.proofs.Pages.{begins, begins-fit}
use Rattle.journal_tree.proofs.law.first_is_a_tree.Goals as goal

pub returns : goal.returns
returns c = record { tree = begins; bounds = begins-fit }
