use Rattle.std.proofs.Common.{ap, ◌∙◌}
use Rattle.journal_treestore.specs.Descriptions.{description_from}
use Rattle.journal_treestore.proofs.Describing.{description_read}
use Rattle.journal_treestore.proofs.description.Description.read.Goals as goal

pub returns-clause-read_back : goal.returns-clause-read_back
returns-clause-read_back c = λ d a b e is. (λ i. record { blocks = c.long.ensures i; numbers = c.long-2.ensures i; disk = c.long-3.ensures i }) ∙ ap description_from is ∙ description_read d a b e
