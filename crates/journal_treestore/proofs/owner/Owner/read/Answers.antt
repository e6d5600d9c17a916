use Rattle.std.proofs.Common.{ap, ◌∙◌}
use Rattle.journal_treestore.specs.Owners.{owner_from}
use Rattle.journal_treestore.proofs.Recording.{owner_read}
use Rattle.journal_treestore.proofs.owner.Owner.read.Goals as goal

pub returns-clause-read_back : goal.returns-clause-read_back
returns-clause-read_back c = λ owner a b is. (λ i. record { number = c.word.ensures i; place = c.word-2.ensures i }) ∙ ap owner_from is ∙ owner_read owner a b
