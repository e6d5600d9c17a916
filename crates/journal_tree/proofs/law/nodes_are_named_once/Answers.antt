use Rattle.journal_tree.proofs.Pages.{named-once}
use Rattle.journal_tree.proofs.law.nodes_are_named_once.Goals as goal

pub returns : goal.returns
returns c = named-once
