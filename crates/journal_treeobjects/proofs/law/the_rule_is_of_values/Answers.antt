use Rattle.journal_treeobjects.proofs.Ruling.{rule-of-values}
use Rattle.journal_treeobjects.proofs.law.the_rule_is_of_values.Goals as goal

pub returns : goal.returns
returns c = rule-of-values
