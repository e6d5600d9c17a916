use Rattle.journal_treeobjects.proofs.Ruling.{cut-once}
use Rattle.journal_treeobjects.proofs.law.one_layout_is_cut_in_one_way.Goals as goal

pub returns : goal.returns
returns c = cut-once
