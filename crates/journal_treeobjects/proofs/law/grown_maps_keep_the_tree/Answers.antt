use Rattle.journal_treeobjects.proofs.Wider.{grown-maps}
use Rattle.journal_treeobjects.proofs.law.grown_maps_keep_the_tree.Goals as goal

pub returns : goal.returns
returns c = grown-maps
