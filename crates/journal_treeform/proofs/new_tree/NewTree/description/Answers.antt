use Rattle.std.proofs.Common.{length, ap, ◌∙◌}
use Rattle.std.proofs.lemmas.List.{take_at}
use Rattle.journal_treeobjects.specs.Maps.{description_of}
use Rattle.journal_treeform.proofs.Roots.{description-long}
use Rattle.journal_treeform.proofs.Zeros.{zero-block}
use Rattle.journal_treeform.proofs.new_tree.NewTree.description.Goals as goal

pub put-requires : goal.put-requires
put-requires g c = c.as_mut_bytes.ensures.contents ∙ c.in_ok-block.ensures.contents ∙ zero-block

pub returns-clause-content : goal.returns-clause-content
returns-clause-content g c =
    take_at _ _ 4096 (ap length c.put.ensures ∙ description-long (description_of c.args.self.now.cut c.args.self.now.disk)) ∙ c.put.ensures
