use Rattle.std.proofs.Common.{ap, ◌∙◌}
use Rattle.journal_treestore.specs.Bytes.{with_piece}
use Rattle.journal_treestore.proofs.Describing.{block_pieces}
use Rattle.journal_treestore.proofs.description.Description.put.Goals as goal

pub returns : goal.returns
returns c =
    c.put.ensures
    ∙ ap (λ v. with_piece v 0 c.front.result) c.requires
    ∙ ap (with_piece _ 0) c.front.ensures
    ∙ block_pieces c.args.self.now
