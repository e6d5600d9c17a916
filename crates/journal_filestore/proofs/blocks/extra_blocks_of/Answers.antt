use Rattle.std.proofs.Common.{◌+◌, ◌++◌, length, ap, ◌∙◌}
use Rattle.std.specs.Prelude.{take, drop}
use Rattle.journal_inode.specs.declared.node.TheConstants.{MORE_BLOCKS}
use Rattle.journal_filestore.proofs.Numbering.{put_twice}
use Rattle.journal_filestore.proofs.blocks.extra_blocks_of.Goals as goal

pub returns-clause-numbers : goal.returns-clause-numbers
returns-clause-numbers c =
    c.put-2.ensures
    ∙ ap (λ xs. take (length c.args.kept.now) xs ++ c.args.fresh.now ++ drop (length c.args.kept.now + length c.args.fresh.now) xs) c.put.ensures
    ∙ put_twice c.args.kept.now c.args.fresh.now MORE_BLOCKS c.requires
