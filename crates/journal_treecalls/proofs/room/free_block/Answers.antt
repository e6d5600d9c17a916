use Rattle.std.proofs.Common.{sym, ◌∙◌}
use Rattle.journal_treecalls.proofs.Learning.{learns-then}
use Rattle.journal_treecalls.proofs.Unowned.{block-free, this-block}
use Rattle.journal_treecalls.proofs.room.free_block.Goals as goal

pub returns-clause-learns : goal.returns-clause-learns
returns-clause-learns g c = block-free _ _ c.args.block c.first_data-begin.result c.data_blocks-count.result c.from-index.result c.read-owner.result c.in_ok-had.had c.if_nobodys.result
    (learns-then _ _ _ _ _ c.in_ok-bytes.ensures.learns c.in_ok-had.ensures.learns _ (λ V m owner had. (owner ∙ sym c.read-owner.ensures.read, had)))
    (g.T.TreeDisk.are_sound c.is_had.new.disk) c.first_data-begin.ensures c.data_blocks-count.ensures.is c.from-index.ensures c.if-index-begin.false c.if-count-after.false c.if_nobodys.ensures

pub returns-clause-same : goal.returns-clause-same
returns-clause-same g c = this-block c.args.block c.in_ok-had.had c.if_nobodys.result c.if_nobodys.ensures
