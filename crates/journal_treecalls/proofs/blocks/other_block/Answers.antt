use Rattle.journal_treecalls.proofs.Learned.{IfOk-both}
use Rattle.journal_treecalls.proofs.Growths.{other-free}
use Rattle.journal_treecalls.proofs.blocks.other_block.Goals as goal

pub returns-clause-learns : goal.returns-clause-learns
returns-clause-learns g c = IfOk-both c.free_block.result _ _ _ (λ o l same. other-free _ _ c.args.place.now c.args.block c.is_taken.result o c.is_taken.ensures c.if-is_taken.false same l) c.free_block.ensures.learns c.free_block.ensures.same
