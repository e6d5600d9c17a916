use Rattle.journal_treecalls.proofs.Tailing.{grown-far, grown-last}
use Rattle.journal_treecalls.proofs.setting.grown_tails.Goals as goal

pub returns-then-j-ge-MOST_FILE_BLOCKS-clause-learns : goal.returns-then-j-ge-MOST_FILE_BLOCKS-clause-learns
returns-then-j-ge-MOST_FILE_BLOCKS-clause-learns g c = grown-far _ c.args.head.now c.if-j-ge-MOST_FILE_BLOCKS.true

pub returns-clause-learns : goal.returns-clause-learns
returns-clause-learns g c = grown-last _ _ c.args.head.now c.in_ok-block.block c.if_some.result c.if-j-ge-MOST_FILE_BLOCKS.false c.in_ok-block.ensures.learns c.if_some.ensures.is
