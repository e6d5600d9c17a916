use Rattle.std.proofs.Common.{refl}
use Rattle.journal_treecalls.proofs.Lining.{directory-listed}
use Rattle.journal_treecalls.proofs.listing.list_directory.Goals as goal

pub returns-clause-learns : goal.returns-clause-learns
returns-clause-learns g c = directory-listed _ _ _ _ _ c.args.number c.args.target.now c.args.cookie c.saturating_sub-begin.result c.args.room _ _ _ _ c.told.result c.reply_of.result c.lines.ensures refl c.in_ok-show_dot.ensures.learns c.in_ok-show_dot_dot.ensures.learns c.saturating_sub-begin.ensures c.in_ok-numbers.numbers c.block_count-count.result c.block_count-count.ensures.is c.in_ok-numbers.ensures.learns c.in_ok-show_blocks.ensures.learns c.told.ensures c.reply_of.ensures
