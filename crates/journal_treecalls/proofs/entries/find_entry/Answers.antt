use Rattle.journal_treecalls.proofs.Learned.{IfOk-like}
use Rattle.journal_treecalls.proofs.Emptying.{entry-of}
use Rattle.journal_treecalls.proofs.entries.find_entry.Goals as goal

pub returns-clause-learns : goal.returns-clause-learns
returns-clause-learns g c = IfOk-like c.find_in_blocks.result _ _ (λ o k. entry-of _ _ _ c.args.directory.now c.in_ok-numbers.numbers c.block_count-count.result o c.block_count-count.ensures.is c.in_ok-numbers.ensures.learns k) c.find_in_blocks.ensures.learns
