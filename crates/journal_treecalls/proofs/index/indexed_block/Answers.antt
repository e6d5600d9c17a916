use Rattle.std.proofs.Common.{◌/◌, ◌%◌}
use Rattle.journal_treecalls.proofs.Learned.{IfOk-like}
use Rattle.journal_treecalls.proofs.Numbers.{number-indexed}
use Rattle.journal_treecalls.proofs.index.indexed_block.Goals as goal

pub returns-clause-learns : goal.returns-clause-learns
returns-clause-learns g c = IfOk-like c.number_in.result _ _ (λ number l. number-indexed _ _ _ c.args.head.now (c.args.after / 1024) (c.args.after % 1024) c.in_ok-leaf.leaf number c.in_ok-leaf.ensures.learns l) c.number_in.ensures.learns
