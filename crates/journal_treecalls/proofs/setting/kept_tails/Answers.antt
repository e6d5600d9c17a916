use Rattle.std.proofs.Common.{arith}
use Rattle.journal_treecalls.proofs.Tailing.{kept-leaf}
use Rattle.journal_treecalls.proofs.setting.kept_tails.Goals as goal

pub returns-clause-learns : goal.returns-clause-learns
returns-clause-learns g c = kept-leaf _ _ c.args.head.now c.args.leaves c.args.size c.in_ok-leaf.leaf _ c.with_leaf.result c.in_ok-leaf.ensures.learns (let e = c.last_block.ensures in omega (arith, e)) c.with_leaf.ensures.is
