use Rattle.std.proofs.Common.{refl, rules}
use Rattle.journal_treecalls.proofs.Taking.{numbers-read}
use Rattle.journal_treecalls.proofs.reach.numbers_of.Goals as goal

pub returns-clause-learns : goal.returns-clause-learns
returns-clause-learns g c = numbers-read _ _ _ c.args.head.now c.args.reach _ c.in_ok-root.root.items _ refl refl refl (search rules) c.in_ok-root.ensures.learns c.in_ok-leaves.ensures.learns
