use Rattle.journal_treecalls.proofs.Learned.{IfOk-like}
use Rattle.journal_treecalls.proofs.Tailing.{cut-none, cut-direct, cut-kept}
use Rattle.journal_treecalls.proofs.setting.cut_tails.Goals as goal

pub returns-then-head-eq0-clause-learns : goal.returns-then-head-eq0-clause-learns
returns-then-head-eq0-clause-learns g c = cut-none _ c.args.head.now c.args.size c.if-head-eq0.true

pub returns-then-leaves-eq0-clause-learns : goal.returns-then-leaves-eq0-clause-learns
returns-then-leaves-eq0-clause-learns g c = cut-direct _ c.args.head.now c.args.size c.last_leaf-leaves.result c.if-head-eq0.false c.last_leaf-leaves.ensures c.if-leaves-eq0.true

pub returns-clause-learns : goal.returns-clause-learns
returns-clause-learns g c = IfOk-like c.kept_tails.result _ _ (λ t l. cut-kept _ _ c.args.head.now c.args.size c.last_leaf-leaves.result t c.if-head-eq0.false c.last_leaf-leaves.ensures c.if-leaves-eq0.false l) c.kept_tails.ensures.learns
