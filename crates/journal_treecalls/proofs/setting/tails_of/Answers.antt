use Rattle.journal_treecalls.proofs.Learned.{IfOk-like}
use Rattle.journal_treecalls.proofs.Tailing.{tails-grow, tails-cut, tails-same}
use Rattle.journal_treecalls.proofs.setting.tails_of.Goals as goal

pub returns-then-head-size-clause-learns : goal.returns-then-head-size-clause-learns
returns-then-head-size-clause-learns g c = IfOk-like c.grown_tails.result _ _ (λ t l. tails-grow _ _ c.args.head.now c.args.size t c.if-head-size.true l) c.grown_tails.ensures.learns

pub returns-then-size-head-clause-learns : goal.returns-then-size-head-clause-learns
returns-then-size-head-clause-learns g c = IfOk-like c.cut_tails.result _ _ (λ t l. tails-cut _ _ c.args.head.now c.args.size t c.if-head-size.false c.if-size-head.true l) c.cut_tails.ensures.learns

pub returns-clause-learns : goal.returns-clause-learns
returns-clause-learns g c = tails-same _ c.args.head.now c.args.size c.if-head-size.false c.if-size-head.false
