use Rattle.journal_treecalls.proofs.Learned.{IfOk-like}
use Rattle.journal_treecalls.proofs.Lining.{dots-used, dots-free}
use Rattle.journal_treecalls.proofs.listing.show_dot_dot.Goals as goal

pub returns-in-Used-clause-learns : goal.returns-in-Used-clause-learns
returns-in-Used-clause-learns g c = IfOk-like c.add.result _ _ (λ _ k. dots-used _ _ c.args.number c.args.target.now c.args.cookie c.number_above-above.result _ c.in-Used.head _ _ c.named_line.result c.told-node.result c.in_ok-head.ensures.learns c.in-Used.is c.number_above-above.ensures c.if-cookie-gt1.false c.told-node.ensures c.named_line.ensures k) c.add.ensures

pub returns-in-Free-clause-learns : goal.returns-in-Free-clause-learns
returns-in-Free-clause-learns g c = IfOk-like c.add-in-Free.result _ _ (λ _ k. dots-free _ _ c.args.number c.args.target.now c.args.cookie c.number_above-above.result _ c.in-Free.generation _ _ c.named_line-in-Free.result c.in_ok-head.ensures.learns c.in-Free.is c.number_above-above.ensures c.if-cookie-gt1.false c.named_line-in-Free.ensures k) c.add-in-Free.ensures
