use Rattle.journal_treecalls.proofs.Learned.{IfOk-like}
use Rattle.journal_treecalls.proofs.Lining.{dot-none, dot-shown}
use Rattle.journal_treecalls.proofs.listing.show_dot.Goals as goal

pub returns-then-cookie-ne0-clause-learns : goal.returns-then-cookie-ne0-clause-learns
returns-then-cookie-ne0-clause-learns g c = dot-none _ c.args.number c.args.head.now c.args.cookie c.args.page.now c.if-cookie-ne0.true

pub returns-clause-learns : goal.returns-clause-learns
returns-clause-learns g c = IfOk-like c.add.result _ _ (λ _ k. dot-shown _ c.args.number c.args.head.now c.args.cookie _ _ c.named_line.result c.told-node.result c.if-cookie-ne0.false c.told-node.ensures c.named_line.ensures k) c.add.ensures
