use Rattle.journal_treecalls.proofs.Learned.{IfOk-like}
use Rattle.journal_treecalls.proofs.Fetching.{leaf-none, leaf-some}
use Rattle.journal_treecalls.proofs.fetch.fetch_leaf.Goals as goal

pub returns-then-number-eq0-clause-learns : goal.returns-then-number-eq0-clause-learns
returns-then-number-eq0-clause-learns g c = leaf-none _ _ c.args.head.now c.args.but c.args.i c.in_ok-number.number c.args.offset c.args.bytes.now c.requires.low c.if-number-eq0.true c.in_ok-number.ensures.learns

pub returns-clause-learns : goal.returns-clause-learns
returns-clause-learns g c = IfOk-like c.fetch_numbers.result _ _ (λ x l. leaf-some _ _ _ _ c.args.head.now c.args.but c.args.i c.in_ok-number.number c.args.offset c.in_ok-leaf.leaf c.bytes.result.now c.args.bytes.now _ c.requires.low c.if-number-eq0.false c.in_ok-number.ensures.learns c.in_ok-leaf.ensures.learns c.bytes.ensures l) c.fetch_numbers.ensures.learns
