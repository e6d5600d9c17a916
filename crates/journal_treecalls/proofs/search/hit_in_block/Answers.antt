use Rattle.journal_treecalls.proofs.Learned.{IfOk-like, block-hits, no-block}
use Rattle.journal_treecalls.proofs.search.hit_in_block.Goals as goal

pub returns-then-which-eq0-clause-learns : goal.returns-then-which-eq0-clause-learns
returns-then-which-eq0-clause-learns g c = no-block _ c.args.which c.args.tag c.args.name.now c.if-which-eq0.true

pub returns-clause-learns : goal.returns-clause-learns
returns-clause-learns g c = IfOk-like c.hit_in.result _ _ (λ o k. block-hits _ _ c.args.which c.args.tag c.args.name.now c.in_ok-block.block c.bytes.result.now o _ c.if-which-eq0.false c.bytes.ensures c.in_ok-block.ensures.learns k) c.hit_in.ensures.learns
