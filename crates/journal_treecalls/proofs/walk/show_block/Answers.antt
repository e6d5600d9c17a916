use Rattle.journal_treecalls.proofs.Learned.{IfOk-like}
use Rattle.journal_treecalls.proofs.Walking.{block-none, block-before, block-full, block-shown}
use Rattle.journal_treecalls.proofs.walk.show_block.Goals as goal

pub returns-then-number-eq0-clause-learns : goal.returns-then-number-eq0-clause-learns
returns-then-number-eq0-clause-learns g c = block-none _ c.args.begin c.args.number c.args.j c.args.page.now c.if-number-eq0.true

pub returns-then-j-begin-clause-learns : goal.returns-then-j-begin-clause-learns
returns-then-j-begin-clause-learns g c = block-before _ c.args.begin c.args.number c.args.j c.args.page.now c.if-j-begin.true

pub returns-in-None-clause-learns : goal.returns-in-None-clause-learns
returns-in-None-clause-learns g c = block-full _ c.args.begin c.args.number c.args.j c.args.page.now c.in-None.is

pub returns-in_ok-block-in-Some-clause-learns : goal.returns-in_ok-block-in-Some-clause-learns
returns-in_ok-block-in-Some-clause-learns g c = IfOk-like c.show_bytes.result _ _ (λ _ k. block-shown _ _ _ c.args.begin c.args.number c.args.j c.in_ok-block-in-Some.block c.bytes.result.now _ _ c.if-number-eq0.false c.bytes.ensures c.in_ok-block-in-Some.ensures.learns k) c.show_bytes.ensures.learns
