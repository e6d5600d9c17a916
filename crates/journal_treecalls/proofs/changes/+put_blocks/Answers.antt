use Rattle.std.proofs.Common.{sym, ap, ◌∙◌, arith}
use Rattle.journal_treecalls.proofs.Learned.{IfOk-like}
use Rattle.journal_treecalls.proofs.Putting.{puts-skip, puts-more, count-skip, count-more}
use Rattle.journal_treecalls.proofs.changes.+put_blocks.Goals as goal

pub returns-in-None-clause-puts : goal.returns-in-None-clause-puts
returns-in-None-clause-puts g t c = IfOk-like c.put_blocks.result _ _ (λ _ k. puts-skip _ _ _ c.args.changes.now c.args.some.now c.in-Some.change.now c.in-Some.others.now c.in-Some.ensures.cases.0 (sym c.last_block.ensures ∙ c.in-None.is) k) c.put_blocks.ensures.puts

pub returns-in-None-clause-few : goal.returns-in-None-clause-few
returns-in-None-clause-few g t c = IfOk-like c.put_blocks.result _ _ (λ _ few. let e = count-skip c.args.some.now c.in-Some.change.now c.in-Some.others.now c.in-Some.ensures.cases.0 (sym c.last_block.ensures ∙ c.in-None.is) in omega (arith, few, e)) c.put_blocks.ensures.few

pub returns-in_ok-put_blocks-in-Some-last_block-clause-puts : goal.returns-in_ok-put_blocks-in-Some-last_block-clause-puts
returns-in_ok-put_blocks-in-Some-last_block-clause-puts g t c = IfOk-like c.put_block.result _ _ (λ _ written. puts-more _ _ _ _ _ _ c.args.changes.now c.args.some.now c.in-Some.change.now c.in-Some.others.now c.in-Some-last_block.number _ _ c.in-Some.ensures.cases.0
    (sym c.last_block.ensures ∙ c.in-Some-last_block.is) c.in_ok-block-in-Some-last_block.ensures.learns c.changed_block-changed.ensures.is c.in_ok-put_blocks-in-Some-last_block.ensures.puts c.put_block.ensures.same written) c.put_block.ensures.written

pub returns-in_ok-put_blocks-in-Some-last_block-clause-few : goal.returns-in_ok-put_blocks-in-Some-last_block-clause-few
returns-in_ok-put_blocks-in-Some-last_block-clause-few g t c = IfOk-like c.put_block.result _ _ (λ _ written. count-more _ _ _ _ c.args.some.now c.in-Some.change.now c.in-Some.others.now c.in-Some.ensures.cases.0
    (sym c.last_block.ensures ∙ c.in-Some-last_block.is) written c.in_ok-put_blocks-in-Some-last_block.ensures.few) c.put_block.ensures.written
