use Rattle.journal_treecalls.proofs.Learned.{IfOk-like}
use Rattle.journal_treecalls.proofs.Learning.{none-few, one-more}
use Rattle.journal_treecalls.proofs.Removed.{clears-one, clears-two}
use Rattle.journal_treecalls.proofs.removal.clear_entries.Goals as goal

pub returns-in-None-clause-clears : goal.returns-in-None-clause-clears
returns-in-None-clause-clears g c = IfOk-like c.put_block.result _ _ (λ _ is. clears-one _ _ _ _ _ c.args.places.now c.in_ok-block.block c.put_entry-entries.result c.in-None.is c.in_ok-block.ensures.first is c.in_ok-block.ensures.learns c.put_entry-entries.ensures.written c.put_block.ensures.same) c.put_block.ensures.written

pub returns-in_ok-put_block-in-Some-clause-clears : goal.returns-in_ok-put_block-in-Some-clause-clears
returns-in_ok-put_block-in-Some-clause-clears g c = IfOk-like c.put_block-in-Some-2.result _ _ (λ _ is. clears-two _ _ _ _ _ _ _ c.args.places.now c.in-Some.second c.in_ok-block.block c.put_entry-entries.result c.in_ok-block-in-Some.block c.put_entry-others.result c.in-Some.is
    c.in_ok-block-in-Some.ensures.first c.in_ok-put_block-in-Some.ensures.written is c.in_ok-block.ensures.learns c.put_entry-entries.ensures.written c.in_ok-block-in-Some.ensures.learns c.put_entry-others.ensures.written
    (λ V m. c.in_ok-put_block-in-Some.ensures.same V (c.put_block-in-Some-2.ensures.same V m))) c.put_block-in-Some-2.ensures.written

pub returns-in-None-clause-few : goal.returns-in-None-clause-few
returns-in-None-clause-few g c = IfOk-like c.put_block.result _ _ (λ _ is. one-more _ _ _ 1 is (none-few _ 1 c.in_ok-block.ensures.first)) c.put_block.ensures.written

pub returns-in_ok-put_block-in-Some-clause-few : goal.returns-in_ok-put_block-in-Some-clause-few
returns-in_ok-put_block-in-Some-clause-few g c = IfOk-like c.put_block-in-Some-2.result _ _ (λ _ is. one-more _ _ _ 1 is (one-more _ _ _ 0 c.in_ok-put_block-in-Some.ensures.written (none-few _ 0 c.in_ok-block-in-Some.ensures.first))) c.put_block-in-Some-2.ensures.written
