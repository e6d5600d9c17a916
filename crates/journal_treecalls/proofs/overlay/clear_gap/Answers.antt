use Rattle.journal_treecalls.proofs.Writes.{gap-none, gap-cleared}
use Rattle.journal_treecalls.proofs.Learning.{none-few, one-more}
use Rattle.journal_treecalls.proofs.overlay.clear_gap.Goals as goal

pub returns-in-None-clause-clears : goal.returns-in-None-clause-clears
returns-in-None-clause-clears g c = gap-none _ _ _ c.args.head.now c.args.offset _ c.in_ok-gap_of.ensures.first c.in_ok-gap_of.ensures.learns c.in-None.is

pub returns-in_ok-put_block-in-Some-clause-clears : goal.returns-in_ok-put_block-in-Some-clause-clears
returns-in_ok-put_block-in-Some-clause-clears g c = gap-cleared _ _ _ _ _ _ c.args.head.now c.args.offset c.in-Some.tail c.in_ok-block-in-Some.block c.clear_from-cleared.result _ c.in_ok-gap_of.ensures.learns c.in-Some.is c.in_ok-block-in-Some.ensures.first c.in_ok-put_block-in-Some.ensures.written c.clear_from-cleared.ensures.is c.in_ok-block-in-Some.ensures.learns c.in_ok-put_block-in-Some.ensures.same

pub returns-in-None-clause-few : goal.returns-in-None-clause-few
returns-in-None-clause-few g c = none-few _ 1 c.in_ok-gap_of.ensures.first

pub returns-in_ok-put_block-in-Some-clause-few : goal.returns-in_ok-put_block-in-Some-clause-few
returns-in_ok-put_block-in-Some-clause-few g c = one-more _ _ _ 0 c.in_ok-put_block-in-Some.ensures.written (none-few _ 0 c.in_ok-block-in-Some.ensures.first)
