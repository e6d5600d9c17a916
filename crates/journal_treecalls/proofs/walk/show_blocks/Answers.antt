use Rattle.journal_treecalls.proofs.Walking.{blocks-begin, blocks-more}
use Rattle.journal_treecalls.proofs.walk.show_blocks.Goals as goal

pub loop-j-init : goal.loop-j-init
loop-j-init g c = record { first = c.requires.first; learns = blocks-begin _ c.args.begin c.args.numbers.now c.args.page.now }

pub loop-j-preserved : goal.loop-j-preserved
loop-j-preserved g c = record {
  first = c.in_ok-show_block.ensures.first;
  learns = blocks-more _ _ _ c.args.begin c.args.numbers.now c.loop-j.j c.number.result _ _ _ c.number.ensures c.loop-j.invariant.learns c.in_ok-show_block.ensures.learns;
}
