use Rattle.std.proofs.Common.{refl}
use Rattle.journal_treecalls.proofs.Learning.{learns-still}
use Rattle.journal_treecalls.proofs.Walking.{bytes-begin, bytes-more}
use Rattle.journal_treecalls.proofs.walk.show_bytes.Goals as goal

pub loop-at-init : goal.loop-at-init
loop-at-init g c = record { first = c.requires.first; learns = bytes-begin _ c.args.begin c.args.block.now c.args.j c.args.page.now }

pub loop-at-preserved : goal.loop-at-preserved
loop-at-preserved g c = record {
  first = c.in_ok-show_place.ensures.first;
  learns = bytes-more _ _ _ c.args.begin c.args.block.now c.args.j c.loop-at.at _ _ _ _ _ (learns-still _ _ _ _ c.loop-at.invariant.learns c.read_ahead-ahead.ensures.same) c.read.ensures refl c.in_ok-show_place.ensures.learns;
}
