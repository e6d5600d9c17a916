use Rattle.std.proofs.Common.{◌≡◌, subst, arith}
use Rattle.journal_treecalls.specs.Reaches.{reach_count, IsWithin}
use Rattle.journal_treecalls.proofs.Taking.{same-sized, taken-begin, taken-more, taken-all}
use Rattle.journal_treecalls.proofs.reach.take_places.Goals as goal

pub loop-m-init : goal.loop-m-init
loop-m-init g c = record {
  first = c.requires.first;
  sized = same-sized c.args.reach c.args.old.now _ c.in_ok-new.ensures c.requires.sized;
  within = omega arith;
  learns = taken-begin _ c.args.reach c.args.old.now _ c.args.spare.now c.requires.fits c.in_ok-new.ensures;
}

pub loop-m-preserved : goal.loop-m-preserved
loop-m-preserved g c = record {
  first = c.in_ok-next.ensures.first;
  sized = c.in_ok-next.ensures.sized;
  within = subst (IsWithin c.args.spare.now) c.in-Some.is c.in_ok-next.ensures.within;
  learns = taken-more _ _ _ c.args.reach c.args.old.now c.loop-m.new _ c.args.spare.now c.loop-m.m c.loop-m.at c.in-Some.next _ c.requires.fits (omega (arith, c.loop-m-test.true, c.reach_count-m-end.ensures)) c.in-Some.is c.loop-m.invariant.learns c.in_ok-next.ensures.learns;
}

pub returns-clause-learns : goal.returns-clause-learns
returns-clause-learns g c = let e : c.loop-m.m ≡ reach_count c.args.reach = omega (arith, c.loop-m-test.false, c.reach_count-m-end.ensures) in
    taken-all _ _ c.args.reach c.args.old.now c.loop-m.new c.args.spare.now c.loop-m.m c.loop-m.at e c.loop-m.invariant.learns
