use Rattle.std.proofs.Common.{◌≡◌, subst, arith}
use Rattle.journal_treecalls.specs.Reaches.{reach_count}
use Rattle.journal_treecalls.specs.Overlays.{laying_at, LaysBlocks}
use Rattle.journal_treecalls.proofs.Writes.{blocks-begin, blocks-more}
use Rattle.journal_treecalls.proofs.overlay.put_places.Goals as goal

pub loop-m-init : goal.loop-m-init
loop-m-init g c = (blocks-begin _ _ c.args.number (laying_at c.args.change.now c.args.image.now), omega arith)

pub loop-m-preserved : goal.loop-m-preserved
loop-m-preserved g c = (
  blocks-more _ _ _ _ _ _ c.args.number (laying_at c.args.change.now c.args.image.now) c.loop-m.m c.loop-m.invariant.0 c.in_ok-put_place.ensures.lays,
  let before = c.loop-m.invariant.1 in let more = c.in_ok-put_place.ensures.few in omega (arith, before, more),
)

pub returns-clause-lays : goal.returns-clause-lays
returns-clause-lays g c = let e : c.loop-m.m ≡ reach_count c.args.change.now.reach = omega (arith, c.loop-m-test.false, c.reach_count-m-end.ensures) in
    subst (LaysBlocks _ _ _ _ c.args.number (laying_at c.args.change.now c.args.image.now)) e c.loop-m.invariant.0

pub returns-clause-few : goal.returns-clause-few
returns-clause-few g c = let few = c.loop-m.invariant.1 in omega (arith, few, c.loop-m-test.false, c.reach_count-m-end.ensures)
