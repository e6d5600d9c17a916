use Rattle.std.proofs.Common.{◌*◌, refl, ap, ◌∙◌, length, arith}
use Rattle.std.proofs.lemmas.List.{length-replicate}
use Rattle.journal_treecalls.proofs.Taking.{leaves-begin, leaves-more, leaves-all}
use Rattle.journal_treecalls.proofs.reach.leaves_of.Goals as goal

pub loop-i-init : goal.loop-i-init
loop-i-init g c = record {
  first = c.requires.first;
  long = ap length c.in_ok-leaves.ensures ∙ length-replicate (4096 * c.args.reach.leaves) 0;
  learns = leaves-begin _ c.args.reach c.args.root.now _ _ c.in_ok-leaves.ensures;
}

pub loop-i-preserved : goal.loop-i-preserved
loop-i-preserved g c = record {
  first = c.in_ok-copy_block.ensures.first;
  long = c.in_ok-copy_block.ensures.long ∙ c.loop-i.invariant.long;
  learns = leaves-more _ _ _ c.args.reach c.args.root.now c.loop-i.i c.number_at-number.result (4096 * c.loop-i.i) c.loop-i.leaves.items _ (let l = c.loop-i.invariant.long in let t = c.loop-i-test.true in omega (arith, l, t)) c.number_at-number.ensures refl c.loop-i.invariant.learns c.in_ok-copy_block.ensures.learns;
}

pub returns-clause-learns : goal.returns-clause-learns
returns-clause-learns g c = leaves-all _ _ c.args.reach c.args.root.now c.loop-i.i c.loop-i.leaves.items (let t = c.loop-i-test.false in omega (arith, t)) c.loop-i.invariant.learns
