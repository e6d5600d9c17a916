use Rattle.std.proofs.Common.{refl, ◌∙◌, ◌-◌, arith}
use Rattle.journal_treecalls.specs.Fetches.{number_at, leaf_begin}
use Rattle.journal_treecalls.proofs.Fetching.{numbers-begin, numbers-end, fills-named}
use Rattle.journal_treecalls.proofs.fetch.fetch_numbers.Goals as goal

pub loop-j-init : goal.loop-j-init
loop-j-init g c = record {
  first = c.requires.first;
  long = refl;
  few = let e = c.min-begin.ensures in omega (arith, e);
  learns = numbers-begin _ (λ j. number_at c.args.leaf.now (j - leaf_begin c.args.i)) c.args.but c.args.offset c.args.i c.first_block.result c.min-begin.result c.args.bytes.now c.first_block.ensures (let a = c.max.ensures in let b = c.min-begin.ensures in omega (arith, a, b));
}

pub loop-j-preserved : goal.loop-j-preserved
loop-j-preserved g c = record {
  first = c.in_ok-fetch_block.ensures.first;
  long = c.in_ok-fetch_block.ensures.long ∙ c.loop-j.invariant.long;
  few = let e = c.min-last.ensures in let t = c.loop-j-test.true in omega (arith, e, t);
  learns = fills-named _ _ _ (λ j. number_at c.args.leaf.now (j - leaf_begin c.args.i)) c.args.but (leaf_begin c.args.i) c.loop-j.j c.args.offset c.number_at-number.result c.args.bytes.now c.loop-j.bytes _
      (let a = c.max.ensures in let b = c.min-begin.ensures in let j = c.loop-j.auto.j in omega (arith, a, b, j)) c.number_at-number.ensures c.loop-j.invariant.learns c.in_ok-fetch_block.ensures.learns;
}

pub returns-clause-learns : goal.returns-clause-learns
returns-clause-learns g c = numbers-end _ _ (λ j. number_at c.args.leaf.now (j - leaf_begin c.args.i)) c.args.but c.args.offset c.args.i c.last_block.result c.min-last.result c.loop-j.j c.args.bytes.now c.loop-j.bytes c.requires.low c.last_block.ensures c.min-last.ensures c.loop-j-test.false c.loop-j.invariant.few c.loop-j.invariant.learns
