use Rattle.std.proofs.Common.{refl, ◌∙◌, get_or, arith}
use Rattle.journal_treecalls.proofs.Fetching.{direct-begin, direct-end, fills-more}
use Rattle.journal_treecalls.proofs.fetch.fetch_direct.Goals as goal

pub loop-j-init : goal.loop-j-init
loop-j-init g c = record {
  first = c.requires.first;
  long = refl;
  few = let e = c.min-begin.ensures in omega (arith, e);
  learns = direct-begin _ (λ j. get_or c.args.blocks.now j 0) c.args.but c.args.offset c.first_block.result c.min-begin.result c.args.bytes.now c.first_block.ensures c.min-begin.ensures;
}

pub loop-j-preserved : goal.loop-j-preserved
loop-j-preserved g c = record {
  first = c.in_ok-fetch_block.ensures.first;
  long = c.in_ok-fetch_block.ensures.long ∙ c.loop-j.invariant.long;
  few = let e = c.min-last.ensures in let t = c.loop-j-test.true in omega (arith, e, t);
  learns = fills-more _ _ _ (λ j. get_or c.args.blocks.now j 0) c.args.but 0 c.loop-j.j c.args.offset c.args.bytes.now c.loop-j.bytes _ (omega arith) c.loop-j.invariant.learns c.in_ok-fetch_block.ensures.learns;
}

pub returns-clause-learns : goal.returns-clause-learns
returns-clause-learns g c = direct-end _ _ (λ j. get_or c.args.blocks.now j 0) c.args.but c.args.offset c.last_block.result c.min-last.result c.loop-j.j c.args.bytes.now c.loop-j.bytes c.last_block.ensures c.min-last.ensures c.loop-j-test.false c.loop-j.invariant.few c.loop-j.invariant.learns
