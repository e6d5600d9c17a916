use Rattle.std.proofs.Common.{sym, ap, ◌∙◌, ◌+◌, arith}
use Rattle.journal_treecalls.specs.Fetches.{last_leaf}
use Rattle.journal_treecalls.proofs.Fetching.{fetched-direct, fetched-more, fetched-end}
use Rattle.journal_treecalls.proofs.fetch.fetch.Goals as goal

pub loop-i-init : goal.loop-i-init
loop-i-init g c = record {
  first = c.in_ok-fetch_direct.ensures.first;
  long = c.in_ok-fetch_direct.ensures.long;
  few = let e = c.first_leaf-begin.ensures in omega (arith, e);
  learns = fetched-direct _ _ c.args.head.now c.args.but c.args.offset c.first_leaf-begin.result c.args.bytes.now _ c.first_leaf-begin.ensures c.requires.blank c.in_ok-fetch_direct.ensures.learns;
}

pub loop-i-preserved : goal.loop-i-preserved
loop-i-preserved g c = record {
  first = c.in_ok-fetch_leaf.ensures.first;
  long = c.in_ok-fetch_leaf.ensures.long ∙ c.loop-i.invariant.long;
  few = let e = c.last_leaf-last.ensures in let t = c.loop-i-test.true in omega (arith, e, t);
  learns = fetched-more _ _ _ c.args.head.now c.args.but c.args.offset c.loop-i.i c.loop-i.bytes _ c.loop-i.invariant.learns c.in_ok-fetch_leaf.ensures.learns;
}

pub returns-clause-learns : goal.returns-clause-learns
returns-clause-learns g c = fetched-end _ _ c.args.head.now c.args.but c.args.offset c.last_leaf-last.result c.loop-i.i c.loop-i.bytes
    (c.last_leaf-last.ensures ∙ ap (λ n. last_leaf (c.args.offset + n)) (c.in_ok-fetch_direct.ensures.long ∙ sym c.loop-i.invariant.long)) c.loop-i-test.false c.loop-i.invariant.few c.loop-i.invariant.learns
