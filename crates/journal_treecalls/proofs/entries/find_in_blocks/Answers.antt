use Rattle.journal_treecalls.proofs.Emptying.{none-begin, none-more, one-found}
use Rattle.journal_treecalls.proofs.entries.find_in_blocks.Goals as goal

pub loop-j-init : goal.loop-j-init
loop-j-init g c = record { first = c.requires.first; learns = none-begin _ c.args.numbers.now }

pub loop-j-preserved : goal.loop-j-preserved
loop-j-preserved g c = record {
  first = c.in_ok-other.ensures.first;
  learns = none-more _ _ _ c.args.numbers.now c.loop-j.j c.args.count c.number.result _ c.number.ensures c.loop-j.invariant.learns c.in_ok-other.ensures.learns c.in-None.is;
}

pub returns-in-Some-clause-learns : goal.returns-in-Some-clause-learns
returns-in-Some-clause-learns g c = one-found _ _ _ c.args.numbers.now c.loop-j.j c.args.count c.number.result _ c.number.ensures c.loop-j.invariant.learns c.in_ok-other.ensures.learns c.in-Some.other c.in-Some.is
