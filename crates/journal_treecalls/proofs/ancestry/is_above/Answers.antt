use Rattle.std.proofs.Common.{refl, arith}
use Rattle.journal_treecalls.proofs.Upward.{up-met, up-root, up-free, up-used, up-end}
use Rattle.journal_treecalls.proofs.ancestry.is_above.Goals as goal

pub returns-then-at-node-clause-learns : goal.returns-then-at-node-clause-learns
returns-then-at-node-clause-learns g c = up-met _ _ c.args.node c.args.directory c.numbers-numbers.result c.loop-step._step c.loop-step.at c.numbers-numbers.ensures c.loop-step.invariant.learns (g.T.TreeDisk.are_sound c.loop-step.disk) c.loop-step.auto._step-end c.if-at-node.true

pub returns-then-at-eq-ROOT-clause-learns : goal.returns-then-at-eq-ROOT-clause-learns
returns-then-at-eq-ROOT-clause-learns g c = up-root _ _ c.args.node c.args.directory c.numbers-numbers.result c.loop-step._step c.loop-step.at c.numbers-numbers.ensures c.loop-step.invariant.learns (g.T.TreeDisk.are_sound c.loop-step.disk) c.loop-step.auto._step-end c.if-at-node.false c.if-at-eq-ROOT.true

pub returns-in-Free-clause-learns : goal.returns-in-Free-clause-learns
returns-in-Free-clause-learns g c = up-free _ _ c.args.node c.args.directory c.numbers-numbers.result c.loop-step._step c.loop-step.at c.numbers-numbers.ensures c.loop-step.invariant.learns _ _ c.in_ok-head.ensures.learns c.in-Free.field-0 (g.T.TreeDisk.are_sound c.inode_of.new.disk) c.loop-step-test.true c.if-at-node.false c.in-Free.is

pub loop-step-preserved : goal.loop-step-preserved
loop-step-preserved g c = record {
  first = c.in_ok-head.ensures.first;
  learns = up-used _ _ c.args.node c.args.directory c.numbers-numbers.result c.loop-step._step c.loop-step.at c.numbers-numbers.ensures c.loop-step.invariant.learns _ _ c.in_ok-head.ensures.learns c.in-Used.head c.if-at-node.false c.in-Used.is;
}

pub returns-clause-learns : goal.returns-clause-learns
returns-clause-learns g c = up-end _ _ c.args.node c.args.directory c.numbers-numbers.result c.loop-step._step c.loop-step.at c.numbers-numbers.ensures c.loop-step.invariant.learns (g.T.TreeDisk.are_sound c.loop-step.disk) _ (omega (arith, c.loop-step-test.false, c.loop-step.auto._step-end)) refl
