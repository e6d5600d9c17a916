use Rattle.journal_treecalls.proofs.Unowned.{had-high, had-free, had-used}
use Rattle.journal_treecalls.proofs.room.is_had.Goals as goal

pub returns-then-count-number-clause-learns : goal.returns-then-count-number-clause-learns
returns-then-count-number-clause-learns g c = had-high _ (g.T.TreeDisk.are_sound c.args.disk.now) c.args.block c.args.owner c.numbers-count.result c.from-number.result c.numbers-count.ensures c.from-number.ensures c.if-count-number.true

pub returns-in_ok-has-in-Used-clause-learns : goal.returns-in_ok-has-in-Used-clause-learns
returns-in_ok-has-in-Used-clause-learns g c = had-used _ _ _ c.args.block c.args.owner _ c.in-Used.head c.in_ok-has-in-Used.has c.in_ok-head.ensures.learns c.in-Used.is c.in_ok-has-in-Used.ensures.learns

pub returns-in-Free-clause-learns : goal.returns-in-Free-clause-learns
returns-in-Free-clause-learns g c = had-free _ _ c.args.block _ c.args.owner _ c.in_ok-head.ensures.learns c.in-Free.is
