use Rattle.journal_treecalls.proofs.Learned.{node-used, node-free, node-high}
use Rattle.journal_treecalls.proofs.node.node.Goals as goal

pub returns-then-count-number-clause-learns : goal.returns-then-count-number-clause-learns
returns-then-count-number-clause-learns g c = node-high _ (g.T.TreeDisk.are_sound c.args.disk.now) c.args.handle c.numbers-count.result c.from-number.result c.numbers-count.ensures c.from-number.ensures c.if-count-number.true

pub returns-in-Used-clause-learns : goal.returns-in-Used-clause-learns
returns-in-Used-clause-learns g c = node-used _ _ c.args.handle c.in_ok-bytes.bytes c.read.result c.in-Used.head c.current.result c.in_ok-bytes.ensures.learns c.read.ensures.read c.in-Used.is c.current.ensures

pub returns-in-Free-clause-learns : goal.returns-in-Free-clause-learns
returns-in-Free-clause-learns g c = node-free _ _ c.args.handle c.in_ok-bytes.bytes c.read.result _ c.in_ok-bytes.ensures.learns c.read.ensures.read c.in-Free.is
