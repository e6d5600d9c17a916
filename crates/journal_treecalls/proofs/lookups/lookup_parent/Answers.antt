use Rattle.journal_treecalls.proofs.Learned.{parent-used, parent-free}
use Rattle.journal_treecalls.proofs.lookups.lookup_parent.Goals as goal

pub returns-in-Used-clause-learns : goal.returns-in-Used-clause-learns
returns-in-Used-clause-learns g c = parent-used _ _ (g.T.TreeDisk.are_sound c.inode_of.new.disk) c.args.number c.args.directory.now c.number_above-above.result _ c.in-Used.node c.found.result c.in_ok-node.ensures.learns c.in-Used.is c.number_above-above.ensures c.found.ensures

pub returns-in-Free-clause-learns : goal.returns-in-Free-clause-learns
returns-in-Free-clause-learns g c = parent-free _ _ (g.T.TreeDisk.are_sound c.inode_of.new.disk) c.args.number c.args.directory.now c.number_above-above.result _ _ c.in_ok-node.ensures.learns c.in-Free.is c.number_above-above.ensures
