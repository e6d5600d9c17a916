use Rattle.journal_treecalls.proofs.Learned.{inode-is}
use Rattle.journal_treecalls.proofs.node.inode_of.Goals as goal

pub returns-clause-learns : goal.returns-clause-learns
returns-clause-learns g c = inode-is _ _ c.args.number c.in_ok-bytes.bytes c.read.result c.in_ok-bytes.ensures.learns c.read.ensures.read
