use Rattle.journal_treecalls.proofs.Learned.{named-used, named-free}
use Rattle.journal_treecalls.proofs.search.named.Goals as goal

pub returns-in-Used-clause-learns : goal.returns-in-Used-clause-learns
returns-in-Used-clause-learns g c = named-used _ _ c.args.number c.args.name.now c.in_ok-bytes.bytes c.read.result c.in-Used.head c.if_named.result c.in_ok-bytes.ensures.learns c.read.ensures.read c.in-Used.is c.if_named.ensures

pub returns-in-Free-clause-learns : goal.returns-in-Free-clause-learns
returns-in-Free-clause-learns g c = named-free _ _ c.args.number c.args.name.now c.in_ok-bytes.bytes c.read.result _ c.in_ok-bytes.ensures.learns c.read.ensures.read c.in-Free.is
