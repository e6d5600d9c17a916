use Rattle.journal_treecalls.proofs.Learned.{searched-none, searched-some}
use Rattle.journal_treecalls.proofs.node.searched.Goals as goal

pub returns-in-None-clause-learns : goal.returns-in-None-clause-learns
returns-in-None-clause-learns g c = searched-none _ _ c.args.handle _ c.in_ok-node.ensures.learns c.args.caller.now c.in-None.is

pub returns-in-Some-clause-learns : goal.returns-in-Some-clause-learns
returns-in-Some-clause-learns g c = searched-some _ _ c.args.handle _ c.in_ok-node.ensures.learns c.args.caller.now c.in-Some.target c.directory_for.result c.in-Some.is c.directory_for.ensures
