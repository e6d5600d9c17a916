use Rattle.journal_treecalls.proofs.Learned.{name-hit, name-missed}
use Rattle.journal_treecalls.proofs.lookups.lookup_name.Goals as goal

pub returns-in-Some-clause-learns : goal.returns-in-Some-clause-learns
returns-in-Some-clause-learns g c = name-hit _ _ (g.T.TreeDisk.are_sound c.find.new.disk) c.args.number c.args.directory.now c.args.name.now _ c.in-Some.hit c.found.result c.in_ok-hit.ensures.learns c.in-Some.is c.found.ensures

pub returns-in-None-clause-learns : goal.returns-in-None-clause-learns
returns-in-None-clause-learns g c = name-missed _ _ (g.T.TreeDisk.are_sound c.find.new.disk) c.args.number c.args.directory.now c.args.name.now _ c.in_ok-hit.ensures.learns c.in-None.is
