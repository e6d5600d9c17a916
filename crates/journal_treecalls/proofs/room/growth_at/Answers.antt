use Rattle.journal_treecalls.proofs.Rooming.{growth-taken, growth-fits}
use Rattle.journal_treecalls.proofs.room.growth_at.Goals as goal

pub returns-in-Some-clause-learns : goal.returns-in-Some-clause-learns
returns-in-Some-clause-learns g c = growth-taken _ _ _ c.args.directory.now c.args.j c.reach_for-reach.result c.in_ok-old.old _ c.in-Some.new c.reach_for-reach.ensures.is c.in_ok-old.ensures.sized c.in_ok-take_places.ensures.sized
    c.in_ok-old.ensures.learns c.in_ok-take_places.ensures.learns c.in-Some.is

pub returns-in-Some-clause-fits : goal.returns-in-Some-clause-fits
returns-in-Some-clause-fits g c = growth-fits c.args.j c.reach_for-reach.result c.in_ok-old.old _ c.in-Some.new c.requires.few c.reach_for-reach.ensures.is c.reach_for-reach.ensures.fits c.in_ok-old.ensures.sized c.in_ok-take_places.ensures.sized c.in-Some.is
