use Rattle.std.proofs.Common.{subst}
use Rattle.journal_treecalls.specs.Rooms.{IsLowBlock, IsFitGrowthAt}
use Rattle.journal_treecalls.proofs.Rooming.{place-further}
use Rattle.journal_treecalls.proofs.room.further_place.Goals as goal

pub growth_at-requires-clause-few : goal.growth_at-requires-clause-few
growth_at-requires-clause-few g c = subst IsLowBlock c.in-Some.is c.in_ok-further_block.ensures.few

pub returns-in-Some-2-clause-learns : goal.returns-in-Some-2-clause-learns
returns-in-Some-2-clause-learns g c = place-further _ _ _ c.args.directory.now c.args.tag _ c.in-Some.j _ c.in-Some-2.growth c.in_ok-further_block.ensures.learns c.in-Some.is c.in_ok-growth_at-in-Some.ensures.learns c.in-Some-2.is

pub returns-in-Some-2-clause-fits : goal.returns-in-Some-2-clause-fits
returns-in-Some-2-clause-fits g c = subst IsFitGrowthAt c.in-Some-2.is c.in_ok-growth_at-in-Some.ensures.fits
