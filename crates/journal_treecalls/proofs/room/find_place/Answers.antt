use Rattle.std.proofs.Common.{subst}
use Rattle.journal_treecalls.specs.Rooms.{IsPlaceInside}
use Rattle.journal_treecalls.proofs.Learning.{learns-last}
use Rattle.journal_treecalls.proofs.Learned.{IfOk-like}
use Rattle.journal_treecalls.proofs.Rooming.{place-here}
use Rattle.journal_treecalls.proofs.room.find_place.Goals as goal

pub returns-in-Some-clause-learns : goal.returns-in-Some-clause-learns
returns-in-Some-clause-learns g c = place-here _ _ c.args.directory.now c.args.tag _ c.in-Some.place c.in_ok-place.ensures.learns c.in-Some.is

pub returns-in-Some-clause-fits : goal.returns-in-Some-clause-fits
returns-in-Some-clause-fits g c = subst IsPlaceInside c.in-Some.is c.in_ok-place.ensures.inside

pub returns-in-None-clause-learns : goal.returns-in-None-clause-learns
returns-in-None-clause-learns g c = IfOk-like c.further_place.result _ _ (λ p k. learns-last _ _ _ _ _ c.in_ok-place.ensures.learns k) c.further_place.ensures.learns
