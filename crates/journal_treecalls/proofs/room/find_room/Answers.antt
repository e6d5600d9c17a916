use Rattle.journal_treecalls.proofs.Rooming.{room-some, room-fits}
use Rattle.journal_treecalls.proofs.room.find_room.Goals as goal

pub returns-in_ok-place-in-Some-clause-learns : goal.returns-in_ok-place-in-Some-clause-learns
returns-in_ok-place-in-Some-clause-learns g c = room-some _ _ _ c.args.directory.now c.args.tag _ c.in-Some.number _ c.room_of.result c.in_ok-find_number.ensures.learns c.in-Some.is c.in_ok-place-in-Some.ensures.learns c.room_of.ensures

pub returns-in_ok-place-in-Some-clause-fits : goal.returns-in_ok-place-in-Some-clause-fits
returns-in_ok-place-in-Some-clause-fits g c = room-fits _ c.in-Some.number _ c.room_of.result c.in_ok-find_number.ensures.young c.in-Some.is c.in_ok-place-in-Some.ensures.fits c.room_of.ensures
