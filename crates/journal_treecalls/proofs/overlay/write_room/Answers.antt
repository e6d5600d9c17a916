use Rattle.journal_treecalls.proofs.Writes.{room-full, room-written}
use Rattle.journal_treecalls.proofs.Learning.{none-few}
use Rattle.journal_treecalls.proofs.overlay.write_room.Goals as goal

pub returns-in-None-clause-writes : goal.returns-in-None-clause-writes
returns-in-None-clause-writes g c = room-full _ _ _ c.args.caller.now c.args.data.now.offset c.args.data.now.bytes.now c.args.now c.args.number c.args.target.now (λ V m. c.in_ok-old.ensures.learns.before V (c.in_ok-take_places.ensures.learns.before V m)) c.in_ok-take_places.ensures.first

pub returns-in_ok-changed-in-Some-clause-writes : goal.returns-in_ok-changed-in-Some-clause-writes
returns-in_ok-changed-in-Some-clause-writes g c = room-written _ _ _ _ _ c.args.caller.now c.args.data.now.offset c.args.data.now.bytes.now _ c.args.now c.args.number c.args.target.now _ _ c.reach_for-reach.ensures.is
    c.in_ok-old.ensures.sized c.in_ok-take_places.ensures.sized c.in_ok-old.ensures.learns c.in_ok-take_places.ensures.learns c.in-Some.is c.in_ok-changed-in-Some.ensures.writes

pub returns-in-None-clause-few : goal.returns-in-None-clause-few
returns-in-None-clause-few g c = none-few _ _ c.in_ok-take_places.ensures.first
