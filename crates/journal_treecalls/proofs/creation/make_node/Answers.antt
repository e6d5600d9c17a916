use Rattle.std.proofs.Common.{subst}
use Rattle.journal_treecalls.specs.Rooms.{IsFitRoom}
use Rattle.journal_treecalls.proofs.Made.{node-none, node-some}
use Rattle.journal_treecalls.proofs.Learning.{none-few}
use Rattle.journal_treecalls.proofs.creation.make_node.Goals as goal

pub put_node-requires-clause-young : goal.put_node-requires-clause-young
put_node-requires-clause-young g c = (subst IsFitRoom c.in-Some.is c.in_ok-find_room.ensures.fits).0

pub put_node-requires-clause-inside : goal.put_node-requires-clause-inside
put_node-requires-clause-inside g c = (subst IsFitRoom c.in-Some.is c.in_ok-find_room.ensures.fits).1

pub returns-in-None-clause-makes : goal.returns-in-None-clause-makes
returns-in-None-clause-makes g c = node-none _ _ _ c.args.number c.args.directory.now c.args.name.now c.args.node.now c.args.now c.in_ok-find_room.ensures.learns.before c.in_ok-find_room.ensures.first

pub returns-in_ok-made-in-Some-clause-makes : goal.returns-in_ok-made-in-Some-clause-makes
returns-in_ok-made-in-Some-clause-makes g c = node-some _ _ _ _ c.args.number c.args.directory.now c.args.name.now c.args.node.now c.in-Some.room c.args.now _ _ c.tag_of.result c.in_ok-find_room.ensures.learns c.tag_of.ensures c.in-Some.is c.in_ok-made-in-Some.ensures.plants

pub returns-in-None-clause-few : goal.returns-in-None-clause-few
returns-in-None-clause-few g c = none-few _ 8 c.in_ok-find_room.ensures.first
