use Rattle.std.proofs.Common.{subst}
use Rattle.journal_treecalls.specs.Rooms.{IsFitRoom}
use Rattle.journal_treecalls.proofs.Learned.{IfOk-like}
use Rattle.journal_treecalls.proofs.Linked.{room-none, room-some}
use Rattle.journal_treecalls.proofs.Learning.{none-few}
use Rattle.journal_treecalls.proofs.symlinks.link_node.Goals as goal

pub link_within-requires-clause-young : goal.link_within-requires-clause-young
link_within-requires-clause-young g c = (subst IsFitRoom c.in-Some.is c.in_ok-find_room.ensures.fits).0

pub link_within-requires-clause-inside : goal.link_within-requires-clause-inside
link_within-requires-clause-inside g c = (subst IsFitRoom c.in-Some.is c.in_ok-find_room.ensures.fits).1

pub returns-in-None-clause-links : goal.returns-in-None-clause-links
returns-in-None-clause-links g c = room-none _ _ _ c.args.number c.args.directory.now c.args.name.now c.args.wanted.now.plan.node c.args.wanted.now.text.now c.args.now c.in_ok-find_room.ensures.learns.before c.in_ok-find_room.ensures.first

pub returns-in-Some-clause-links : goal.returns-in-Some-clause-links
returns-in-Some-clause-links g c = IfOk-like c.link_within.result _ _ (λ reply k. room-some _ _ _ _ c.args.number c.args.directory.now c.args.name.now c.args.wanted.now.plan.node c.args.wanted.now.text.now c.in-Some.room c.args.now _ reply c.tag_of.result c.in_ok-find_room.ensures.learns c.tag_of.ensures c.in-Some.is k) c.link_within.ensures.links

pub returns-in-None-clause-few : goal.returns-in-None-clause-few
returns-in-None-clause-few g c = none-few _ 11 c.in_ok-find_room.ensures.first
