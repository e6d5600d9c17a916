use Rattle.std.proofs.Common.{subst}
use Rattle.journal_treecalls.specs.Rooms.{IsInsidePlace}
use Rattle.journal_treecalls.proofs.Learned.{IfOk-like}
use Rattle.journal_treecalls.proofs.Made.{plants-at}
use Rattle.journal_treecalls.proofs.creation.put_node.Goals as goal

pub plant-requires-clause-inside : goal.plant-requires-clause-inside
plant-requires-clause-inside g c = subst IsInsidePlace c.in-Here.is c.requires.inside

pub plant_further-requires-clause-fits : goal.plant_further-requires-clause-fits
plant_further-requires-clause-fits g c = subst IsInsidePlace c.in-Further.is c.requires.inside

pub returns-in-Here-clause-plants : goal.returns-in-Here-clause-plants
returns-in-Here-clause-plants g c = IfOk-like c.plant.result _ _ (λ made k. plants-at _ _ _ c.args.number c.args.directory.now c.args.name.now c.args.node.now c.args.room.now.number c.args.room.now.place _ c.args.now made c.in-Here.is k) c.plant.ensures.plants

pub returns-in-Further-clause-plants : goal.returns-in-Further-clause-plants
returns-in-Further-clause-plants g c = IfOk-like c.plant_further.result _ _ (λ made k. plants-at _ _ _ c.args.number c.args.directory.now c.args.name.now c.args.node.now c.args.room.now.number c.args.room.now.place _ c.args.now made c.in-Further.is k) c.plant_further.ensures.plants
