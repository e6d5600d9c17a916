use Rattle.std.proofs.lemmas.Result.{IfOk-weaker}
use Rattle.journal_treestore.specs.Views.{held_of}
use Rattle.journal_treeobjects.specs.Maps.{view_of}
use Rattle.journal_treerule.proofs.Scanning.{refuses, needs-placed, needs-bounds, node-parts}
use Rattle.journal_treerule.proofs.inodes.is_node.Goals as goal

pub returns-then-not-is_in_place-clause-right : goal.returns-then-not-is_in_place-clause-right
returns-then-not-is_in_place-clause-right g c = λ trusted. refuses c.is_in_place.result c.is_in_place.ensures c.if-not-is_in_place.true (needs-placed (view_of c.args.cut (g.O.ObjectReader.map c.args.reader.now)) c.args.number (held_of c.args.head.now c.args.name.now))

pub returns-then-not-is_within_bounds-clause-right : goal.returns-then-not-is_within_bounds-clause-right
returns-then-not-is_within_bounds-clause-right g c = λ trusted. refuses c.is_within_bounds.result c.is_within_bounds.ensures c.if-not-is_within_bounds.true (needs-bounds (view_of c.args.cut (g.O.ObjectReader.map c.args.reader.now)) c.args.number (held_of c.args.head.now c.args.name.now))

pub returns-clause-right : goal.returns-clause-right
returns-clause-right g c = λ trusted.
    IfOk-weaker c.are_blocks_sound.result _ _
    (λ b sound. node-parts (view_of c.args.cut (g.O.ObjectReader.map c.args.reader.now)) c.args.number c.args.head.now c.args.name.now b (c.is_in_place.ensures.0 c.if-not-is_in_place.false) (c.is_within_bounds.ensures.0 c.if-not-is_within_bounds.false) c.are_blocks_sound.ensures.whole sound)
    (c.are_blocks_sound.ensures.sound trusted)
