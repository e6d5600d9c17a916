use Rattle.std.proofs.Common.{ap, ◌∙◌, arith}
use Rattle.journal_treestore.specs.declared.inode.Head.{Head}
use Rattle.journal_treecalls.specs.Names.{moved}
use Rattle.journal_treecalls.specs.Rooms.{told_made, new_head}
use Rattle.journal_treecalls.proofs.Learning.{none-few, one-longer}
use Rattle.journal_treecalls.proofs.Made.{writes-two, begun, with-new-block, time-of-grown}
use Rattle.journal_treecalls.proofs.creation.plant_further.Goals as goal

pub returns-clause-plants : goal.returns-clause-plants
returns-clause-plants g c =
    let new = c.new_head-new.ensures ∙ ap (λ p. new_head c.args.number c.args.room.0 p c.args.node.now) c.first_place.ensures in
    let time-is = time-of-grown c.args.directory.now.head c.grown.result c.args.room.1.now c.grown.ensures in
    record {
      same = λ V m. c.in_ok-put_growth.ensures.lays.same V (c.in_ok-put_inode.ensures.same V (c.in_ok-put_inode-2.ensures.same V m));
      written_is = λ time V m. with-new-block _ _ V c.args.number c.args.directory.now c.args.room.0 c.args.room.1.now c.args.name.now c.args.node.now c.args.now c.in_ok-zeros.zeros c.put_entry-entries.result c.bytes.result.now _ _ c.new_entry.result c.grown.result c.moved-head.result c.new_head-new.result
          (writes-two _ _ _ _ _ c.in_ok-put_inode.ensures.written c.in_ok-put_inode-2.ensures.written)
          (begun _ _ _ _ c.args.number c.args.room.1.now c.bytes.result.now _ c.in_ok-put_growth.ensures.lays c.requires.first V)
          c.in_ok-zeros.ensures.zeros c.put_entry-entries.ensures.written c.bytes.ensures c.new_entry.ensures c.grown.ensures
          (c.moved-head.ensures (time-is time)) c.used_bytes.ensures new c.new_bytes.ensures;
      told = λ time. c.told_made.ensures ∙ (λ i. told_made c.args.number c.args.directory.now.head ((c.moved-head.ensures (time-is time) ∙ ap (λ (h : Head). moved h c.args.now) c.grown.ensures) i) c.args.room.0.number (new i));
    }

pub returns-clause-few : goal.returns-clause-few
returns-clause-few g c = let none = none-few _ 0 c.requires.first in omega (arith, none, c.in_ok-put_growth.ensures.few, one-longer _ _ _ c.in_ok-put_inode.ensures.written, one-longer _ _ _ c.in_ok-put_inode-2.ensures.written)
