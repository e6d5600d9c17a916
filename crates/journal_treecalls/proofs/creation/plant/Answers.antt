use Rattle.std.proofs.Common.{ap, ◌∙◌}
use Rattle.journal_treecalls.specs.Rooms.{told_made, new_head}
use Rattle.journal_treecalls.proofs.Learning.{writes-three, none-few, one-more}
use Rattle.journal_treecalls.proofs.Made.{with-new}
use Rattle.journal_treecalls.proofs.creation.plant.Goals as goal

pub returns-clause-plants : goal.returns-clause-plants
returns-clause-plants g c =
    record {
      same = λ V m. c.in_ok-block.ensures.learns.before V (c.in_ok-put_block.ensures.same V (c.in_ok-put_inode.ensures.same V (c.in_ok-put_inode-2.ensures.same V m)));
      written_is = λ time V m. with-new _ V c.args.number c.args.directory.now c.args.room.0 c.args.room.1 c.args.name.now c.args.node.now c.args.now c.in_ok-block.block c.put_entry-entries.result _ _ c.new_entry-entry.result c.moved-head.result c.new_head-new.result c.place_number.result
          (writes-three _ _ _ _ _ _ _ c.in_ok-put_block.ensures.written c.in_ok-put_inode.ensures.written c.in_ok-put_inode-2.ensures.written c.in_ok-block.ensures.first)
          (c.in_ok-block.ensures.learns.now V (c.in_ok-put_block.ensures.same V (c.in_ok-put_inode.ensures.same V (c.in_ok-put_inode-2.ensures.same V m)))) c.put_entry-entries.ensures.written c.new_entry-entry.ensures (c.moved-head.ensures time) c.used_bytes.ensures c.new_head-new.ensures c.place_number.ensures c.new_bytes.ensures;
      told = λ time. c.told_made.ensures ∙ (λ i. told_made c.args.number c.args.directory.now.head (c.moved-head.ensures time i) c.args.room.0.number ((c.new_head-new.ensures ∙ ap (λ p. new_head c.args.number c.args.room.0 p c.args.node.now) c.place_number.ensures) i));
    }

pub returns-clause-few : goal.returns-clause-few
returns-clause-few g c = one-more _ _ _ 2 c.in_ok-put_inode-2.ensures.written (one-more _ _ _ 1 c.in_ok-put_inode.ensures.written (one-more _ _ _ 0 c.in_ok-put_block.ensures.written (none-few _ 0 c.in_ok-block.ensures.first)))
