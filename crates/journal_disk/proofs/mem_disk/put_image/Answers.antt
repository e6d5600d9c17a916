use Rattle.std.proofs.Common.{length, inl, inr, rules, arith}
use Rattle.std.specs.Option.{option_copied}
use Rattle.journal_disk.specs.Disks.{Past}
use Rattle.journal_disk.proofs.Choices.{puts_more, puts_all}
use Rattle.journal_disk.proofs.mem_disk.put_image.Goals as goal
use Rattle.journal_disk.proofs.mem_disk.put_image.Goals.{then-pending-gt0, else-pending-gt0}

pub loop-block-preserved : goal.loop-block-preserved
loop-block-preserved c =
    let blocks = c.args.blocks.now.items in
    let p : Past = record { size = length blocks; first = blocks; device = blocks; events = c.args.events.now.events } in
    puts_more p c.args.choice.now c.loop-block.block c.loop-block.next _ c.number_at-number.result _ _ (option_copied c.chosen.result)
    (search rules) c.loop-block.invariant
    (elim c.if-pending-gt0.branch [
      | then-pending-gt0 w ↦ inl (omega (arith, c.pending.ensures, w.if-pending-gt0.true), w.next-is)
      | else-pending-gt0 w ↦ inr (omega (arith, c.pending.ensures, w.if-pending-gt0.false), w.next-is)
    ])
    c.number_at-number.ensures c.chosen.ensures c.put_block.ensures

pub returns-clause-image : goal.returns-clause-image
returns-clause-image c first = puts_all _ c.args.choice.now c.loop-block.block c.loop-block.next _ (search rules) c.loop-block.invariant
