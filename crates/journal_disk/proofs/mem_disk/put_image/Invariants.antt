use Rattle.std.proofs.Common.{length}
use Rattle.journal_disk.specs.Disks.{Past}
use Rattle.journal_disk.proofs.Choices.{Puts}
use Rattle.journal_disk.proofs.mem_disk.put_image.Given as goal

abbrev pub invariant-loop-block : goal.invariant-loop-block
invariant-loop-block l =
    let first = l.initial.blocks.items in
    let p : Past = record { size = length first; first = first; device = first; events = l.events.events } in
    Puts p l.choice l.block l.next l.blocks.items
