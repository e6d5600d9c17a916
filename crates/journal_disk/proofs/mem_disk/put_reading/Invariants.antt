use Rattle.journal_disk.specs.Disks.{Past, read_of}
use Rattle.journal_disk.proofs.Fillings.{Fills}
use Rattle.std.proofs.Common.{length}
use Rattle.journal_disk.proofs.mem_disk.put_reading.Given as goal

abbrev pub invariant-loop-block : goal.invariant-loop-block
invariant-loop-block l =
    let first = l.initial.blocks.items in
    let p : Past = record { size = length first; first = first; device = first; events = l.events.events } in
    Fills (read_of p) first l.block l.blocks.items
