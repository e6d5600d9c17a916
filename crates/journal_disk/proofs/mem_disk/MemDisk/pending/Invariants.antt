use Rattle.std.proofs.Common.{◌≡◌}
use Rattle.journal_disk.specs.MemDisks.{pending_below}
use Rattle.journal_disk.proofs.mem_disk.MemDisk.pending.Given as goal

abbrev pub invariant-loop-block : goal.invariant-loop-block
invariant-loop-block g l = l.pending.items ≡ pending_below l.self.past l.block
